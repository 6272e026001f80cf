use Rattle.std.proofs.Common.{◌+◌, ◌∙◌, arith}
use Rattle.std.proofs.lemmas.List.{take_rest}
use Rattle.script_text.proofs.Made.{some_colon, count_before, tail_behind}
use Rattle.script_text.proofs.fields.made_of.Goals as goal

pub returns-in_default : goal.returns-in_default
returns-in_default c count shift few small is = some_colon c.args.word.now count _ c.in_default.ensures is

pub returns-in_default-number_within : goal.returns-in_default-number_within
returns-in_default-number_within c count shift few small is =
    c.in_default-number_within.ensures (count, omega arith, few, count_before c.args.word.now c.in-Some.at count _ (omega arith) c.in-Some.ensures is)

pub returns-in_default-number_within-2 : goal.returns-in_default-number_within-2
returns-in_default-number_within-2 c count shift few small is =
    c.in_default-number_within-2.ensures (shift, omega arith, small, take_rest c.args.word.now (c.in-Some.at + 1) ∙ tail_behind c.args.word.now c.in-Some.at count _ (omega arith) c.in-Some.ensures is)
