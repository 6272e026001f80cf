use Rattle.std.proofs.Common.{Some, sym, ◌∙◌, ap}
use Rattle.std.specs.Prelude.{decimal}
use Rattle.rock_commands.proofs.Numbers.{parsed_number, never_refused, never_differ}
use Rattle.rock_commands.proofs.command.long_number.Goals as goal

pub returns-in_default-clause-none : goal.returns-in_default-clause-none
returns-in_default-clause-none c n fits spelled =
    absurd (never_refused c.args.word.now c.parse.result _ n fits spelled c.parse.ensures.value.0 c.in_default.is)

pub returns-then-eq-clause-none : goal.returns-then-eq-clause-none
returns-then-eq-clause-none c n fits spelled =
    ap Some (parsed_number c.args.word.now c.parse.result c.in-Ok.number n fits spelled c.parse.ensures.value.0 c.in-Ok.is)

pub returns-else-eq-clause-none : goal.returns-else-eq-clause-none
returns-else-eq-clause-none c n fits spelled =
    let same = parsed_number c.args.word.now c.parse.result c.in-Ok.number n fits spelled c.parse.ensures.value.0 c.in-Ok.is in
    absurd (never_differ _ _ (c.format.ensures.text ∙ ap decimal same ∙ sym spelled) c.if-eq.ensures)
