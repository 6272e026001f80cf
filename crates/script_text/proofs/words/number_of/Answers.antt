use Rattle.std.proofs.Common.{Some, sym, ◌∙◌, ap}
use Rattle.std.specs.Prelude.{decimal}
use Rattle.script_text.proofs.Numbers.{parsed_number, never_refused, never_differ, number_is_text}
use Rattle.script_text.proofs.words.number_of.Goals as goal

pub returns-in_default-clause-none : goal.returns-in_default-clause-none
returns-in_default-clause-none c n fits spelled = absurd (c.in_default.ensures.cases.0 (number_is_text _ n fits spelled))

pub returns-in_default-parse-clause-none : goal.returns-in_default-parse-clause-none
returns-in_default-parse-clause-none c n fits spelled =
    absurd (never_refused c.in-Ok.text.now c.parse.result _ n fits (c.in-Ok.ensures.cases.0 ∙ spelled) c.parse.ensures.value.0 c.in_default-parse.is)

pub returns-then-eq-clause-none : goal.returns-then-eq-clause-none
returns-then-eq-clause-none c n fits spelled =
    ap Some (parsed_number c.in-Ok.text.now c.parse.result c.in-Ok-parse.number n fits (c.in-Ok.ensures.cases.0 ∙ spelled) c.parse.ensures.value.0 c.in-Ok-parse.is)

pub returns-else-eq-clause-none : goal.returns-else-eq-clause-none
returns-else-eq-clause-none c n fits spelled =
    let text = c.in-Ok.ensures.cases.0 ∙ spelled in
    let same = parsed_number c.in-Ok.text.now c.parse.result c.in-Ok-parse.number n fits text c.parse.ensures.value.0 c.in-Ok-parse.is in
    absurd (never_differ _ _ (c.format.ensures.text ∙ ap decimal same ∙ sym text) c.if-eq.ensures)
