use Rattle.std.proofs.Common.{ap, drop, sym, ◌∙◌, ℕ}
use Rattle.std.proofs.lemmas.Bool.{false≢true}
use Rattle.std.proofs.lemmas.List.{take_rest}
use Rattle.rock_reader.proofs.Metadata.{no_bytes, not_same, spelled_length}
use Rattle.rock_reader.proofs.bodies.behind_meta.Goals as goal
use Rattle.rock_reader.proofs.bodies.behind_meta.Goals.{then-is_empty-via-then-is_empty, then-is_empty-via-else-is_empty+then-ne}

pub returns-in_default-clause-some : goal.returns-in_default-clause-some
returns-in_default-clause-some c = ((λ e. absurd (false≢true e)), (λ h. absurd (c.in_default.ensures.only h.1.key c.args.url.now h.1.size h.1.spelled)))

pub returns-then-is_empty-clause-some : goal.returns-then-is_empty-clause-some
returns-then-is_empty-clause-some c = (
  (λ e. absurd (false≢true e)),
  (λ h. absurd (elim c.then-is_empty.branch [
    | then-is_empty-via-then-is_empty w ↦ h.0 (no_bytes c.args.url.now (sym c.is_empty.ensures ∙ w.if-is_empty.true))
    | then-is_empty-via-else-is_empty+then-ne w ↦ not_same c.in-Ok.meta.url.now c.args.url.now (sym w.ne.ensures ∙ w.if-ne.true) (c.in-Ok.ensures.only h.1.key c.args.url.now h.1.size h.1.spelled).1
  ])),
)

pub returns-clause-value : goal.returns-clause-value
returns-clause-value c = take_rest c.args.payload.now c.in-Ok.meta.length ∙ ap (λ (n : ℕ). drop n c.args.payload.now) (sym (spelled_length c.args.payload.now c.in-Ok.meta.key c.in-Ok.meta.url.now c.in-Ok.meta.length c.in-Ok.ensures.found))
