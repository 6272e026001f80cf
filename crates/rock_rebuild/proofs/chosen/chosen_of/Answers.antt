use Rattle.std.proofs.Common.{◌≡◌, ◌+◌, ◌-◌, ◌<◌, [], length, drop, refl, ap, sym, subst, ◌∙◌, arith}
use Rattle.std.specs.List.{slice_get}
use Rattle.std.proofs.lemmas.List.{length-map}
use Rattle.std.proofs.lemmas.Option.{slice_get-get_or}
use Rattle.rock_rebuild.specs.Candidates.{candidate_of, AreBestAs}
use Rattle.rock_rebuild.proofs.Cells.{filled}
use Rattle.rock_rebuild.proofs.BestCandidates.{told_at}
use Rattle.rock_rebuild.proofs.chosen.chosen_of.Goals as goal

pub loop-place-init : goal.loop-place-init
loop-place-init c = (
  λ found up told. subst (λ n. AreBestAs c.args.anchors found n c.in_ok-best.best.items) (sym (ap length told ∙ length-map found (candidate_of c.args.anchors))) (c.in_ok-best.ensures found),
  (c.in_ok-best.ensures []).count,
)

pub loop-place-preserved : goal.loop-place-preserved
loop-place-preserved c =
    let best = c.loop-place.best.items in
    let whole = filled c.choose.new.best (drop (length c.choose.new.best) best) c.loop-place.best.len (c.choose.auto.best ∙ c.deref_mut.ensures.len) in (
      λ found up told.
          let place = c.loop-place.place - 1 in
          let next : c.loop-place.place ≡ place + 1 = omega arith in
          let inside : place < length c.args.candidates.now = omega arith in
          let was : AreBestAs c.args.anchors found (place + 1) best = subst (λ n. AreBestAs c.args.anchors found n best) next (c.loop-place.invariant.0 found up told) in
          subst (AreBestAs c.args.anchors found place) (sym whole)
          (c.choose.ensures.best c.args.anchors found place up (told_at c.args.anchors place c.args.candidates.now found _ (slice_get found place) refl told (slice_get-get_or c.args.candidates.now place _ inside))
          (subst (AreBestAs c.args.anchors found (place + 1)) (sym c.deref_mut.ensures.value) was)),
      ap length whole ∙ c.choose.ensures.count ∙ ap length c.deref_mut.ensures.value ∙ c.loop-place.invariant.1,
    )

pub returns-clause-best : goal.returns-clause-best
returns-clause-best c found up told =
    let all : c.loop-place.place ≡ 0 = omega arith in
    subst (λ n. AreBestAs c.args.anchors found n c.loop-place.best.items) all (c.loop-place.invariant.0 found up told)
