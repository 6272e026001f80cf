use Rattle.std.proofs.Common.{◌≡◌, ◌<◌, length, None, refl, sym, subst, ◌∙◌, arith}
use Rattle.std.specs.Prelude.{All}
use Rattle.std.proofs.lemmas.List.{get_or_default}
use Rattle.rebuild_model.specs.Image.{image_at}
use Rattle.rock_rebuild.specs.Kept.{TellsHead}
use Rattle.rock_rebuild.specs.Candidates.{AreFoundAs}
use Rattle.rock_rebuild.proofs.Following.{all_left}
use Rattle.rock_rebuild.proofs.CandidateLists.{none_yet_as}
use Rattle.rock_rebuild.proofs.candidates.candidates_of.Goals as goal

pub loop-first-init : goal.loop-first-init
loop-first-init c = (
  λ images file headers heads. (all_left c.args.slot images c.args.table.now headers, none_yet_as c.args.anchors c.args.slot images c.new-candidates.result.items c.new-candidates.ensures.items),
  refl,
  subst (All (λ x. x.anchor < c.args.anchors)) (sym c.new-candidates.ensures.items) (λ k d within. absurd (omega (arith, within))),
)

pub loop-first-preserved : goal.loop-first-preserved
loop-first-preserved c = (
  λ images file headers heads.
      let so = c.loop-first.invariant.0 images file headers heads in
      let within : c.loop-first.first < length images = omega (arith, heads.count, c.loop-first-test.true) in
      let inside : c.loop-first.first < length c.args.heads.now = omega (arith, heads.count, within) in
      let head_is = get_or_default c.args.heads.now c.loop-first.first _ None inside in
      let candidate = c.in_ok-candidate.ensures.found images file so.0 (subst (TellsHead (length images) c.args.slot c.loop-first.first (image_at images c.loop-first.first) c.args.urls.now) (sym head_is) (heads.each c.loop-first.first within)) in
      (candidate.0, c.in_ok-push_candidate.ensures.found c.args.anchors c.args.slot images c.loop-first.first so.1 candidate.1),
  c.in_ok-candidate.ensures.length ∙ c.loop-first.invariant.1,
  c.in_ok-push_candidate.ensures.below c.args.anchors c.loop-first.invariant.2 c.in_ok-candidate.ensures.below,
)

pub returns-clause-found : goal.returns-clause-found
returns-clause-found c images file headers heads =
    let all : c.loop-first.first ≡ length images = omega (arith, heads.count, c.loop-first-test.false) in
    subst (λ n. AreFoundAs c.args.anchors c.args.slot images n c.loop-first.candidates.items) all ((c.loop-first.invariant.0 images file headers heads).1)
