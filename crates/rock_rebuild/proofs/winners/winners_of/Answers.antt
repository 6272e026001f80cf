use Rattle.std.proofs.Common.{◌≡◌, ◌<◌, length, None, sym, subst, arith}
use Rattle.std.specs.Prelude.{MatchOption}
use Rattle.std.proofs.lemmas.List.{get_or_default}
use Rattle.rebuild_model.specs.Keeping.{HasNoneAt, IsKept, AreWinners}
use Rattle.rock_rebuild.specs.Best.{found_at}
use Rattle.rock_rebuild.proofs.winners.winners_of.Goals as goal

pub loop-place-init : goal.loop-place-init
loop-place-init c slot images anchors kept = subst (AreWinners slot images anchors 0) (sym c.new-winners.ensures.items) (c.winners_are_gathered.ensures.none slot images anchors)

pub loop-place-preserved : goal.loop-place-preserved
loop-place-preserved c slot images anchors kept =
    let found = c.args.found.now in
    let best = c.args.best.now in
    let i = c.loop-place.place-index in
    let inside : i < length best = omega (arith, c.loop-place-test.true) in
    let below : i < anchors = omega (arith, inside, kept.count) in
    c.in_ok-push_winner.ensures slot images anchors i (c.loop-place.invariant slot images anchors kept)
    (subst (λ o. MatchOption (found_at found o) (HasNoneAt slot images anchors i) (IsKept slot images anchors i)) (sym (get_or_default best i _ None inside)) (kept.each i below))

pub returns : goal.returns
returns c slot images anchors kept =
    let all : c.loop-place.place-index ≡ anchors = omega (arith, kept.count, c.loop-place-test.false) in
    subst (λ n. AreWinners slot images anchors n c.loop-place.winners.items) all (c.loop-place.invariant slot images anchors kept)
