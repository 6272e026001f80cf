use Rattle.std.proofs.Common.{◌≡◌, subst, arith}
use Rattle.rock_rebuild.specs.Best.{AreBest}
use Rattle.rock_rebuild.proofs.best.best_of.Goals as goal

pub loop-place-init : goal.loop-place-init
loop-place-init c = (λ up. c.in_ok-best.ensures c.args.found.now, (c.in_ok-best.ensures c.args.found.now).count)

pub returns : goal.returns
returns c up =
    let all : c.loop-place.place ≡ 0 = omega arith in
    subst (λ n. AreBest c.args.anchors c.args.found.now n c.loop-place.best.items) all (c.loop-place.invariant.0 up)
