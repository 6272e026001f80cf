use Rattle.std.proofs.Common.{[], arith, refl, ◌∷◌}
use Rattle.line_account.specs.Alone.{alone}
use Rattle.line_account.specs.Crews.KnewOf.{own}
use Rattle.line_account.proofs.UnexplainedOrder.{put_later}
use Rattle.line_account.proofs.absurd_order.no_version_falls.Goals as goal

pub returns : goal.returns
returns c start r script w p q url other body next x y rules is pq pa qq qa low =
    let later = put_later r script (alone w) rules p q url other body next x y pq pa qq qa 0 w refl (p ∷ []) is (own (record { later = []; split = refl })) in
    omega arith
