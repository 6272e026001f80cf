use Rattle.std.proofs.Common.{[], arith, refl, ◌∷◌}
use Rattle.line_account.specs.Crews.KnewOf.{own, told}
use Rattle.line_account.proofs.UnexplainedOrder.{put_later}
use Rattle.line_account.proofs.absurd_order.no_version_falls_behind_a_mark.Goals as goal

pub returns : goal.returns
returns c start r script v w p a b q url other body next x y m rules vs ws pq pa aq bq ba qq qa low =
    let later = put_later r script (v ∷ w ∷ []) rules p q url other body next x y pq pa qq qa 1 w refl (b ∷ []) ws
    (told
    (record { mark = m; met = b; between = []; awaits = record { later = []; split = refl }; asked = bq; meets = ba; j = 0; worker = v; at = refl; setter = a; sets = record { later = []; split = vs }; set = aq })
    (own (record { later = []; split = refl }))) in
    omega arith
