use Rattle.std.proofs.Common.{[], arith, refl, ◌∷◌}
use Rattle.line_account.specs.Alone.{alone}
use Rattle.line_account.proofs.UnexplainedReaders.{first_counted, opened_counts}
use Rattle.line_account.proofs.absurd_tabs.no_own_tab_is_uncounted.Goals as goal

pub returns : goal.returns
returns c start r script w o p url body x looked other rules is oq oa pq pa none =
    let counted = (first_counted r script (alone w) rules p url body looked other pq pa 0 w refl (o ∷ []) is).least in
    let own = opened_counts r o url x oq oa in
    omega arith
