use Rattle.std.proofs.Common.{[], arith, refl, ◌∷◌}
use Rattle.line_account.proofs.UnexplainedReaders.{first_counted}
use Rattle.line_account.proofs.absurd_tabs.nothing_has_more_readers_than_tabs.Goals as goal

pub returns : goal.returns
returns c start r script u w p url body looked other rules is pq pa more =
    let counted = (first_counted r script (u ∷ w ∷ []) rules p url body looked other pq pa 1 w refl [] is).most in
    omega arith
