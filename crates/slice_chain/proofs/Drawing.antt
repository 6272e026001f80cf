-- Steps that drew no version, behind others that drew none.
use Rattle.std.proofs.Common.{List, [], arith, ◌+◌, ◌++◌, ◌≡◌, ◌∷◌}
use Rattle.core_model.specs.Trails.{draws}
use Rattle.core_model.specs.declared.view.Item.{Item}

draws-append : (xs ys : List Item) → draws (xs ++ ys) ≡ draws xs + draws ys
draws-append [] ys = omega arith
draws-append (x ∷ xs) ys = let e = draws-append xs ys in omega arith

pub none_drawn : (xs ys : List Item) → draws xs ≡ 0 → draws ys ≡ 0 → draws (xs ++ ys) ≡ 0
none_drawn xs ys h k = let e = draws-append xs ys in omega arith
