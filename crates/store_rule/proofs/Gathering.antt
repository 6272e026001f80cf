-- Passes that were popped from a list, and their views in a row.
use Rattle.std.proofs.Common.{List, [], ap, sym, ◌++◌, ◌≡◌, ◌∙◌, ◌∷◌, ℕ}
use Rattle.std.proofs.lemmas.List.{append_assoc, map-append}
use Rattle.core_model.specs.declared.view.View.{View}
use Rattle.store_rule.specs.declared.store.Pass.{Pass}
use Rattle.store_rule.specs.Closing.{views_of}
use Rattle.store_rule.specs.Passes.{view}

module _ {C : Type 0} where
  -- the last of them has its view at its seat
  pub views_end : (front : List (Pass C)) (last : Pass C) (passes : List (Pass C)) → passes ≡ front ++ last ∷ [] → views_of passes ≡ views_of front ++ last.seat.me.0
  views_end front last passes is = ap views_of is ∙ map-append view front (last ∷ []) ∙ ap (λ (z : List (View (List ℕ))). views_of front ++ z) (sym last.one)

  pub row_grows : (all : List (View (List ℕ))) (front : List (Pass C)) (last : Pass C) (passes : List (Pass C)) (row : List (View (List ℕ))) → passes ≡ front ++ last ∷ [] → all ≡ views_of passes ++ row
      → all ≡ views_of front ++ (last.seat.me.0 ++ row)
  row_grows all front last passes row is h = h ∙ ap (λ (z : List (View (List ℕ))). z ++ row) (views_end front last passes is) ∙ append_assoc (views_of front) last.seat.me.0 row
