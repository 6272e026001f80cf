-- The parts of a core that was just opened, one more at a time.
use Rattle.std.proofs.Common.{◌≡◌, ◌+◌, ℕ, zero, suc, List, [], ◌∷◌, ◌++◌, map, ap, ◌∙◌, arith}
use Rattle.std.proofs.lemmas.List.{map-append}
use Rattle.core_model.specs.declared.view.View.{View}
use Rattle.core_model.specs.Layout.{Setting}
use Rattle.core_model.specs.Opening.{new_view, new_views}
use Rattle.core_table.specs.declared.content.Content.{Content}
use Rattle.core_table.specs.declared.content.Content.TheVariants.{Opened}
use Rattle.core_table.specs.Machine.{opened_from}
use Rattle.core_table.specs.New.{cell_of}

opened_more : (from n : ℕ) → opened_from from (suc n) ≡ opened_from from n ++ Opened (from + n) ∷ []
opened_more from zero = ap (λ i. Opened i ∷ []) (omega arith)
opened_more from (suc n) = ap (λ (xs : List Content). Opened from ∷ xs) (opened_more (from + 1) n ∙ ap (λ i. opened_from (from + 1) n ++ Opened i ∷ []) (omega arith))

pub places_more : (n : ℕ) → map cell_of (opened_from 0 (n + 1)) ≡ map cell_of (opened_from 0 n) ++ cell_of (Opened n) ∷ []
places_more n =
    let more : n + 1 ≡ suc n = omega arith in
    ap (λ i. map cell_of (opened_from 0 i)) more ∙ ap (map cell_of) (opened_more 0 n ∙ ap (λ i. opened_from 0 n ++ Opened i ∷ []) (omega arith)) ∙ map-append cell_of (opened_from 0 n) (Opened n ∷ [])

views_from : (k : Setting Content) (from n : ℕ) → new_views k from (suc n) ≡ new_views k from n ++ new_view k (from + n) ∷ []
views_from k from zero = ap (λ i. new_view k i ∷ []) (omega arith)
views_from k from (suc n) = ap (λ (vs : List (View Content)). new_view k from ∷ vs) (views_from k (from + 1) n ∙ ap (λ i. new_views k (from + 1) n ++ new_view k i ∷ []) (omega arith))

pub views_more : (k : Setting Content) (n : ℕ) → new_views k 0 (n + 1) ≡ new_views k 0 n ++ new_view k n ∷ []
views_more k n =
    let more : n + 1 ≡ suc n = omega arith in
    ap (new_views k 0) more ∙ views_from k 0 n ∙ ap (λ i. new_views k 0 n ++ new_view k i ∷ []) (omega arith)
