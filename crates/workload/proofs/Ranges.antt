-- Lists over ranges of numbers, one number further.
use Rattle.std.proofs.Common.{◌≡◌, ℕ, ◌+◌, ◌<◌, List, [], ◌∷◌, ◌++◌, map, length, Bool, cond, get_or, arith, sym, ap, ◌∙◌}
use Rattle.std.specs.List.{range_with_len, filter}
use Rattle.std.proofs.lemmas.List.{map-id}
use Rattle.std.proofs.lemmas.List.FromFn.{map-range_with_len_more, filter_of_map_range_with_len_more, length-map-range_with_len, get_or-map-range_with_len}

pub range_more : (n : ℕ) → range_with_len 0 (n + 1) ≡ range_with_len 0 n ++ n ∷ []
range_more n =
    let e = map-range_with_len_more (λ (x : ℕ). x) 0 n n (omega arith) in
    sym (map-id (range_with_len 0 (n + 1))) ∙ e ∙ ap (λ (xs : List ℕ). xs ++ n ∷ []) (map-id (range_with_len 0 n))

pub filter_range_more : (p : ℕ → Bool) (n : ℕ) → filter p (range_with_len 0 (n + 1)) ≡ filter p (range_with_len 0 n) ++ cond (p n) (n ∷ []) []
filter_range_more p n =
    let e = filter_of_map_range_with_len_more p (λ (x : ℕ). x) 0 n n (omega arith) in
    ap (filter p) (sym (map-id (range_with_len 0 (n + 1)))) ∙ e
    ∙ ap (λ (xs : List ℕ). filter p xs ++ cond (p n) (n ∷ []) []) (map-id (range_with_len 0 n))

pub map_range_more : {X : Type 0} (f : ℕ → X) (n : ℕ) → map f (range_with_len 0 (n + 1)) ≡ map f (range_with_len 0 n) ++ f n ∷ []
map_range_more f n = map-range_with_len_more f 0 n n (omega arith)

pub length_listed : (f : ℕ → ℕ) (n : ℕ) (xs : List ℕ) → xs ≡ map f (range_with_len 0 n) → length xs ≡ n
length_listed f n xs e = ap length e ∙ length-map-range_with_len f 0 n

pub at_listed : (f : ℕ → ℕ) (n i : ℕ) (xs : List ℕ) → xs ≡ map f (range_with_len 0 n) → i < n → get_or xs i 0 ≡ f i
at_listed f n i xs e h = ap (λ (ys : List ℕ). get_or ys i 0) e ∙ get_or-map-range_with_len f 0 n i i 0 h (omega arith)
