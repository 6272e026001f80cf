-- Names that are all different, since each is longer than those before it.
use Rattle.std.proofs.Common.{List, Some, [], ap, arith, inl, inr, length, length-append, map, ◌++◌, ◌+◌, ◌<◌, ◌≡◌, ◌≤◌, ◌⊎◌, ◌∙◌, ◌∷◌, ℕ}
use Rattle.std.proofs.lemmas.Bool.{cases_lt}
use Rattle.std.proofs.lemmas.List.{length-map, map-append}
use Rattle.std.proofs.lemmas.Option.{slice_get_within}
use Rattle.std.specs.Prelude.{slice_get}
use Rattle.dir_set.specs.Files.{AreDifferent}
use Rattle.test_dirs.proofs.Filed.{put_cases}

-- each of these is one letter longer than its place
abbrev pub AreLonger : List (List ℕ) → Type 0
AreLonger names = (d : ℕ) (x : List ℕ) → slice_get names d ≡ Some x → length x ≡ d + 1

pub longer_put : {T : Type 0} (f : T → List ℕ) (xs ys : List T) (x : T) (n : ℕ) → length xs ≡ n → AreLonger (map f xs) → ys ≡ xs ++ x ∷ [] → length (f x) ≡ n + 1 → AreLonger (map f ys)
longer_put f xs ys x n many had put long d z has = pick (put_cases (map f xs) (map f ys) (f x) d z same has (cases_lt d (length (map f xs))))
  where
    same : map f ys ≡ map f xs ++ f x ∷ []
    same = ap (λ (l : List _). map f l) put ∙ map-append f xs (x ∷ [])

    pick : ((d < length (map f xs)) × (slice_get (map f xs) d ≡ Some z)) ⊎ ((length (map f xs) ≤ d) × (z ≡ f x)) → length z ≡ d + 1
    pick (inl h) = had d z h.1
    pick (inr h) =
        let within = slice_get_within (map f ys) d z has in
        let l = ap length same in let m = length-append (map f xs) (f x ∷ []) in let k = length-map xs f in let le = h.0 in let e = ap length h.1 in
        omega (arith, within, l, m, k, le, e, many, long)

pub longer_differ : (names : List (List ℕ)) → AreLonger names → AreDifferent names
longer_differ names longer d e x ed ee = let a = longer d x ed in let b = longer e x ee in omega (arith, a, b)
