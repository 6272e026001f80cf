-- One metadata stands at the front of a payload.
use Rattle.std.proofs.Common.{◌≡◌, inl, inr, ℕ, ◌≤◌, List, ◌++◌, take, drop, ap, sym, ◌∙◌, subst, arith}
use Rattle.std.proofs.lemmas.Bool.{cases_lt}
use Rattle.std.proofs.lemmas.List.{take-take, take-append-drop}
use Rattle.swap_meta.specs.Meta.{Spells}

-- no spelling begins another
abbrev pub Agree : Type 0
Agree = (bytes more key url key2 url2 : List ℕ) (n n2 : ℕ) → Spells bytes key url n → Spells (bytes ++ more) key2 url2 n2 → (key ≡ key2) × (url ≡ url2) × (n ≡ n2)

longer : (payload : List ℕ) (n m : ℕ) → n ≤ m → take m payload ≡ take n payload ++ drop n (take m payload)
longer payload n m below =
    let front : take n (take m payload) ≡ take n payload = take-take n m payload below in
    sym (take-append-drop n (take m payload)) ∙ ap (λ f. f ++ drop n (take m payload)) front

pub one_meta : Agree → (payload key url key2 url2 : List ℕ) (n m : ℕ) → Spells (take n payload) key url n → Spells (take m payload) key2 url2 m → (url ≡ url2) × (n ≡ m)
one_meta agree payload key url key2 url2 n m p q = elim (cases_lt m n) as (λ _. (url ≡ url2) × (n ≡ m)) [
  | inl below ↦
      let both = agree (take m payload) (drop m (take n payload)) key2 url2 key url m n q (subst (λ b. Spells b key url n) (longer payload m n (omega arith)) p) in
      (sym both.1, sym both.2)
  | inr above ↦
      let both = agree (take n payload) (drop n (take m payload)) key url key2 url2 n m p (subst (λ b. Spells b key2 url2 m) (longer payload n m above) q) in
      (both.1, both.2)
]
