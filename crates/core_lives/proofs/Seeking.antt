-- An item with some property, sought from the front of a list.
use Rattle.std.proofs.Common.{◌≡◌, ⊎_elim, ℕ, List, [], ◌∷◌, ◌++◌, reverse, length, sym, refl, ap, ◌∙◌, subst, arith, Contains, get_or, zero, suc, ◌<◌, Option, None, Some, Result, Ok, Err}
use Rattle.std.specs.Prelude.{IfOk, MatchOption}
use Rattle.std.proofs.lemmas.List.{reverse-append}
use Rattle.std.proofs.lemmas.List.Elements.{Contains-push, Contains-push_cases, Contains-append_left}
use mathlib.Core.Option.{some}
use lib.ListN.{get_elem?}
use Rattle.core_model.proofs.Lists.{at_length, at_or, cons_contains}
use Rattle.core_table.proofs.Lists.{same_default}

module _ {X : Type 0} where
  -- those behind what was looked at: all that have the property are among them
  pub record Seeks (Has : X → Type 0) (whole left : List X) : Type 0 where
    pub part : (x : X) → Contains left x → Contains whole x
    pub only : (x : X) → Contains whole x → Has x → Contains left x

  pub all_left : (Has : X → Type 0) (whole : List X) → Seeks Has whole whole
  all_left Has whole = record { part = λ x h. h; only = λ x h _. h }

  first_in : (x : X) (xs : List X) → Contains (x ∷ xs) x
  first_in x xs = (0, omega arith, refl)

  later_in : (x y : X) (xs : List X) → Contains xs y → Contains (x ∷ xs) y
  later_in x y xs h = (suc h.0, (let lt = h.1 in omega arith), h.2)

  pub next_in : (Has : X → Type 0) (whole left rest : List X) (x : X) → Seeks Has whole left → left ≡ x ∷ rest → Contains whole x
  next_in Has whole left rest x s is = s.part x (subst (λ (xs : List X). Contains xs x) (sym is) (first_in x rest))

  pub seeks_on : (Has : X → Type 0) (whole left rest : List X) (x : X) → Seeks Has whole left → left ≡ x ∷ rest → (Has x → ⊥) → Seeks Has whole rest
  seeks_on Has whole left rest x s is lacks = record {
    part = λ y h. s.part y (subst (λ (xs : List X). Contains xs y) (sym is) (later_in x y rest h));
    only = λ y h has. ⊎_elim (λ (e : x ≡ y). absurd (lacks (subst Has (sym e) has))) (λ (q : Contains rest y). q) (cons_contains x y rest (subst (λ (xs : List X). Contains xs y) is (s.only y h has)));
  }

  pub none_has : (Has : X → Type 0) (whole left : List X) → Seeks Has whole left → length left ≡ 0 → (x : X) → Contains whole x → Has x → ⊥
  none_has Has whole left s none x h has = let q = s.only x h has in let lt = q.1 in omega arith

  at_in : (xs : List X) (i : ℕ) (d : X) → i < length xs → get_elem? xs i ≡ some (get_or xs i d)
  at_in [] i d lt = absurd (omega arith)
  at_in (x ∷ xs) zero d lt = refl
  at_in (x ∷ xs) (suc i) d lt = at_in xs i d (omega arith)

  -- what a list has it has at a place
  pub at_contains : (xs : List X) (x : X) → Contains xs x → (i : ℕ) × (get_elem? xs i ≡ some x)
  at_contains xs x h = (h.0, at_in xs h.0 x h.1 ∙ ap some h.2)

  pub contains_at : (xs : List X) (i : ℕ) (x : X) → get_elem? xs i ≡ some x → Contains xs x
  contains_at xs i x e = (i, at_length xs i x e, at_or xs i x x e)

  -- a place of a list that has one
  pub place_is : (xs ys : List X) (i : ℕ) (d e x : X) → d ≡ get_or xs i d → d ≡ x → xs ≡ ys → i < length ys → get_or ys i e ≡ x
  place_is xs ys i d e x is here same lt = same_default ys i e d lt ∙ ap (λ (zs : List X). get_or zs i d) (sym same) ∙ sym is ∙ here

  turned : (y : X) (ys : List X) → reverse (y ∷ ys) ≡ reverse ys ++ y ∷ []
  turned y ys = reverse-append (y ∷ []) ys

  -- a list that is turned round has the same items
  pub to_reverse : (xs : List X) (x : X) → Contains xs x → Contains (reverse xs) x
  to_reverse [] x h = h
  to_reverse (y ∷ ys) x h = subst (λ (zs : List X). Contains zs x) (sym (turned y ys)) (⊎_elim
      (λ (e : y ≡ x). subst (Contains (reverse ys ++ y ∷ [])) e (Contains-push (reverse ys) y))
      (λ (q : Contains ys x). Contains-append_left (reverse ys) (y ∷ []) x (to_reverse ys x q))
      (cons_contains y x ys h))

  pub of_reverse : (xs : List X) (x : X) → Contains (reverse xs) x → Contains xs x
  of_reverse [] x h = h
  of_reverse (y ∷ ys) x h = ⊎_elim
      (λ (q : Contains (reverse ys) x). later_in y x ys (of_reverse ys x q))
      (λ (e : y ≡ x). subst (Contains (y ∷ ys)) e (first_in y ys))
      (Contains-push_cases (reverse ys) y x (subst (λ (zs : List X). Contains zs x) (turned y ys) h))

pub some_of : {X : Type 0} (A : Type 0) (B : X → Type 0) {o : Option X} {x : X} → o ≡ Some x → MatchOption o A B → B x
some_of A B is told = subst (λ o. MatchOption o A B) is told

pub none_of : {X : Type 0} (A : Type 0) (B : X → Type 0) {o : Option X} → o ≡ None → MatchOption o A B → A
none_of A B is told = subst (λ o. MatchOption o A B) is told

-- what is so of a result that is `Ok`
pub if_ok : {X E : Type 0} (P Q : X → Type 0) (r : Result X E) → ((x : X) → P x → Q x) → IfOk r P → IfOk r Q
if_ok P Q (Ok x) more h = more x h
if_ok P Q (Err e) more h = tt
