-- Entries of a list: one that begins at a slot, and one that has an anchor.
use Rattle.std.proofs.Common.{Contains, List, [], ap, arith, cond, false, inl, inr, map, refl, suc, sym, true, zero, ⊎_elim, ◌≡◌, ◌⊎◌, ◌∙◌, ◌∷◌, ℕ}
use Rattle.std.specs.Prelude.{nat_eq}
use Rattle.std.proofs.lemmas.Bool.{eq-eqb, eqb-true, false≢true}
use mathlib.Core.Logic.{dite}
use native.Mathlib.Decide.{ℕ_discrete}
use Rattle.rebuild_model.specs.declared.found.Found.{Found}
use Rattle.rebuild_model.specs.Entry.{Entry, found_of}

-- an entry without bytes
abbrev no_entry : Entry
no_entry = record { first = 0; version = 0; key = []; url = []; chain = []; body = [] }

-- the entry of these that begins at a slot
abbrev pub begun_at : List Entry → ℕ → Entry
begun_at [] slot = no_entry
begun_at (e ∷ es) slot = cond (nat_eq e.first slot) e (begun_at es slot)

-- those of these that begin at one slot are one
abbrev pub AreApart : List Entry → Type 0
AreApart es = (e f : Entry) → Contains es e → Contains es f → e.first ≡ f.first → e ≡ f

here : {A : Type 0} (x : A) (xs : List A) → Contains (x ∷ xs) x
here x xs = (0, omega arith, refl)

there : {A : Type 0} (y : A) (xs : List A) (x : A) → Contains xs x → Contains (y ∷ xs) x
there y xs x (i, lt, e) = (suc i, omega arith, e)

behind : {A : Type 0} (y : A) (xs : List A) (x : A) → Contains (y ∷ xs) x → (y ≡ x → ⊥) → Contains xs x
behind y xs x (zero, lt, e) not = absurd (not e)
behind y xs x (suc i, lt, e) not = (i, omega arith, e)

-- the one that begins where an entry of these does is this entry
pub begun : (es : List Entry) → AreApart es → (e : Entry) → Contains es e → begun_at es e.first ≡ e
begun [] apart e h = absurd (let lt = h.1 in omega arith)
begun (x ∷ es) apart e h = elim (nat_eq x.first e.first) as (λ b. nat_eq x.first e.first ≡ b → cond b x (begun_at es e.first) ≡ e) [
  | true ↦ λ is. apart x e (here x es) h (eqb-true x.first e.first is)
  | false ↦ λ is. begun es (λ f g p q. apart f g (there x es f p) (there x es g q)) e
      (behind x es e h (λ same. false≢true (sym is ∙ eq-eqb x.first e.first (ap (λ (z : Entry). z.first) same))))
] refl

-- what is told of an entry of these
pub told : (es : List Entry) (e : Entry) → Contains es e → Contains (map found_of es) (found_of e)
told [] e h = absurd (let lt = h.1 in omega arith)
told (x ∷ es) e (zero, lt, is) = (0, omega arith, ap found_of is)
told (x ∷ es) e (suc i, lt, is) = there (found_of x) (map found_of es) (found_of e) (told es e (i, omega arith, is))

-- a number of what is told of these is one of these
pub numbered : (number : Found → ℕ) (es : List Entry) (f : Found) → Contains (map found_of es) f
    → Contains (map (λ e. number (found_of e)) es) (number f)
numbered number [] f h = absurd (let lt = h.1 in omega arith)
numbered number (x ∷ es) f (zero, lt, is) = (0, omega arith, ap number is)
numbered number (x ∷ es) f (suc i, lt, is) =
    there (number (found_of x)) (map (λ e. number (found_of e)) es) (number f) (numbered number es f (i, omega arith, is))

-- a number of these is that of one of these
pub has_number : (number : Entry → ℕ) (es : List Entry) (n : ℕ) → Contains (map number es) n → (e : Entry) × Contains es e × (number e ≡ n)
has_number number [] n h = absurd (let lt = h.1 in omega arith)
has_number number (x ∷ es) n (zero, lt, is) = (x, here x es, is)
has_number number (x ∷ es) n (suc i, lt, is) = let h = has_number number es n (i, omega arith, is) in (h.0, there x es h.0 h.1, h.2)

-- one of these has the number, or none has
pub has_or_not : (number : Entry → ℕ) (es : List Entry) (n : ℕ) → ((e : Entry) × Contains es e × (number e ≡ n)) ⊎ (Contains (map number es) n → ⊥)
has_or_not number [] n = inr (λ h. let lt = h.1 in omega arith)
has_or_not number (x ∷ es) n = dite (ℕ_discrete (number x) n)
    (λ is. inl (x, here x es, is))
    (λ not. ⊎_elim
    (λ (h : (e : Entry) × Contains es e × (number e ≡ n)). inl (h.0, there x es h.0 h.1, h.2))
    (λ (none : Contains (map number es) n → ⊥). inr (λ h. none (behind (number x) (map number es) n h not)))
    (has_or_not number es n))
