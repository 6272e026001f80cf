-- What a change of tabs at one anchor is to the counts over tabs.
use Rattle.std.proofs.Common.{◌≡◌, ◌≢◌, ℕ, ◌+◌, ◌<◌, ◌≤◌, zero, suc, List, [], ◌∷◌, length, set, sym, refl, ap, ◌∙◌, subst, arith, sum_by, Bool, true, false, cond, eqb, eq-eqb, ne_eqb, Contains}
use mathlib.Core.Option.{some, some-injective}
use mathlib.Core.Logic.{dite}
use native.Mathlib.Decide.{ℕ_discrete}
use lib.ListN.{get_elem?}
use Rattle.core_model.specs.declared.tab.Tab.{Tab}
use Rattle.core_model.specs.declared.tab.Tab.TheVariants.{Free, Retreating, Reading, Writing, Last, Freeing}
use Rattle.core_model.specs.declared.view.View.{View}
use Rattle.core_model.specs.Chains.{one, times, without}
use Rattle.core_model.specs.Tabs.{tab_at, counts, writes, frees, count}
use Rattle.core_model.proofs.Lists.{by_eq, at_index, sum_at, sum_mono, sum_ones, set_else}

-- Versions and slots in lists.

pub contains_times : (x : ℕ) (xs : List ℕ) → Contains xs x → 0 < times x xs
contains_times x [] (i, lt, e) = absurd (omega arith)
contains_times x (y ∷ ys) (zero, lt, e) = let q = eq-eqb y x e in rw q (omega arith)
contains_times x (y ∷ ys) (suc i, lt, e) = let h = contains_times x ys (i, omega arith, e) in omega arith

pub times_contains : (x : ℕ) (xs : List ℕ) → 0 < times x xs → Contains xs x
times_contains x [] h = absurd (omega arith)
times_contains x (y ∷ ys) h = dite (ℕ_discrete y x) (λ q. (0, omega arith, q))
    (λ ne. let z = ne_eqb y x ne in let r = times_contains x ys (rest z h) in (suc r.0, let lt = r.1 in omega arith, r.2))
  where
    rest : eqb y x ≡ false → 0 < cond (eqb y x) 1 0 + times x ys → 0 < times x ys
    rest z = rw z (λ h. omega arith)

pub times_without_same : (x : ℕ) (xs : List ℕ) → times x (without x xs) ≡ 0
times_without_same x [] = refl
times_without_same x (y ∷ ys) = by_eq (λ z. times x (cond z (without x ys) (y ∷ without x ys)) ≡ 0) y x
    (λ q. times_without_same x ys)
    (λ ne. let z = ne_eqb y x ne in let r = times_without_same x ys in rw z (omega arith))

pub times_without_other : (x u : ℕ) (xs : List ℕ) → u ≢ x → times u (without x xs) ≡ times u xs
times_without_other x u [] ne = refl
times_without_other x u (y ∷ ys) ne = by_eq (λ z. times u (cond z (without x ys) (y ∷ without x ys)) ≡ one u y + times u ys) y x
    (λ q. let z = ne_eqb y u (λ p. ne (sym p ∙ q)) in let r = times_without_other x u ys ne in rw z (omega arith))
    (λ _. let r = times_without_other x u ys ne in omega arith)

pub in_without : (x u : ℕ) (xs : List ℕ) → Contains (without x xs) u → Contains xs u × (times u (without x xs) ≡ times u xs)
in_without x u xs h = dite (ℕ_discrete u x)
    (λ q. absurd (let z = times_without_same x xs in let y = contains_times u (without x xs) h in let w = ap (λ (m : ℕ). times m (without x xs)) q in omega arith))
    (λ ne. let e = times_without_other x u xs ne in let y = contains_times u (without x xs) h in (times_contains u xs (omega arith), e))

off : (a b c : ℕ) → c ≡ a → b ≢ a → eqb c b ≡ false
off a b c e ne = ne_eqb c b (λ h. ne (sym h ∙ e))

one_or_none : (b : Bool) → cond b 1 0 ≤ 1
one_or_none true = omega arith
one_or_none false = omega arith

module _ {X : Type 0} where
  -- the tab is free, or at the anchor a
  abbrev pub IsAt : ℕ → Tab X → Type 0
  IsAt a Free = Unit {0}
  IsAt a (Retreating b) = b ≡ a
  IsAt a (Reading r) = r.anchor ≡ a
  IsAt a (Writing w) = w.anchor ≡ a
  IsAt a (Last b) = b ≡ a
  IsAt a (Freeing f) = f.anchor ≡ a

  -- what no count sees at another anchor
  pub record Unseen (b : ℕ) (x : Tab X) : Type 0 where
    pub counts : counts b x ≡ 0
    pub writes : (u g : ℕ) → writes b u g x ≡ 0
    pub frees : (u d : ℕ) → frees b u d x ≡ 0

  pub unseen : (a b : ℕ) (x : Tab X) → IsAt a x → b ≢ a → Unseen b x
  unseen a b Free h ne = record { counts = refl; writes = λ _ _. refl; frees = λ _ _. refl }
  unseen a b (Retreating c) h ne = record { counts = rw (off a b c h ne) refl; writes = λ _ _. refl; frees = λ _ _. refl }
  unseen a b (Reading r) h ne = record { counts = rw (off a b r.anchor h ne) refl; writes = λ _ _. refl; frees = λ _ _. refl }
  unseen a b (Writing w) h ne = record { counts = refl; writes = λ u g. rw (off a b w.anchor h ne) refl; frees = λ _ _. refl }
  unseen a b (Last c) h ne = record { counts = refl; writes = λ _ _. refl; frees = λ _ _. refl }
  unseen a b (Freeing f) h ne = record { counts = refl; writes = λ _ _. refl; frees = λ u d. rw (off a b f.anchor h ne) refl }

  counts_one : (a : ℕ) (t : Tab X) → counts a t ≤ 1
  counts_one a Free = omega arith
  counts_one a (Retreating b) = one_or_none (eqb b a)
  counts_one a (Reading r) = one_or_none (eqb r.anchor a)
  counts_one a (Writing w) = omega arith
  counts_one a (Last b) = omega arith
  counts_one a (Freeing f) = omega arith

  pub counts_few : (a : ℕ) (views : List (View X)) → sum_by (count (counts a)) views ≤ sum_by (λ v. length v.tabs) views
  counts_few a views = sum_mono (count (counts a)) (λ v. length v.tabs) (λ v. sum_ones (counts a) (counts_one a) v.tabs) views

  pub tab_there : (v : View X) (t : ℕ) (tab : Tab X) → t < length v.tabs → tab_at v t ≡ tab → get_elem? v.tabs t ≡ some tab
  tab_there v t tab lt e = at_index v.tabs t tab Free lt e

  -- the tab t goes from old to new, both at the anchor a
  pub record Turns (xs : List (Tab X)) (t a : ℕ) (old new : Tab X) : Type 0 where
    pub was : get_elem? xs t ≡ some old
    pub old_at : IsAt a old
    pub new_at : IsAt a new

  module _ (xs : List (Tab X)) (t a : ℕ) (old new : Tab X) (h : Turns xs t a old new) where
    pub changes : (f : Tab X → ℕ) → sum_by f (set xs t new) + f old ≡ sum_by f xs + f new
    changes f = sum_at f xs t old new h.was

    pub counts_else : (b : ℕ) → b ≢ a → sum_by (counts b) (set xs t new) ≡ sum_by (counts b) xs
    counts_else b ne = let e = changes (counts b) in let x = (unseen a b old h.old_at ne).counts in let y = (unseen a b new h.new_at ne).counts in omega arith

    pub writes_else : (b u g : ℕ) → b ≢ a → sum_by (writes b u g) (set xs t new) ≡ sum_by (writes b u g) xs
    writes_else b u g ne = let e = changes (writes b u g) in let x = (unseen a b old h.old_at ne).writes u g in let y = (unseen a b new h.new_at ne).writes u g in omega arith

    pub frees_else : (b u d : ℕ) → b ≢ a → sum_by (frees b u d) (set xs t new) ≡ sum_by (frees b u d) xs
    frees_else b u d ne = let e = changes (frees b u d) in let x = (unseen a b old h.old_at ne).frees u d in let y = (unseen a b new h.new_at ne).frees u d in omega arith

    pub stay_last : (b p : ℕ) → b ≢ a → get_elem? xs p ≡ some (Last b) → get_elem? (set xs t new) p ≡ some (Last b)
    stay_last b p ne e = dite (ℕ_discrete p t)
        (λ q. absurd (let same : old ≡ Last b = some-injective old (Last b) (sym h.was ∙ subst (λ (z : ℕ). get_elem? xs z ≡ some (Last b)) q e) in ne (subst (IsAt a) same h.old_at)))
        (λ n. set_else xs t p new n ∙ e)
