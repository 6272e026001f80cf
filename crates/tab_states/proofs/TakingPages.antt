-- A seat that is alone takes the pages of a pool in the order of their numbers.
use Rattle.std.proofs.Common.{Contains, List, [], ap, arith, length, refl, subst, suc, sym, zero, ⊎_elim, ◌+◌, ◌*◌, ◌++◌, ◌<◌, ◌≤◌, ◌≡◌, ◌∙◌, ◌∷◌, ℕ}
use Rattle.std.proofs.lemmas.Bool.{cases_lt}
use mathlib.Core.Option.{some}
use lib.ListN.{get_elem?}
use Rattle.page_pool.proofs.Lists.{at_end, cons_cases, first_in, later_in, none_in}
use Rattle.page_pool.specs.Views.{after_take}
use Rattle.page_pool.specs.declared.view.View.{View}
use Rattle.tab_states.specs.Desks.{page_at}
use Rattle.tab_states.specs.Hands.{AreAllHands, AreHands, TakesInOrder, first_numbers}
use Rattle.tab_states.specs.declared.desks.Desk.{Desk}
use Rattle.tab_states.specs.declared.hands.Hands.{Hands}

below : (n m : ℕ) → Contains (first_numbers n) m → m < n
below zero m h = absurd (none_in m h)
below (suc n) m h = ⊎_elim (λ (e : n ≡ m). omega (arith, e)) (λ (h : Contains (first_numbers n) m). let lt = below n m h in omega arith) (cons_cases n m (first_numbers n) h)

within : (n m : ℕ) → m < n → Contains (first_numbers n) m
within zero m lt = absurd (omega arith)
within (suc n) m lt = ⊎_elim
    (λ (less : m < n). later_in n m (first_numbers n) (within n m less))
    (λ (most : n ≤ m). let e : n ≡ m = omega (arith, lt, most) in subst (Contains (n ∷ first_numbers n)) e (first_in n (first_numbers n)))
    (cases_lt m n)

module _ (v : View) (order : TakesInOrder v) where
  -- it does not hold the next page yet
  pub next_is_free : Contains v.held (length v.held) → ⊥
  next_is_free h = let lt = below (length v.held) (length v.held) (subst (λ (z : List ℕ). Contains z (length v.held)) order.held h) in omega (arith, lt)

  -- a page that it did not hold, where it holds all that are before, is the next one
  pub takes_next : (n : ℕ) → (Contains v.held n → ⊥) → ((m : ℕ) → m < n → Contains v.held m) → n ≡ length v.held
  takes_next n free before = ⊎_elim
      (λ (less : n < length v.held). absurd (free (subst (λ (z : List ℕ). Contains z n) (sym order.held) (within (length v.held) n less))))
      (λ (most : length v.held ≤ n). ⊎_elim
      (λ (more : length v.held < n). absurd (next_is_free (before (length v.held) more)))
      (λ (same : n ≤ length v.held). omega (arith, most, same))
      (cases_lt (length v.held) n))
      (cases_lt n (length v.held))

  -- and with it the seat holds the first ones still
  pub stays_in_order : (w : View) (n : ℕ) → n ≡ length v.held → w ≡ after_take n v → TakesInOrder w
  stays_in_order w n next took = subst TakesInOrder (sym took) record { alone = order.alone; held = λ i. next i ∷ order.held i }

page_before : (ds : List Desk) (d : Desk) (tab : ℕ) → tab < length ds → page_at (ds ++ d ∷ []) tab ≡ page_at ds tab
page_before [] d tab lt = absurd (omega arith)
page_before (x ∷ ds) d zero lt = refl
page_before (x ∷ ds) d (suc tab) lt = page_before ds d tab (omega arith)

page_behind : (ds : List Desk) (d : Desk) (tab : ℕ) → tab ≡ length ds → page_at (ds ++ d ∷ []) tab ≡ d.page.number
page_behind [] d zero e = refl
page_behind [] d (suc tab) e = absurd (omega arith)
page_behind (x ∷ ds) d zero e = absurd (omega arith)
page_behind (x ∷ ds) d (suc tab) e = page_behind ds d tab (omega arith)

-- desks have pages in order where one more comes behind them
pub pages_end : (ds zs : List Desk) (d : Desk) (first n : ℕ) → zs ≡ ds ++ d ∷ [] → length ds ≡ n → ((tab : ℕ) → tab < n → page_at ds tab ≡ first + tab) → d.page.number ≡ first + n
    → (tab : ℕ) → tab < n + 1 → page_at zs tab ≡ first + tab
pages_end ds zs d first n is many so number tab lt = ap (λ (z : List Desk). page_at z tab) is ∙ ⊎_elim
    (λ (less : tab < n). page_before ds d tab (omega (arith, many, less)) ∙ so tab less)
    (λ (most : n ≤ tab). page_behind ds d tab (omega (arith, many, most, lt)) ∙ number ∙ (omega (arith, most, lt)))
    (cases_lt tab n)

-- what passes have at hand, and what one more has
pub hands_end : (slot : ℕ) (all more : List Hands) (h : Hands) (n : ℕ) → more ≡ all ++ h ∷ [] → length all ≡ n → AreAllHands slot all → AreHands slot (9 * n) h → AreAllHands slot more
hands_end slot all more h n is many so new k x at = ⊎_elim
    (λ (e : get_elem? all k ≡ some x). so k x e)
    (λ (e : (k ≡ length all) × (h ≡ x)). subst (λ (z : ℕ). AreHands slot (9 * z) x) (sym (e.0 ∙ many)) (subst (AreHands slot (9 * n)) e.1 new))
    (at_end all h x k (subst (λ (z : List Hands). get_elem? z k ≡ some x) is at))
