-- One search of a state: what the others have come to, and how far a look or a try lets it come.
use Rattle.std.proofs.Common.{Option, Some, ap, arith, cond, eq-eqb, get_or, refl, set, subst, sum_by, sym, ◌*◌, ◌+◌, ◌-◌, ◌/◌, ◌<◌, ◌∙◌, ◌≡◌, ◌≤◌, ℕ}
use mathlib.Core.Option.{some}
use lib.ListN.{get_elem?}
use Rattle.link_word.specs.Map.{next_free, taken_in}
use Rattle.link_word.proofs.Mapped.{passed, passes, stays}
use Rattle.core_model.specs.declared.tab.Tab.{Tab}
use Rattle.core_model.specs.declared.tab.Tab.TheVariants.{Free, Freeing, Last, Reading, Retreating, Writing}
use Rattle.core_model.specs.declared.view.View.{View}
use Rattle.core_model.specs.Layout.{Setting, map_index}
use Rattle.core_model.specs.State.{State}
use Rattle.core_model.specs.Tabs.{count}
use Rattle.core_model.specs.SlotMoves.{begun_at, goes_past}
use Rattle.core_model.proofs.Lists.{by_eq, sum_at, sum_mono}
use Rattle.core_room.specs.Room.{past_in, taken_at}
use Rattle.core_room.proofs.Searching.{WithOne, goes_far, past_less}
use Rattle.core_room.proofs.Sole.{without_tab}
use Rattle.core_room.proofs.Words.{same_word}

-- where a search comes that is at the place that was looked at
pub goes_on_at : (claim : Option ℕ) (place n : ℕ) → claim ≡ Some place → goes_past claim place n ≡ Some (next_free n place)
goes_on_at claim place n e = ap (λ (c : Option ℕ). goes_past c place n) e
    ∙ ap (λ b. Some (cond b (next_free n place) place)) (eq-eqb place place refl)

pub begins_at : (claim : Option ℕ) (word : ℕ) → claim ≡ Some (64 * word) → begun_at claim word ≡ Some (64 * word)
begins_at claim word e = by_eq (λ z. cond z (Some 0) claim ≡ Some (64 * word)) word 0 (λ q. ap (λ (w : ℕ). Some (64 * w)) (sym q)) (λ _. e)

module _ {X : Type 0} where
  comes_less : (slot : ℕ) (x : Tab X) → past_in (slot + 1) x ≤ past_in slot x
  comes_less slot Free = omega arith
  comes_less slot (Retreating a) = omega arith
  comes_less slot (Reading r) = omega arith
  comes_less slot (Writing w) = past_less slot w.claim
  comes_less slot (Last a) = omega arith
  comes_less slot (Freeing f) = omega arith

-- anything that tabs are counted by, and a free one is not
module _ {X : Type 0} (f : Tab X → ℕ) (none : f Free ≡ 0) (s : State X) (i : ℕ) (v : View X) (at : get_elem? s.views i ≡ some v) (t : ℕ)
    (x : Tab X) (is : get_elem? v.tabs t ≡ some x) where
  -- what the other tabs count
  abbrev pub others_by : ℕ
  others_by = sum_by (count f) (set s.views i (without_tab v t))

  pub apart_by : others_by + f x ≡ sum_by (count f) s.views
  apart_by = let a = sum_at (count f) s.views i v (without_tab v t) at in let b = sum_at f v.tabs t x Free is in omega arith

  pub with_by : (u : View X) (y : Tab X) → u.tabs ≡ set v.tabs t y → sum_by (count f) (set s.views i u) ≡ others_by + f y
  with_by u y e = let a = sum_at (count f) s.views i v u at in let b = sum_at f v.tabs t x y is in let c = apart_by in
      let d = ap (sum_by f) e in omega arith

module _ {X : Type 0} (k : Setting X) (s : State X) (i : ℕ) (v : View X) (t : ℕ) where
  -- how many of the other tabs' searches have found all below this slot taken
  abbrev pub others_past : ℕ → ℕ
  others_past slot = sum_by (count (past_in slot)) (set s.views i (without_tab v t))

  pub others_fall : (slot : ℕ) → others_past (slot + 1) ≤ others_past slot
  others_fall slot = sum_mono (count (past_in (slot + 1))) (count (past_in slot))
      (λ u. sum_mono (past_in (slot + 1)) (past_in slot) (comes_less slot) u.tabs) (set s.views i (without_tab v t))

  abbrev pub Comes : Option ℕ → Type 0
  Comes claim = WithOne k.slots (taken_at k s) others_past others_fall claim

  -- the search goes on past the slots that the word at its place says are taken
  pub far : (place n : ℕ) → n ≡ get_or s.words (map_index k (place / 64)) 0 → Comes (Some place) → Comes (Some (next_free n place))
  far place n is room = let p = passes n place in subst (λ (z : ℕ). Comes (Some z)) (omega arith)
      (goes_far k.slots (taken_at k s) others_past others_fall place (next_free n place - place) all room)
    where
      all : (j : ℕ) → place ≤ j → j < place + (next_free n place - place) → taken_at k s j ≡ 1
      all j from low = let p = passes n place in let q = stays n place in
          same_word k s place j (omega arith) ∙ ap (λ (z : ℕ). taken_in z j) (sym is) ∙ passed n place j from (omega arith)
