-- In a store that fits, where each anchor has at most its capacity, the taken slots and the searches are together at most the slots.
use Rattle.std.proofs.Common.{List, None, Option, Some, ap, arith, cond, get_or, length, refl, suc, sum_by, sym, zero, ◌+◌, ◌/◌, ◌<◌, ◌==◌, ◌∙◌, ◌≡◌, ◌≤◌, ℕ}
use Rattle.std.specs.List.{range_with_len}
use Rattle.link_word.proofs.Mapped.{few}
use Rattle.core_model.specs.declared.tab.Tab.{Tab}
use Rattle.core_model.specs.declared.tab.Tab.TheVariants.{Free, Freeing, Last, Reading, Retreating, Writing}
use Rattle.core_model.specs.declared.view.Place.TheVariants.{Map}
use Rattle.core_model.specs.declared.view.View.{View}
use Rattle.core_model.specs.Layout.{Setting, word_in}
use Rattle.core_model.specs.Chains.{no_chain}
use Rattle.core_model.specs.State.{State, chain_of}
use Rattle.core_model.specs.Spots.{free_below, slots_chained, slots_held}
use Rattle.core_model.specs.Tabs.{count}
use Rattle.core_model.specs.Anchors.{TabStands}
use Rattle.core_model.specs.Sound.{Sound}
use Rattle.core_model.proofs.Lists.{by_eq}
use Rattle.core_model.proofs.SlotsCounted.{slots_counted}
use Rattle.core_room.specs.Room.{holds_at, past, past_in, running, taken_at, taken_from}
use Rattle.core_room.proofs.Searching.{past_at}
use Rattle.core_room.proofs.Sums.{by_number, exchange, in_range, once, sum_even, sum_less, sum_plus}

-- the last of them apart
from_last : (taken : ℕ → ℕ) (slot n : ℕ) → taken_from taken slot (suc n) ≡ taken_from taken slot n + taken (slot + n)
from_last taken slot zero = let e = ap taken (plus_zero slot) in omega arith
  where
    plus_zero : (n : ℕ) → n + 0 ≡ n
    plus_zero n = omega arith
from_last taken slot (suc n) = let r = from_last taken (slot + 1) n in let e = ap taken (shifted slot n) in omega arith
  where
    shifted : (a b : ℕ) → a + 1 + b ≡ a + suc b
    shifted a b = omega arith

free_or_taken : (b : ℕ) → b ≤ 1 → cond (b == 0) 1 0 + b ≡ 1
free_or_taken b le = by_eq (λ z. cond z 1 0 + b ≡ 1) b 0 (λ e. omega arith) (λ ne. omega arith)

runs_at_most : (claim : Option ℕ) → past 0 claim ≤ running claim
runs_at_most None = omega arith
runs_at_most (Some place) = let a = past_at 0 place (omega arith) in omega arith

module _ {X : Type 0} (k : Setting X) (s : State X) (so : Sound k s) where
  free_and_taken : (n : ℕ) → free_below k s n + taken_from (taken_at k s) 0 n ≡ n
  free_and_taken zero = refl
  free_and_taken (suc n) = let l = from_last (taken_at k s) 0 n in let r = free_and_taken n in let e = ap (taken_at k s) (zero_plus n) in
      let f = free_or_taken (taken_at k s n) (few (word_in k s.words (Map (n / 64))) n) in omega arith
    where
      zero_plus : (n : ℕ) → 0 + n ≡ n
      zero_plus n = omega arith

  -- what a tab has and seeks is of its own anchor
  abbrev whole : Tab X → ℕ
  whole x = slots_held x + past_in 0 x

  tab_whole : (u : View X) (t : ℕ) (x : Tab X) → TabStands k s u t x → whole x ≤ sum_by (λ a. holds_at a x) (range_with_len 0 k.anchors)
  tab_whole u t Free h = omega arith
  tab_whole u t (Retreating a) h = omega arith
  tab_whole u t (Reading r) h = omega arith
  tab_whole u t (Writing w) h = let lt = h.0 in
      let o = once (length w.reserved + running w.claim) w.anchor 0 k.anchors (omega arith) (omega arith) in let r = runs_at_most w.claim in
      omega arith
  tab_whole u t (Last a) h = omega arith
  tab_whole u t (Freeing f) h = let lt = h.0 in
      let o = once (length f.rest + length f.loose) f.anchor 0 k.anchors (omega arith) (omega arith) in omega arith

  abbrev at_tabs : ℕ → ℕ
  at_tabs a = sum_by (count (holds_at a)) s.views

  abbrev in_chain : ℕ → ℕ
  in_chain a = slots_chained (chain_of s a)

  tabs_whole : sum_by (count slots_held) s.views + sum_by (count (past_in 0)) s.views ≤ sum_by at_tabs (range_with_len 0 k.anchors)
  tabs_whole =
      let anchors : List ℕ = range_with_len 0 k.anchors in
      let a = sum_less (count whole) (λ (u : View X). sum_by (λ (x : Tab X). sum_by (λ b. holds_at b x) anchors) u.tabs) s.views
      (λ i u at. sum_less whole (λ (x : Tab X). sum_by (λ b. holds_at b x) anchors) u.tabs
      (λ t x there. tab_whole u t x (so.anchors.tabs i u at t x there))) in
      let b = sum_even (λ (u : View X). sum_by (λ (x : Tab X). sum_by (λ b. holds_at b x) anchors) u.tabs)
      (λ (u : View X). sum_by (λ b. count (holds_at b) u) anchors) s.views (λ u. sym (exchange holds_at anchors u.tabs)) in
      let c = exchange (λ b (u : View X). count (holds_at b) u) anchors s.views in
      let d = sum_even (count whole) (λ (u : View X). count slots_held u + count (past_in 0) u) s.views
      (λ u. sum_plus slots_held (past_in 0) u.tabs) in
      let e = sum_plus (count slots_held) (count (past_in 0)) s.views in
      omega arith

  chains_whole : sum_by slots_chained s.chains ≡ sum_by in_chain (range_with_len 0 k.anchors)
  chains_whole = by_number slots_chained no_chain s.chains in_chain 0
      (λ j lt. ap (λ (z : ℕ). slots_chained (get_or s.chains z no_chain)) (zero_plus j))
      ∙ ap (λ (n : ℕ). sum_by in_chain (range_with_len 0 n)) so.anchors.shaped.chains
    where
      zero_plus : (n : ℕ) → n ≡ 0 + n
      zero_plus n = omega arith

  pub all_told : (capacity : ℕ → ℕ) → sum_by capacity (range_with_len 0 k.anchors) ≤ k.slots
      → ((a : ℕ) → a < k.anchors → in_chain a + at_tabs a ≤ capacity a)
      → taken_from (taken_at k s) 0 k.slots + sum_by (count (past_in 0)) s.views ≤ k.slots
  all_told capacity fit each =
      let f = free_and_taken k.slots in
      let c = slots_counted k s so.slots in
      let t = tabs_whole in
      let h = chains_whole in
      let p = sum_plus in_chain at_tabs (range_with_len 0 k.anchors) in
      let l = sum_less (λ a. in_chain a + at_tabs a) capacity (range_with_len 0 k.anchors)
      (λ i a at. each a (let r = in_range 0 k.anchors i a at in omega arith)) in
      omega arith
