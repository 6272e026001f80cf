-- The first idle anchor from the hand on is the victim of the plain store.
use Rattle.std.proofs.Common.{Bool, None, Some, ap, arith, false, refl, suc, sym, true, zero, ◌+◌, ◌-◌, ◌<◌, ◌∙◌, ◌≡◌, ◌≤◌, ℕ}
use Rattle.std.specs.Prelude.{find, map, nat_lt, ◌%◌}
use Rattle.std.specs.List.{range_with_len}
use Rattle.std.proofs.Math.Nat.{add-mod_right, mod-eq_of_lt}
use Rattle.std.proofs.lemmas.Bool.{le-ltb, lt-ltb}
use Rattle.std.proofs.lemmas.Nat.{mod_below}
use mathlib.Core.Logic.{dite}
use native.Mathlib.Decide.{ℕ_discrete}
use Rattle.plain_model.specs.Slots.{victim}
use Rattle.plain_model.specs.Store.{is_idle_at}
use Rattle.plain_model.specs.declared.store.Plain.{Plain}
use Rattle.plain_model.specs.declared.store.Setting.{Setting}
use Rattle.slice_chain.specs.Victims.{hand_in, onward}

-- the first of some numbers for which the test holds
find_first : (test : ℕ → Bool) (h : ℕ → ℕ) (a n i : ℕ) → i < n → ((j : ℕ) → j < i → test (h (a + j)) ≡ false) → test (h (a + i)) ≡ true → find test (map h (range_with_len a n)) ≡ Some (h (a + i))
find_first test h a zero i lt before here = absurd (omega arith)
find_first test h a (suc n) zero lt before here = let e : h a ≡ h (a + 0) = ap h (omega arith) in let t : test (h a) ≡ true = ap test e ∙ here in rw t (ap Some e)
find_first test h a (suc n) (suc i) lt before here = let f : test (h a) ≡ false = ap (λ z. test (h z)) (no_more a) ∙ before 0 (omega arith) in
    rw f (find_first test h (a + 1) n i (omega arith) (λ j less. ap (λ z. test (h z)) (moved a j) ∙ before (suc j) (omega arith)) (ap (λ z. test (h z)) (moved a i) ∙ here) ∙ ap (λ z. Some (h z)) (moved a i))
  where
    no_more : (a : ℕ) → a ≡ a + 0
    no_more a = omega arith

    moved : (a j : ℕ) → a + 1 + j ≡ a + suc j
    moved a j = omega arith

find_no : (test : ℕ → Bool) (h : ℕ → ℕ) (a n : ℕ) → ((j : ℕ) → j < n → test (h (a + j)) ≡ false) → find test (map h (range_with_len a n)) ≡ None
find_no test h a zero none = refl
find_no test h a (suc n) none = let f : test (h a) ≡ false = ap (λ z. test (h z)) (no_more a) ∙ none 0 (omega arith) in rw f (find_no test h (a + 1) n (λ j less. ap (λ z. test (h z)) (moved a j) ∙ none (suc j) (omega arith)))
  where
    no_more : (a : ℕ) → a ≡ a + 0
    no_more a = omega arith

    moved : (a j : ℕ) → a + 1 + j ≡ a + suc j
    moved a j = omega arith

-- anchors in their round, in the words of either store
pub onward_is : (n h j : ℕ) → h < n → j ≤ n → onward n h j ≡ (h + j) % n
onward_is n h j lt le = dite (ℕ_discrete (n - (h + j)) 0)
    (λ e. let t : nat_lt (h + j) n ≡ false = le-ltb (h + j) n (omega arith) in rw t (
    sym (mod-eq_of_lt {n = h + j - n} {m = n} (omega arith)) ∙ sym (add-mod_right (h + j - n) n) ∙ ap (λ z. z % n) (back e)))
    (λ ne. let t : nat_lt (h + j) n ≡ true = lt-ltb (h + j) n (omega arith) in rw t (sym (mod-eq_of_lt {n = h + j} {m = n} (omega arith))))
  where
    back : n - (h + j) ≡ 0 → h + j - n + n ≡ h + j
    back e = omega arith

pub onward_inside : (n h j : ℕ) → h < n → j ≤ n → onward n h j < n
onward_inside n h j lt le = let e = onward_is n h j lt le in let m = mod_below (h + j) n (omega arith) in omega arith

pub hand_inside : (n h : ℕ) → h < n → hand_in n h ≡ h
hand_inside n h lt = rw (lt-ltb h n lt) refl

module _ (s : Setting) (p : Plain) where
  at_hand : (j : ℕ) → p.hand < s.anchors → j < s.anchors → is_idle_at p ((p.hand + (0 + j)) % s.anchors) ≡ is_idle_at p (onward s.anchors p.hand j)
  at_hand j lt less = ap (is_idle_at p) (ap (λ z. (p.hand + z) % s.anchors) (none j) ∙ sym (onward_is s.anchors p.hand j lt (omega arith)))
    where
      none : (j : ℕ) → 0 + j ≡ j
      none j = omega arith

  -- The first anchor of the round whose entry is idle is the victim.
  pub victim_is : (steps : ℕ) → p.hand < s.anchors → steps < s.anchors → ((j : ℕ) → j < steps → is_idle_at p (onward s.anchors p.hand j) ≡ false) → is_idle_at p (onward s.anchors p.hand steps) ≡ true
      → victim s p ≡ Some (onward s.anchors p.hand steps)
  victim_is steps lt less before here = find_first (is_idle_at p) (λ i. (p.hand + i) % s.anchors) 0 s.anchors steps less (λ j below. at_hand j lt (omega arith) ∙ before j below) (at_hand steps lt less ∙ here)
      ∙ ap Some (ap (λ z. (p.hand + z) % s.anchors) (none steps) ∙ sym (onward_is s.anchors p.hand steps lt (omega arith)))
    where
      none : (j : ℕ) → 0 + j ≡ j
      none j = omega arith

  -- where none is idle there is none
  pub no_victim : ((a : ℕ) → a < s.anchors → is_idle_at p a ≡ false) → victim s p ≡ None
  no_victim none = find_no (is_idle_at p) (λ i. (p.hand + i) % s.anchors) 0 s.anchors (λ j less. none ((p.hand + (0 + j)) % s.anchors) (mod_below (p.hand + (0 + j)) s.anchors (omega arith)))
