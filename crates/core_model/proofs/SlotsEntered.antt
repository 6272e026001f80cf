-- To look at an anchor, to enter it, to leave it and to doom its entry leave all slots where they are, and so do looks at the counter
-- and draws.
use Rattle.std.proofs.Common.{◌≡◌, ◌⊎◌, ⊎_elim, ℕ, ◌+◌, ◌-◌, ◌<◌, List, set, sym, refl, ap, ◌∙◌, subst, arith, Bool, true, false, cond, None, length}
use mathlib.Core.Option.{some}
use lib.ListN.{get_elem?}
use Rattle.lock_word.specs.Words.{readers_of, epoch_of, version_of, stage_of, is_readable, is_left_over, doomed}
use Rattle.lock_word.proofs.Readers.{epoch_of-more, epoch_of-less}
use Rattle.lock_word.proofs.Testing.{stage_of-readable}
use Rattle.lock_word.proofs.Dooming.{stage_of-doomed}
use Rattle.link_word.specs.declared.link.Link.TheVariants.{NotWritten}
use Rattle.core_model.specs.declared.tab.Turn.TheVariants.{NoTurn}
use Rattle.core_model.specs.declared.tab.Tab.{Tab}
use Rattle.core_model.specs.declared.tab.Tab.TheVariants.{Free, Retreating, Reading, Writing, Last, Freeing}
use Rattle.core_model.specs.declared.moves.Move.TheVariants.{Look, Enter, Leave, Count, Draw, Doom}
use Rattle.core_model.specs.declared.view.View.{View}
use Rattle.core_model.specs.declared.chain.Chain.{Chain}
use Rattle.core_model.specs.Layout.{Setting, anchor_index}
use Rattle.core_model.specs.State.{State, word, chain_of}
use Rattle.core_model.specs.Tabs.{tab_at, anchor_of, is_counted, IsPass}
use Rattle.core_model.specs.Steps.{finding, view_after, after}
use Rattle.core_model.specs.Slots.{slot_words, TabHolds, SlotsHold, SlotsSound, SlotWords}
use Rattle.core_model.specs.Sound.{AnchorsSound}
use Rattle.core_model.proofs.Tabs.{tab_there}
use Rattle.core_model.proofs.EntersKept.{few_readers, counted_there, has_reader}
use Rattle.core_model.proofs.RaisesKept.{reads_counted}
use Rattle.core_model.proofs.Spelling.{last_is_written, some_fits}
use Rattle.core_model.proofs.Telling.{anchor_told_same, counter_told, stage_told}
use Rattle.core_model.proofs.SlotKinds.{OneTab, NoSlots, no_turn, one_turn}
use Rattle.core_model.specs.Table.{Allowed}
use Rattle.core_model.specs.AnchorMoves.{entered, left_tab}

module _ {X : Type 0} (k : Setting X) (s : State X) (i : ℕ) (v : View X) (so : AnchorsSound k s) (sl : SlotsSound k s) (at : get_elem? s.views i ≡ some v) (pass : IsPass v) where
  -- where the words tell the same
  pub told_again : (ws : List ℕ) (cs : List Chain) (vs : List (View X)) → slot_words k ws ≡ slot_words k s.words → SlotsHold k.anchors (slot_words k s.words) cs vs → SlotsHold k.anchors (slot_words k ws) cs vs
  told_again ws cs vs e h = subst (λ w. SlotsHold k.anchors w cs vs) (sym e) h

  -- the word of an anchor keeps its stage, and no tab changes
  pub no_tab_moves : (a x : ℕ) (v' : View X) → a < k.anchors → stage_of (epoch_of x) ≡ stage_of (epoch_of (word s a)) → v'.tabs ≡ v.tabs → SlotsHold k.anchors (slot_words k (set s.words (anchor_index a) x)) s.chains (set s.views i v')
  no_tab_moves a x v' lt same tabs = told_again (set s.words (anchor_index a) x) s.chains (set s.views i v') (anchor_told_same k s.words a x lt so.shaped.words same) (no_turn k.anchors (slot_words k s.words) s.chains s.views i v sl at v' tabs)

  -- or one that has no slots
  pub one_tab_moves : (a x : ℕ) (v' : View X) (t : ℕ) (old new : Tab X) → a < k.anchors → stage_of (epoch_of x) ≡ stage_of (epoch_of (word s a)) → OneTab v v' t old new → NoSlots old → NoSlots new → TabHolds (slot_words k s.words) s.chains v' new
      → SlotsHold k.anchors (slot_words k (set s.words (anchor_index a) x)) s.chains (set s.views i v')
  one_tab_moves a x v' t old new lt same one none none' holds = told_again (set s.words (anchor_index a) x) s.chains (set s.views i v') (anchor_told_same k s.words a x lt so.shaped.words same)
      (one_turn k.anchors (slot_words k s.words) s.chains s.views i v sl at v' t old new one none none' holds)

  pub look_slots : (a : ℕ) → Allowed k s v (Look a) → SlotsSound k (after k s i v (Look a))
  look_slots a lt = no_tab_moves a (word s a) (view_after v (Look a) (finding k s v (Look a))) lt refl refl

  pub count_slots : SlotsSound k (after k s i v Count)
  count_slots = told_again _ s.chains _ (counter_told k s.words _) (no_turn k.anchors (slot_words k s.words) s.chains s.views i v sl at (view_after v Count (finding k s v Count)) refl)

  pub draw_slots : SlotsSound k (after k s i v Draw)
  draw_slots = told_again _ s.chains _ (counter_told k s.words _) (no_turn k.anchors (slot_words k s.words) s.chains s.views i v sl at (view_after v Draw (finding k s v Draw)) refl)

  -- an entry that can be read has a slot
  pub has_slot : (a : ℕ) → a < k.anchors → (stage_of (epoch_of (word s a)) ≡ 2) ⊎ (stage_of (epoch_of (word s a)) ≡ 3) → 0 < length (chain_of s a).slots
  has_slot a lt st = let c = sl.stand a lt in let e = stage_told k s.words a lt in some_fits (chain_of s a).slots (chain_of s a).end c.fits
      (λ none. ⊎_elim (λ (q : stage_of (epoch_of (word s a)) ≡ 2). c.grows (e ∙ q) none) (λ (q : stage_of (epoch_of (word s a)) ≡ 3). last_is_written (sym (c.closed (e ∙ q)) ∙ none)) st)

  entered_none : (a n : ℕ) (b : Bool) → NoSlots {X = X} (cond b (Reading record { anchor = a; version = version_of (epoch_of n); place = 0; slot = None; found = NotWritten; turn = NoTurn }) (Retreating a))
  entered_none a n true = tt
  entered_none a n false = tt

  entered_holds : (v' : View X) (a : ℕ) → a < k.anchors → (b : Bool) → b ≡ is_readable (epoch_of (word s a))
      → TabHolds (slot_words k s.words) s.chains v' (cond b (Reading record { anchor = a; version = version_of (epoch_of (word s a)); place = 0; slot = None; found = NotWritten; turn = NoTurn }) (Retreating a))
  entered_holds v' a lt true e = record {
    some_slot = has_slot a lt (stage_of-readable (epoch_of (word s a)) (sym e));
    inside = omega arith;
    found = λ ne. absurd (ne refl);
    at = λ slot e. cc;
  }
  entered_holds v' a lt false e = tt

  pub enter_slots : (t a : ℕ) → Allowed k s v (Enter t a) → SlotsSound k (after k s i v (Enter t a))
  enter_slots t a may = let n : ℕ = word s a in let lt = may.0 in let few = few_readers k s i v so at pass a lt in let room : readers_of n < 65535 = omega arith in
      one_tab_moves a (n + 1) (view_after v (Enter t a) (finding k s v (Enter t a))) t Free (entered a (epoch_of n)) lt (ap stage_of (epoch_of-more n room))
      record { was = tab_there v t Free (let p = pass in let q = may.1 in omega arith) may.2; becomes = refl }
      tt (entered_none a n (is_readable (epoch_of n))) (entered_holds (view_after v (Enter t a) (finding k s v (Enter t a))) a lt (is_readable (epoch_of n)) refl)

  counted_none : (x : Tab X) → is_counted x ≡ true → NoSlots x
  counted_none Free h = tt
  counted_none (Retreating a) h = tt
  counted_none (Reading r) h = tt
  counted_none (Writing w) h = cc
  counted_none (Last a) h = tt
  counted_none (Freeing f) h = cc

  pub left_none : (a : ℕ) (b : Bool) → NoSlots {X = X} (cond b (Last a) Free)
  left_none a true = tt
  left_none a false = tt

  pub left_holds : (w : SlotWords) (cs : List Chain) (v' : View X) (a : ℕ) (b : Bool) → TabHolds w cs v' (cond b (Last a) Free)
  left_holds w cs v' a true = tt
  left_holds w cs v' a false = tt

  pub leave_slots : (t : ℕ) → Allowed k s v (Leave t) → SlotsSound k (after k s i v (Leave t))
  leave_slots t may = let old : Tab X = tab_at v t in let a : ℕ = anchor_of old in let n : ℕ = word s a in let was = tab_there v t old (let p = pass in let q = may.0 in omega arith) refl in
      let c = counted_there k s i v so at pass t a old was may.1 refl in let some_reader = has_reader k s i v so at pass t a old was c.0 c.1.counts_one in
      let v' : View X = view_after v (Leave t) (finding k s v (Leave t)) in
      one_tab_moves a (n - 1) v' t old (left_tab a (n - 1)) c.0 (ap stage_of (epoch_of-less n some_reader)) record { was = was; becomes = refl }
      (counted_none old may.1) (left_none a (is_left_over (n - 1))) (left_holds (slot_words k s.words) s.chains v' a (is_left_over (n - 1)))

  pub doom_slots : (t : ℕ) → Allowed k s v (Doom t) → SlotsSound k (after k s i v (Doom t))
  doom_slots t may = let old : Tab X = tab_at v t in let a : ℕ = anchor_of old in let was = tab_there v t old (let p = pass in let q = may.0 in omega arith) refl in
      let c = counted_there k s i v so at pass t a old was (reads_counted k s i v so at pass old may.1) refl in
      no_tab_moves a (doomed (word s a)) (view_after v (Doom t) (finding k s v (Doom t))) c.0 (stage_of-doomed (word s a)) refl
