-- To log a piece keeps a state sound: the tab has its next piece in mind, the counter of logged pieces tells nothing of anchors and slots,
-- and what the pass sees is of no version.
use Rattle.std.proofs.Common.{◌≡◌, ◌≢◌, ⊎_elim, ℕ, ◌+◌, ◌%◌, ◌^◌, ◌<◌, ◌≤◌, get_or, set, sym, refl, ap, subst, arith, Option, Some, Bool, false, Contains}
use Rattle.std.specs.Prelude.{unwrap_or}
use mathlib.Core.Option.{some}
use lib.ListN.{get_elem?}
use Rattle.lock_word.specs.Words.{epoch_of, stage_of, version_of}
use Rattle.core_model.specs.declared.moves.Move.{Move}
use Rattle.core_model.specs.declared.moves.Move.TheVariants.{LogPiece}
use Rattle.core_model.specs.declared.moves.Side.{Side}
use Rattle.core_model.specs.declared.moves.Side.TheVariants.{Start}
use Rattle.core_model.specs.declared.tab.Piece.{Piece}
use Rattle.core_model.specs.declared.tab.Writer.{Writer}
use Rattle.core_model.specs.declared.tab.Tab.{Tab}
use Rattle.core_model.specs.declared.tab.Tab.TheVariants.{Writing}
use Rattle.core_model.specs.declared.view.LoggedPiece.{LoggedPiece}
use Rattle.core_model.specs.declared.view.Sight.{Sight}
use Rattle.core_model.specs.declared.view.Sight.TheVariants.{Logged, Named, Published}
use Rattle.core_model.specs.declared.view.Place.TheVariants.{Beside, LogCounter}
use Rattle.core_model.specs.declared.view.View.{View}
use Rattle.core_model.specs.Layout.{Setting, index, anchor_index, link_index, log_index}
use Rattle.core_model.specs.State.{State, chain_of}
use Rattle.core_model.specs.Trails.{seen_at, sight_anchor, sight_version}
use Rattle.core_model.specs.Tabs.{tab_at, IsPass}
use Rattle.core_model.specs.CellMoves.{MayLog, logged_by, logs, piece_of}
use Rattle.core_model.specs.Table.{Allowed, item_of}
use Rattle.core_model.specs.Steps.{after, finding, view_after}
use Rattle.core_model.specs.Slots.{SlotWords, slot_words, held_in, resting_in, TabHolds, WriterHolds, SlotsHold, SlotsSound}
use Rattle.core_model.specs.Sound.{AnchorsSound, WordsSound}
use Rattle.core_model.proofs.Telling.{told_else, taken_else, side_in}
use Rattle.core_model.proofs.SlotTabs.{tab_later}
use Rattle.core_model.proofs.SlotKinds.{OneTab, recounted, each_tab, quiet}
use Rattle.core_model.proofs.SlotsReserved.{same_by_writer}
use Rattle.core_model.proofs.BesideKept.{SightsOwe, beside, besides, one_of}
use Rattle.core_model.proofs.BesideKinds.{Likens, tabs_as_before, tab_as_before, quiet_logged, at_log}
use Rattle.core_model.proofs.ReservesKept.{of_writer, tab_was}

abbrev pub NotNamed : Sight → Type 0
NotNamed (Named b version side value) = ⊥
NotNamed _ = Unit {0}

abbrev pub NotPublished : Sight → Type 0
NotPublished (Published b version many) = ⊥
NotPublished _ = Unit {0}

module _ {X : Type 0} (k : Setting X) (s : State X) (i : ℕ) (v : View X) (so : AnchorsSound k s) (sl : SlotsSound k s) (at : get_elem? s.views i ≡ some v) (pass : IsPass v)
    (t slot : ℕ) (durable : Bool) (x : Writer X) (was : get_elem? v.tabs t ≡ some (Writing x)) (may : MayLog slot x) where
  abbrev w : SlotWords
  w = slot_words k s.words

  abbrev a : ℕ
  a = x.anchor

  abbrev new : Tab X
  new = logs (Writing x) slot durable

  inside : a < k.anchors
  inside = (so.tabs i v at t (Writing x) was).0

  likens : Likens k s v t (Writing x) new
  likens = record { counts = λ b. refl; writes = λ b u g. refl; frees = λ b u d. refl; stands = λ h. h; not_last = λ b e. cc }

  -- what is seen is one logged piece
  logged_only : (n : ℕ) (P : Sight → Type 0) → ((l : LoggedPiece) → l.anchor ≡ a → P (Logged l)) → (y : Sight) → Contains (logged_by (Writing x) slot durable n) y → P y
  logged_only n P h y c = subst P (one_of _ y c) (h _ refl)

  sees : (s' : State X) (n : ℕ) → SightsOwe k s s' v (logged_by (Writing x) slot durable n)
  sees s' n = record {
    no_epoch = tt;
    no_start = λ b version value c. absurd (not_named n b version Start value c);
    inside = λ y c. logged_only n (λ (z : Sight). sight_anchor z < k.anchors) (λ l e. subst (λ (z : ℕ). z < k.anchors) (sym e) inside) y c;
    stands = λ y c some_version. absurd (logged_only n (λ (z : Sight). 0 < sight_version z → ⊥) (λ l e q. absurd (omega arith)) y c some_version);
    known = λ y c. logged_only n (λ (z : Sight). sight_version z ≤ version_of (seen_at (sight_anchor z) v.seen)) (λ l e. omega arith) y c;
    named = λ b version side value c. absurd (not_named n b version side value c);
    published = λ b version many c. absurd (not_published n b version many c);
    agree = λ j u ut b version side y z c d. absurd (not_named n b version side y c);
    agree_new = λ b version side y z c d. absurd (not_named n b version side y c);
  }
    where
      not_named : (n b version : ℕ) (side : Side) (value : ℕ) → Contains (logged_by (Writing x) slot durable n) (Named b version side value) → ⊥
      not_named n b version side value c = logged_only n NotNamed (λ l e. tt) (Named b version side value) c

      not_published : (n b version many : ℕ) → Contains (logged_by (Writing x) slot durable n) (Published b version many) → ⊥
      not_published n b version many c = logged_only n NotPublished (λ l e. tt) (Published b version many) c

  log_anchors : (n left : ℕ) → AnchorsSound k (besides k s i (beside v (set v.tabs t new) (logged_by (Writing x) slot durable n) (item_of v (LogPiece t slot durable) n) LogCounter left) LogCounter left s.chains)
  log_anchors n left = at_log k s i v so at pass (item_of v (LogPiece t slot durable) n) quiet_logged (set v.tabs t new) (tab_as_before k s i v so at pass v.tabs (tabs_as_before k s i v so at pass) t (Writing x) new was likens)
      (logged_by (Writing x) slot durable n) left (sees _ n)

  -- the piece is the one for the tab's first reserved slot, and the tab has named its entry
  log_holds : WriterHolds (w.beside a) (chain_of s a) (record x { chosen = Some (piece_of x); logged_in = Some slot; is_durable = durable; is_written = false; is_settled = false })
  log_holds = let h : WriterHolds (w.beside a) (chain_of s a) x = sl.tabs i v at t (Writing x) was in record {
    few = h.few;
    tied = h.tied;
    chain = h.chain;
    chosen = λ p going e. ap (λ (o : Option Piece). unwrap_or o (piece_of x)) (sym e);
    names_are = record { key0 = h.names_are.key0; key1 = h.names_are.key1; offer = h.names_are.offer; start = h.names_are.start; named = λ z. (may.key0, may.key1, may.offer) };
  }

  log_told : (left : ℕ) → slot_words k (set s.words (log_index k) left) ≡ w
  log_told left = λ z. record {
    taken = λ b. taken_else k s.words (log_index k) left (λ j h e. omega arith) b z;
    link = λ b. told_else k.slots (λ j. link_index k j) s.words (log_index k) left (λ j h e. omega arith) b z;
    start = λ b. told_else k.anchors (λ j. index k (Beside Start j)) s.words (log_index k) left (λ j h e. omega arith) b z;
    stage = λ b. stage_of (epoch_of (told_else k.anchors (λ j. anchor_index j) s.words (log_index k) left (λ j h e. omega arith) b z));
    beside = λ b side. told_else k.anchors (λ j. index k (Beside side j)) s.words (log_index k) left (λ c h e. let q = side_in k s.words side c h in let y = q.1 in omega arith) b z;
  }

  log_slots : (v' : View X) (left : ℕ) → v'.tabs ≡ set v.tabs t new → SlotsHold k.anchors (slot_words k (set s.words (log_index k) left)) s.chains (set s.views i v')
  log_slots v' left tabs = let one : OneTab v v' t (Writing x) new = record { was = was; becomes = tabs } in subst (λ z. SlotsHold k.anchors z s.chains (set s.views i v')) (sym (log_told left))
      (quiet k.anchors w s.chains s.views i v sl at v'
      (λ j. let e = recounted v v' t (Writing x) new one (held_in j) in omega arith)
      (λ j. let e = recounted v v' t (Writing x) new one (resting_in j) in omega arith)
      (λ m tab e. ⊎_elim
      (λ (q : (m ≡ t) × (new ≡ tab)). subst (TabHolds w s.chains v') q.1 log_holds)
      (λ (q : (m ≢ t) × (get_elem? v.tabs m ≡ some tab)). tab_later w s.chains v v' (same_by_writer v v' t x _ one refl (λ z. z)) tab (sl.tabs i v at m tab q.1))
      (each_tab v v' t (Writing x) new one m tab e)))

pub log_both : {X : Type 0} → (k : Setting X) (s : State X) (i : ℕ) (v : View X) → AnchorsSound k s → SlotsSound k s → get_elem? s.views i ≡ some v → IsPass v → (t slot : ℕ) (durable : Bool) → Allowed k s v (LogPiece t slot durable)
    → WordsSound k (after k s i v (LogPiece t slot durable))
log_both {X} k s i v so sl at pass t slot durable may = let q = of_writer (MayLog slot) (tab_at v t) may.1 in let m : Move = LogPiece t slot durable in let v' : View X = view_after v m (finding k s v m) in
    let n : ℕ = get_or s.words (log_index k) 0 in let was = tab_was k s i v so sl at pass t (Writing q.0) (let z = may.0 in omega arith) q.1 in record {
      anchors = subst (λ (z : Tab X). AnchorsSound k (besides k s i (beside v (set v.tabs t (logs z slot durable)) (logged_by z slot durable n) (item_of v m n) LogCounter ((n + 1) % 2 ^ 64)) LogCounter ((n + 1) % 2 ^ 64) s.chains)) (sym q.1)
          (log_anchors k s i v so sl at pass t slot durable q.0 was q.2 n ((n + 1) % 2 ^ 64));
      slots = log_slots k s i v so sl at pass t slot durable q.0 was q.2 v' ((n + 1) % 2 ^ 64) (ap (λ (z : Tab X). set v.tabs t (logs z slot durable)) q.1);
    }
