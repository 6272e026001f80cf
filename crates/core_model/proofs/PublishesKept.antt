-- To publish a slot keeps a state sound.
use Rattle.std.proofs.Common.{◌≡◌, ◌≢◌, inl, ℕ, ◌+◌, ◌<◌, ◌≤◌, List, length, get_or, set, sym, refl, ap, ◌∙◌, subst, arith, Some, None, Option, length-set, get_or-set_same, get_or-set_other}
use mathlib.Core.Option.{some}
use mathlib.Core.Logic.{dite}
use native.Mathlib.Decide.{ℕ_discrete}
use lib.ListN.{get_elem?}
use Rattle.std.specs.Prelude.{unwrap_or}
use Rattle.lock_word.specs.Words.{epoch_of, version_of, stage_of}
use Rattle.link_word.specs.declared.link.Link.{Link}
use Rattle.link_word.specs.declared.link.Link.TheVariants.{Last as LastLink}
use Rattle.link_word.specs.Words.{link_number}
use Rattle.core_model.specs.declared.moves.Side.{Side}
use Rattle.core_model.specs.declared.moves.Side.TheVariants.{Key0, Key1, Offer}
use Rattle.core_model.specs.declared.tab.Piece.{Piece}
use Rattle.core_model.specs.declared.tab.Writer.{Writer}
use Rattle.core_model.specs.declared.tab.Tab.{Tab}
use Rattle.core_model.specs.declared.tab.Tab.TheVariants.{Writing}
use Rattle.core_model.specs.declared.moves.Move.TheVariants.{Publish}
use Rattle.core_model.specs.declared.view.Place.TheVariants.{Beside, Link as LinkWord}
use Rattle.core_model.specs.declared.view.View.{View}
use Rattle.core_model.specs.declared.chain.Chain.{Chain}
use Rattle.core_model.specs.Layout.{Setting, index, link_index}
use Rattle.core_model.specs.State.{State, word, chain_of}
use Rattle.core_model.specs.Chains.{no_chain, times, link_to, rest_of}
use Rattle.core_model.specs.Trails.{seen_at}
use Rattle.core_model.specs.Tabs.{tab_at, anchor_of, stage_written, IsPass}
use Rattle.core_model.specs.Steps.{finding, view_after, longer, after}
use Rattle.core_model.specs.Slots.{SlotWords, slot_words, WriterHolds, SlotsHold, SlotsSound}
use Rattle.core_model.specs.Sound.{AnchorsSound, WordsSound}
use Rattle.core_model.proofs.Matching.{matches_writer}
use Rattle.core_model.proofs.Spelling.{one_same, length_more}
use Rattle.core_model.proofs.Telling.{told_in, link_told, stage_told}
use Rattle.core_model.proofs.SlotAnchors.{writer_stage, sole_writer}
use Rattle.core_model.proofs.SlotsPublished.{publish_keeps}
use Rattle.core_model.proofs.BesideKept.{beside, besides}
use Rattle.core_model.proofs.Places.{beside_inside}
use Rattle.core_model.proofs.BesideKinds.{Likens, tabs_as_before, tab_as_before, quiet_linked, at_slot}
use Rattle.core_model.proofs.SightsKept.{Each, IsSo, OfNow, stored_value, sees_so}
use Rattle.core_model.proofs.ReservesKept.{of_writer, tab_was, held_slot}
use Rattle.core_model.specs.Table.{Allowed, item_of}
use Rattle.core_model.specs.SlotMoves.{MayPublish, publishes, shows}

module _ {X : Type 0} (k : Setting X) (s : State X) (i : ℕ) (v : View X) (so : AnchorsSound k s) (sl : SlotsSound k s) (at : get_elem? s.views i ≡ some v) (pass : IsPass v)
    (t slot : ℕ) (link : Link) (x : Writer X) (was : get_elem? v.tabs t ≡ some (Writing x)) (may : MayPublish k s slot link x) where
  abbrev w : SlotWords
  w = slot_words k s.words

  abbrev a : ℕ
  a = x.anchor

  abbrev new : Tab X
  new = publishes (Writing x) slot link

  abbrev chains : List Chain
  chains = set s.chains a (longer (chain_of s a) slot link)

  there : (a < k.anchors) × (stage_of (epoch_of (word s a)) ≡ stage_written x) × (1 ≤ stage_of (epoch_of (word s a))) × (stage_of (epoch_of (word s a)) ≤ 2)
  there = writer_stage k s so sl i v at t x was

  holds : WriterHolds (w.beside a) (chain_of s a) x
  holds = sl.tabs i v at t (Writing x) was

  inside : slot < k.slots
  inside = held_slot k s i v so sl at pass slot t (Writing x) was (let c = ap (times slot) may.first in let o = one_same slot in omega arith)

  chose : x.chosen ≢ None
  chose e = absurd (some_not_none may.piece (sym may.chosen ∙ e))
    where
      some_not_none : (p : Piece) → Some p ≡ None → ⊥
      some_not_none p q = cc

  link_is : link ≡ link_to (rest_of x.reserved) LastLink
  link_is = sym may.link_is ∙ ap Piece.next (holds.chosen may.piece may.goes_on may.chosen)

  small : a < length s.chains
  small = let m = so.shaped.chains in let q = there.0 in omega arith

  likens : Likens k s v t (Writing x) new
  likens = record { counts = λ b. refl; writes = λ b u g. refl; frees = λ b u d. refl; stands = λ h. h; not_last = λ b e. cc }

  chain_now : get_or chains a no_chain ≡ longer (chain_of s a) slot link
  chain_now = get_or-set_same s.chains a (longer (chain_of s a) slot link) no_chain small

  longer_now : (b : ℕ) → length (chain_of s b).slots ≤ length (get_or chains b no_chain).slots
  longer_now b = dite (ℕ_discrete b a)
      (λ e. subst (λ (z : ℕ). length (chain_of s z).slots ≤ length (get_or chains z no_chain).slots) (sym e) (let l = length_more (chain_of s a).slots slot in let q = ap (λ (c : Chain). length c.slots) chain_now in omega arith))
      (λ ne. let q = ap (λ (c : Chain). length c.slots) (get_or-set_other s.chains a b (longer (chain_of s a) slot link) no_chain ne) in omega arith)

  module _ (v' : View X) where
    abbrev s' : State X
    s' = besides k s i v' (LinkWord slot) (link_number link) chains

    side_same : (side : Side) → get_or s'.words (index k (Beside side a)) 0 ≡ get_or s.words (index k (Beside side a)) 0
    side_same side = get_or-set_other s.words (index k (LinkWord slot)) (index k (Beside side a)) (link_number link) 0 (λ e. let z = beside_inside k side a there.0 in omega arith)

    stored : (side : Side) (o : Option ℕ) → o ≢ None → ((m : ℕ) → o ≡ Some m → w.beside a side ≡ m) → get_or s'.words (index k (Beside side a)) 0 ≡ unwrap_or o 0
    stored side o ne h = stored_value o (get_or s'.words (index k (Beside side a)) 0) ne (λ m e. side_same side ∙ sym (told_in k.anchors a (get_or s.words (index k (Beside side a)) 0) there.0) ∙ h m e)

    has_slot : 0 < length (chain_of s' a).slots
    has_slot = let l = length_more (chain_of s a).slots slot in let q = ap (λ (c : Chain). length c.slots) chain_now in omega arith

    so_now : Each (IsSo k s s' v) (shows (Writing x))
    so_now = let q = holds.names_are.named (inl chose) in (
      many_now,
      (
        (stored Key0 x.key0 q.0 holds.names_are.key0, (λ _. has_slot), side_same Key0),
        (
          (stored Key1 x.key1 q.1 holds.names_are.key1, (λ _. has_slot), side_same Key1),
          ((stored Offer x.offer q.2 holds.names_are.offer, (λ _. has_slot), side_same Offer), tt),
        ),
      ),
    )
      where
        many_now : length x.published + 1 ≤ length (chain_of s' a).slots
        many_now = let l = length_more (chain_of s a).slots slot in let c = ap (λ (c : Chain). length c.slots) chain_now in let p = ap (λ (c : Chain). length c.slots) holds.chain in omega arith

    of_now : Each (OfNow k s s' v) (shows (Writing x))
    of_now = let m = matches_writer k s so i t x record { view = v; at = at; there = was } in let st = so.tabs i v at t (Writing x) was in let y : (a < k.anchors) × (version_of (epoch_of (word s a)) ≡ x.version) × (x.version ≤ version_of (seen_at a v.seen)) = (st.0, m.1.version_is, st.2) in (y, (y, (y, (y, tt))))

  publishes_anchors : (item_found : ℕ) → AnchorsSound k (besides k s i (beside v (set v.tabs t new) (shows (Writing x)) (item_of v (Publish t slot link) item_found) (LinkWord slot) (link_number link)) (LinkWord slot) (link_number link) chains)
  publishes_anchors item_found = let v' : View X = beside v (set v.tabs t new) (shows (Writing x)) (item_of v (Publish t slot link) item_found) (LinkWord slot) (link_number link) in
      at_slot k s i v so at pass (item_of v (Publish t slot link) item_found) quiet_linked (set v.tabs t new) (tab_as_before k s i v so at pass v.tabs (tabs_as_before k s i v so at pass) t (Writing x) new was likens)
      (shows (Writing x)) (LinkWord slot) (link_number link) chains (omega arith) (let z = inside in omega arith) (length-set s.chains a (longer (chain_of s a) slot link)) longer_now
      (sees_so k s (s' v') v so (shows (Writing x)) (of_now v') (so_now v'))

  publishes_slots : (v' : View X) → v'.tabs ≡ set v.tabs t new → SlotsHold k.anchors (slot_words k (set s.words (link_index k slot) (link_number link))) chains (set s.views i v')
  publishes_slots v' tabs = subst (λ z. SlotsHold k.anchors z chains (set s.views i v')) (sym (link_told k s.words slot (link_number link) inside so.shaped.words))
      (publish_keeps k.anchors w s.chains s.views i v sl at v' slot link t x was (rest_of x.reserved) may.first link_is chose there.0 so.shaped.chains
      (let e = stage_told k s.words a there.0 in let z = there.2 in omega arith) (let e = stage_told k s.words a there.0 in let z = there.3 in omega arith)
      (λ j u ut p y is same. let q = sole_writer k s so sl j u ut p y is i v at t x was same in q)
      record { was = was; becomes = tabs })

pub publish_both : {X : Type 0} → (k : Setting X) (s : State X) (i : ℕ) (v : View X) → AnchorsSound k s → SlotsSound k s → get_elem? s.views i ≡ some v → IsPass v → (t slot : ℕ) (link : Link) → Allowed k s v (Publish t slot link)
    → WordsSound k (after k s i v (Publish t slot link))
publish_both {X} k s i v so sl at pass t slot link may = let q = of_writer (MayPublish k s slot link) (tab_at v t) may.1 in let v' : View X = view_after v (Publish t slot link) (finding k s v (Publish t slot link)) in
    let was = tab_was k s i v so sl at pass t (Writing q.0) (let z = may.0 in omega arith) q.1 in record {
      anchors = subst (λ (z : Tab X). AnchorsSound k (besides k s i (beside v (set v.tabs t (publishes z slot link)) (shows z) (item_of v (Publish t slot link) (get_or s.words (link_index k slot) 0)) (LinkWord slot) (link_number link)) (LinkWord slot) (link_number link)
          (set s.chains (anchor_of z) (longer (chain_of s (anchor_of z)) slot link)))) (sym q.1) (publishes_anchors k s i v so sl at pass t slot link q.0 was q.2 (get_or s.words (link_index k slot) 0));
      slots = subst (λ (z : Tab X). SlotsHold k.anchors (slot_words k (set s.words (link_index k slot) (link_number link))) (set s.chains (anchor_of z) (longer (chain_of s (anchor_of z)) slot link)) (set s.views i v')) (sym q.1)
          (publishes_slots k s i v so sl at pass t slot link q.0 was q.2 v' (ap (λ (z : Tab X). set v.tabs t (publishes z slot link)) q.1));
    }
