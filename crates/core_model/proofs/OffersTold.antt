-- What a state of which each entry is the opening's or one of its offer tells: of epochs, of closed entries, and of a tab that reads.
use Rattle.std.proofs.Common.{◌≡◌, ◌≢◌, inl, inr, ⊎_elim, ℕ, zero, suc, ◌+◌, ◌-◌, ◌<◌, ◌≤◌, List, [], ◌∷◌, length, drop, sym, refl, ap, ◌∙◌, subst, arith, Option, Some, None, Contains}
use Rattle.std.specs.Prelude.{◌↔◌}
use mathlib.Core.Option.{some}
use mathlib.Core.Logic.{dite}
use native.Mathlib.Decide.{ℕ_discrete}
use lib.ListN.{get_elem?}
use Rattle.lock_word.specs.Words.{epoch_of, version_of, stage_of}
use Rattle.link_word.specs.declared.link.Link.{Link}
use Rattle.link_word.specs.declared.link.Link.TheVariants.{NotWritten, Last as LastLink}
use Rattle.core_model.specs.declared.moves.Side.{Side}
use Rattle.core_model.specs.declared.moves.Side.TheVariants.{Key0, Key1, Offer}
use Rattle.core_model.specs.declared.tab.Hold.{Hold}
use Rattle.core_model.specs.declared.tab.Reader.{Reader}
use Rattle.core_model.specs.declared.tab.Tab.TheVariants.{Reading, Writing}
use Rattle.core_model.specs.declared.tab.Writer.{Writer}
use Rattle.core_model.specs.declared.tab.Turn.TheVariants.{Has}
use Rattle.core_model.specs.declared.view.Sight.TheVariants.{Named}
use Rattle.core_model.specs.declared.view.View.{View}
use Rattle.core_model.specs.declared.chain.Chain.{Chain}
use Rattle.core_model.specs.Layout.{Setting}
use Rattle.core_model.specs.Chains.{link_to, link_at, slots_of_link, first_of}
use Rattle.core_model.specs.State.{State, word, chain_of, side_word}
use Rattle.core_model.specs.Anchors.{opening_counter}
use Rattle.core_model.specs.Slots.{slot_words, ChainStands, ReaderHolds, WriterHolds}
use Rattle.core_model.specs.Cells.{IsContent, IsCell}
use Rattle.core_model.specs.Sound.{Sound}
use Rattle.core_model.specs.Offers.{Offering, IsOldEntry, IsNewEntry, OffersStand, ReadsOld, ReadsNew, ReadsOffer, WritesOffer}
use Rattle.core_model.proofs.Spelling.{some_fits, last_is_written, next_is_not_last}
use Rattle.core_model.proofs.Telling.{told_in, stage_told}
use Rattle.core_model.proofs.Matching.{matches_writer}
use Rattle.core_model.proofs.OffersKept.{fits_as}
use Rattle.core_model.proofs.CellsTab.{at_first}
use Rattle.core_model.specs.SlotMoves.{IsNext}
use Rattle.core_model.specs.Holders.{IsTab}

-- a link before the last one is not the last
link_before : (xs : List ℕ) (e : Link) (n : ℕ) → n < length xs → link_to (drop n xs) e ≡ LastLink → ⊥
link_before [] e n lt q = absurd (omega arith)
link_before (x ∷ xs) e zero lt q = next_is_not_last x q
link_before (x ∷ xs) e (suc n) lt q = link_before xs e n (omega arith) q

link_behind : (xs : List ℕ) (e : Link) (n : ℕ) → n ≡ length xs → link_to (drop n xs) e ≡ e
link_behind [] e zero same = refl
link_behind [] e (suc n) same = absurd (omega arith)
link_behind (x ∷ xs) e zero same = absurd (omega arith)
link_behind (x ∷ xs) e (suc n) same = link_behind xs e n (omega arith)

some_items : (xs : List ℕ) → xs ≢ [] → 0 < length xs
some_items [] h = absurd (h refl)
some_items (x ∷ xs) h = omega arith

module _ {X : Type 0} (o : Offering) (k : Setting X) (s : State X) where
  -- the link of each published piece says whether it is the last
  pub links_new : (a : ℕ) → IsNewEntry o k s a → (p : ℕ) → p < length (chain_of s a).slots → (link_at (chain_of s a) p ≡ LastLink) ↔ (p + 1 ≡ o.pieces (side_word k s Offer a))
  links_new a new p lt = dite (ℕ_discrete (p + 1) (length (chain_of s a).slots))
      (λ e. let same = link_behind (chain_of s a).slots (chain_of s a).end (p + 1) e in ((λ q. e ∙ new.last.0 (sym same ∙ q)), (λ q. same ∙ new.last.1 (sym e ∙ q))))
      (λ ne. ((λ q. absurd (link_before (chain_of s a).slots (chain_of s a).end (p + 1) (omega arith) q)), (λ q. absurd (let z = new.inside in omega arith))))

module _ {X : Type 0} (o : Offering) (k : Setting X) (s : State X) (so : Sound k s) (st : OffersStand o k s) where
  -- Closed entries.

  module _ (a : ℕ) (lt : a < k.anchors) (closed : stage_of (epoch_of (word s a)) ≡ 3) where
    stands : ChainStands 3 ((slot_words k s.words).start a) (slot_words k s.words).link (chain_of s a)
    stands = subst (λ (g : ℕ). ChainStands g ((slot_words k s.words).start a) (slot_words k s.words).link (chain_of s a)) (stage_told k s.words a lt ∙ closed) (so.slots.stand a lt)

    end : (chain_of s a).end ≡ LastLink
    end = stands.closed refl

    some_slot : 0 < length (chain_of s a).slots
    some_slot = some_fits (chain_of s a).slots (chain_of s a).end stands.fits (λ e. last_is_written (sym end ∙ e))

    -- one with a version of the opening has the chain that it had then
    pub closed_old : version_of (epoch_of (word s a)) ≤ opening_counter k → chain_of s a ≡ record { slots = o.chain a; end = LastLink; tail = [] }
    closed_old low = let old = st.old a lt some_slot low in let slots = old.slots in let tail = stands.tails in λ j. record { slots = slots j; end = end j; tail = tail j }

    -- a new one has all pieces of its offer
    pub closed_new : opening_counter k < version_of (epoch_of (word s a)) → length (chain_of s a).slots ≡ o.pieces (side_word k s Offer a)
    closed_new high = (st.new a lt some_slot high).last.0 end

  -- Tabs that read.

  module _ (i t : ℕ) (r : Reader X) (h : Hold X) (is : IsTab s i t (Reading r)) (has : r.turn ≡ Has h) where
    abbrev a : ℕ
    a = r.anchor

    abbrev c : Chain
    c = chain_of s r.anchor

    abbrev offer : ℕ
    offer = side_word k s Offer r.anchor

    inside : r.anchor < k.anchors
    inside = (so.anchors.tabs i is.view is.at t (Reading r) is.there).0

    version_is : version_of (epoch_of (word s r.anchor)) ≡ r.version
    version_is = (so.anchors.tabs i is.view is.at t (Reading r) is.there).1.version_is

    holds : ReaderHolds c r
    holds = so.slots.tabs i is.view is.at t (Reading r) is.there

    turn : (h.slot < k.slots) × IsNext s h.slot r × (r.found ≢ NotWritten)
    turn = so.cells.turns i is.view is.at t (Reading r) is.there h has

    found : (r.place < length c.slots) × (r.found ≡ link_at c r.place)
    found = holds.found turn.2

    at_place : get_elem? c.slots r.place ≡ some h.slot
    at_place = at_first c.slots (slots_of_link c.end) r.place h.slot turn.1 found.0

    cell : IsCell s h.slot h.cell
    cell = inr record { i = i; view = is.view; at = is.at; t = t; tab = Reading r; there = is.there; hold = h; turn = has; slot_is = refl; cell_is = refl }

    content : IsContent k s r.anchor r.place h.slot h.cell.now
    content = so.cells.contents.published r.anchor r.place h.slot h.cell inside at_place cell

    reads_old : IsOldEntry o k s r.anchor → ReadsOld o k offer r h
    reads_old old = record {
      offer_is = old.offer;
      place = subst (λ (xs : List ℕ). get_elem? xs r.place ≡ some h.slot) old.slots at_place;
      next = found.1 ∙ ap (λ (xs : List ℕ). link_to (drop (r.place + 1) xs) c.end) old.slots ∙ ap (link_to (drop (r.place + 1) (o.chain r.anchor))) old.end;
      content = ⊎_elim
          (λ (q : (offer < k.slots) × (get_elem? k.contents h.slot ≡ some h.cell.now)). q.1)
          (λ (q : (k.slots ≤ offer) × _). absurd (let z = old.inside in let y = q.0 in omega arith))
          content;
    }

    reads_new : k.slots ≤ offer → IsNewEntry o k s r.anchor → ReadsNew o k s offer r h
    reads_new high new = let links = links_new o k s r.anchor new r.place found.0 in record {
      fits = new.fits;
      inside = let z = new.inside in let y = found.0 in omega arith;
      last = ((λ q. links.0 (sym found.1 ∙ q)), (λ q. found.1 ∙ links.1 q));
      content = ⊎_elim
          (λ (q : (offer < k.slots) × _). absurd (let z = q.0 in omega arith))
          (λ (q : (k.slots ≤ offer) × (h.cell.now ≡ k.image record { offer = offer; version = version_of (epoch_of (word s r.anchor)); place = r.place; first = first_of c.slots; next = link_at c r.place })).
          q.1 ∙ ap (λ (v : ℕ). k.image record { offer = offer; version = v; place = r.place; first = first_of c.slots; next = link_at c r.place }) version_is
          ∙ ap (λ (l : Link). k.image record { offer = offer; version = r.version; place = r.place; first = first_of c.slots; next = l }) (sym found.1))
          content;
    }

    -- what is at the tab's place, of the offer beside its anchor
    reads : ReadsOffer o k s offer r h
    reads = dite (ℕ_discrete (r.version - opening_counter k) 0)
        (λ e. let old = st.old r.anchor inside (let z = found.0 in omega arith) (let v = version_is in omega arith) in inl (old.inside, omega arith, reads_old old))
        (λ ne. let some_slot : 0 < length c.slots = (let z = found.0 in omega arith) in let above : opening_counter k < version_of (epoch_of (word s r.anchor)) = (let v = version_is in omega arith) in
        let high = so.cells.names.offers r.anchor inside some_slot above in inr (high, omega arith, reads_new high (st.new r.anchor inside some_slot above)))

    -- and of an offer that a pass or a note has seen of its version
    pub reads_seen : (j : ℕ) (u : View X) (n : ℕ) → get_elem? s.views j ≡ some u → Contains u.seen (Named r.anchor r.version Offer n) → ReadsOffer o k s n r h
    reads_seen j u n at seen = subst (λ (z : ℕ). ReadsOffer o k s z r h) (so.anchors.seen.named j u at r.anchor r.version Offer n seen version_is).0 reads

  -- Tabs that write.

  module _ (i t : ℕ) (w : Writer X) (n : ℕ) (is : IsTab s i t (Writing w)) (named : w.offer ≡ Some n) (published : w.published ≢ []) where
    writes : WriterHolds ((slot_words k s.words).beside w.anchor) (chain_of s w.anchor) w
    writes = so.slots.tabs i is.view is.at t (Writing w) is.there

    there : w.anchor < k.anchors
    there = (so.anchors.tabs i is.view is.at t (Writing w) is.there).0

    beside_is : (side : Side) → (slot_words k s.words).beside w.anchor side ≡ side_word k s side w.anchor
    beside_is side = told_in k.anchors w.anchor _ there

    slots_are : (chain_of s w.anchor).slots ≡ w.published
    slots_are = ap Chain.slots writes.chain

    new : IsNewEntry o k s w.anchor
    new = st.new w.anchor there (some_items (chain_of s w.anchor).slots (λ e. published (sym slots_are ∙ e)))
        (let m = (matches_writer k s so.anchors i t w is).1.version_is in let d = (so.cells.writers i is.view is.at t (Writing w) is.there).drawn in omega arith)

    some_name : (x : Option ℕ) → x ≢ None → (m : ℕ) × (x ≡ Some m)
    some_name None ne = absurd (ne refl)
    some_name (Some m) ne = (m, refl)

    pub writes_offer : WritesOffer o n w
    writes_offer = let stored = writes.names_are.named (inr published) in let x = some_name w.key0 stored.0 in let y = some_name w.key1 stored.1 in
        of_words (sym (beside_is Offer) ∙ writes.names_are.offer n named) x.0 y.0 x.1 y.1 (sym (beside_is Key0) ∙ writes.names_are.key0 x.0 x.1) (sym (beside_is Key1) ∙ writes.names_are.key1 y.0 y.1)
      where
        of_words : side_word k s Offer w.anchor ≡ n → (x y : ℕ) → w.key0 ≡ Some x → w.key1 ≡ Some y → side_word k s Key0 w.anchor ≡ x → side_word k s Key1 w.anchor ≡ y → WritesOffer o n w
        of_words f x y is_x is_y g h = record {
          key0 = x;
          key1 = y;
          key0_is = is_x;
          key1_is = is_y;
          fits = fits_as o w.anchor (side_word k s Offer w.anchor) n (side_word k s Key0 w.anchor) x (side_word k s Key1 w.anchor) y (sym f) (sym g) (sym h) new.fits;
          inside = let z = new.inside in let e = ap length slots_are in let p = ap o.pieces f in omega arith;
          last = ((λ q. sym (ap length slots_are) ∙ new.last.0 (ap Chain.end writes.chain ∙ q) ∙ ap o.pieces f), (λ q. sym (ap Chain.end writes.chain) ∙ new.last.1 (ap length slots_are ∙ q ∙ sym (ap o.pieces f))));
        }
