-- To publish a slot keeps what is sound of cells and their turns, of published contents, and of the names of entries.
use Rattle.std.proofs.Common.{◌≡◌, ◌≢◌, ◌⊎◌, inl, inr, ⊎_elim, ℕ, zero, suc, ◌+◌, ◌<◌, ◌≤◌, List, [], ◌∷◌, ◌++◌, drop, length, get_or, set, sym, refl, ap, ◌∙◌, subst, arith, sum_by, eq-eqb, Some, None, Option, get_or-set_same, get_or-set_other, Contains}
use Rattle.std.specs.Prelude.{unwrap_or}
use mathlib.Core.Option.{some, some-injective, some-ne-none}
use mathlib.Core.Logic.{dite}
use native.Mathlib.Decide.{ℕ_discrete}
use lib.ListN.{get_elem?}
use Rattle.lock_word.specs.Words.{epoch_of, version_of, stage_of}
use Rattle.link_word.specs.declared.link.Link.{Link}
use Rattle.link_word.specs.declared.link.Link.TheVariants.{Last as LastLink, Next}
use Rattle.link_word.specs.Words.{link_number}
use Rattle.core_model.specs.declared.moves.Side.{Side}
use Rattle.core_model.specs.declared.moves.Side.TheVariants.{Key0, Key1, Offer, Start}
use Rattle.core_model.specs.declared.tab.Cell.{Cell}
use Rattle.core_model.specs.declared.tab.Piece.{Piece}
use Rattle.core_model.specs.declared.tab.Hold.{Hold}
use Rattle.core_model.specs.declared.tab.Turn.TheVariants.{Has, NoTurn}
use Rattle.core_model.specs.declared.tab.Reader.{Reader}
use Rattle.core_model.specs.declared.tab.Writer.{Writer}
use Rattle.core_model.specs.declared.tab.Tab.{Tab}
use Rattle.core_model.specs.declared.tab.Turn.{Turn as TurnOf}
use Rattle.core_model.specs.declared.tab.Tab.TheVariants.{Free, Retreating, Reading, Writing, Last, Freeing}
use Rattle.core_model.specs.declared.moves.Move.TheVariants.{Publish}
use Rattle.core_model.specs.declared.view.Sight.{Sight}
use Rattle.core_model.specs.declared.view.Sight.TheVariants.{Named}
use Rattle.core_model.specs.declared.view.Place.TheVariants.{Beside, Link as LinkWord, Turn}
use Rattle.core_model.specs.declared.view.View.{View}
use Rattle.core_model.specs.declared.chain.Chain.{Chain}
use Rattle.core_model.specs.Layout.{Setting, index, anchor_index}
use Rattle.core_model.specs.State.{State, word, chain_of, side_word, turn_word}
use Rattle.core_model.specs.Chains.{no_chain, Fits, Tied, times, link_to, link_at, rest_of, slots_of_link, first_of}
use Rattle.core_model.specs.Tabs.{tab_at, turn_of, anchor_of, count, IsPass}
use Rattle.core_model.specs.Steps.{finding, view_after, longer, after}
use Rattle.core_model.specs.Anchors.{opening_counter}
use Rattle.core_model.specs.Slots.{slot_words, WriterHolds, ReaderHolds, SlotsSound}
use Rattle.core_model.specs.Cells.{turn_at, holds_at, OneHolder, TurnFits, IsHeldCell, IsCell, IsContent, ContentsStand, WriterPiece, TabPiece, IsNamed, NamesStand, CellsSound}
use Rattle.core_model.specs.Sound.{AnchorsSound, WordsSound}
use Rattle.core_model.proofs.Lists.{at_length, at_set, set_here, set_else, sum_at, le_sum_at}
use Rattle.core_model.proofs.Matching.{matches_writer}
use Rattle.core_model.proofs.Spelling.{firsts, link_below, suc_is, one_same, tied_end, at_longer}
use Rattle.core_model.proofs.Telling.{told_in, side_in}
use Rattle.core_model.proofs.BesideKept.{besides}
use Rattle.core_model.proofs.SightsKept.{stored_value}
use Rattle.core_model.proofs.ReservesKept.{of_writer, tab_was, held_slot}
use Rattle.core_model.specs.Table.{Allowed}
use Rattle.core_model.specs.SlotMoves.{MayPublish, IsNext, publishes, shows}
use Rattle.core_model.specs.CellMoves.{piece_of}
use Rattle.core_model.specs.Holders.{MatchesWriter}

-- Lists of slots, one longer.

at_more : (xs : List ℕ) (y p slot : ℕ) → get_elem? (xs ++ y ∷ []) p ≡ some slot → ((p < length xs) × (get_elem? xs p ≡ some slot)) ⊎ ((p ≡ length xs) × (slot ≡ y))
at_more [] y zero slot e = inr (refl, sym (some-injective y slot e))
at_more [] y (suc p) slot e = absurd (some-ne-none slot (sym e))
at_more (x ∷ xs) y zero slot e = inl (omega arith, e)
at_more (x ∷ xs) y (suc p) slot e = ⊎_elim
    (λ (q : (p < length xs) × (get_elem? xs p ≡ some slot)). inl ((let z = q.0 in omega arith), q.1))
    (λ (q : (p ≡ length xs) × (slot ≡ y)). inr (ap suc q.0, q.1))
    (at_more xs y p slot e)

link_last : (xs : List ℕ) (y : ℕ) (end : Link) → link_to (drop (suc (length xs)) (xs ++ y ∷ [])) end ≡ end
link_last [] y end = refl
link_last (x ∷ xs) y end = link_last xs y end

first_stays : (xs ys : List ℕ) → 0 < length xs → first_of (xs ++ ys) ≡ first_of xs
first_stays [] ys h = absurd (omega arith)
first_stays (x ∷ xs) ys h = refl

first_more : (xs : List ℕ) (y : ℕ) (rs : List ℕ) → first_of (xs ++ y ∷ rs) ≡ first_of (xs ++ y ∷ [])
first_more [] y rs = refl
first_more (x ∷ xs) y rs = refl

next_longer : (xs : List ℕ) (end link : Link) (slot p j : ℕ) → end ≡ Next slot → get_elem? (xs ++ slots_of_link end) p ≡ some j → get_elem? ((xs ++ slot ∷ []) ++ slots_of_link link) p ≡ some j
next_longer xs end link slot p j next e = at_longer (xs ++ slot ∷ []) (slots_of_link link) p j (subst (λ (z : Link). get_elem? (xs ++ slots_of_link z) p ≡ some j) next e)

contains_behind : {A : Type 0} → (x : A) (xs ys : List A) → Contains ys x → Contains (xs ++ ys) x
contains_behind x [] ys h = h
contains_behind x (y ∷ xs) ys h = let r = contains_behind x xs ys h in (suc r.0, (let z = r.1 in omega arith), r.2)

-- What the slot at a place of a chain has, of an entry of this offer and this version.
module _ {X : Type 0} (k : Setting X) where
  abbrev ContentOf : ℕ → ℕ → Chain → ℕ → ℕ → X → Type 0
  ContentOf offer version c place slot content = ((offer < k.slots) × (get_elem? k.contents slot ≡ some content))
      ⊎ ((k.slots ≤ offer) × (content ≡ k.image record { offer = offer; version = version; place = place; first = first_of c.slots; next = link_at c place }))

  content_as : (o o' u u' : ℕ) (c c' : Chain) (place slot : ℕ) (content : X) → o' ≡ o → u' ≡ u → c' ≡ c → ContentOf o u c place slot content → ContentOf o' u' c' place slot content
  content_as o o' u u' c c' place slot content p q r h = subst (λ (z : ℕ). ContentOf z u' c' place slot content) (sym p)
      (subst (λ (z : ℕ). ContentOf o z c' place slot content) (sym q) (subst (λ (z : Chain). ContentOf o u z place slot content) (sym r) h))

  -- a place below the new one
  content_below : (o u : ℕ) (xs : List ℕ) (end link : Link) (j place slot : ℕ) (content : X) → place < length xs → end ≡ Next j
      → ContentOf o u (record { slots = xs; end = end; tail = [] }) place slot content → ContentOf o u (record { slots = xs ++ j ∷ []; end = link; tail = [] }) place slot content
  content_below o u xs end link j place slot content lt next h = ⊎_elim
      (λ (q : (o < k.slots) × (get_elem? k.contents slot ≡ some content)). inl q)
      (λ (q : (k.slots ≤ o) × (content ≡ k.image record { offer = o; version = u; place = place; first = first_of xs; next = link_to (drop (place + 1) xs) end })). inr (q.0, q.1 ∙ ap k.image same))
      h
    where
      same_link : link_to (drop (place + 1) xs) end ≡ link_to (drop (place + 1) (xs ++ j ∷ [])) link
      same_link = ap (link_to (drop (place + 1) xs)) next ∙ sym (subst (λ (z : ℕ). link_to (drop z (xs ++ j ∷ [])) link ≡ link_to (drop z xs) (Next j)) (suc_is place) (link_below xs j link place lt))

      same : ◌≡◌ {A = Piece} (record { offer = o; version = u; place = place; first = first_of xs; next = link_to (drop (place + 1) xs) end }) (record { offer = o; version = u; place = place; first = first_of (xs ++ j ∷ []); next = link_to (drop (place + 1) (xs ++ j ∷ [])) link })
      same = ap (λ (z : ℕ). record { offer = o; version = u; place = place; first = z; next = link_to (drop (place + 1) xs) end }) (sym (first_stays xs (j ∷ []) (omega arith)))
          ∙ ap (λ (z : Link). record { offer = o; version = u; place = place; first = first_of (xs ++ j ∷ []); next = z }) same_link

  -- the new one
  content_last : (o u : ℕ) (xs rs : List ℕ) (link : Link) (j place slot : ℕ) (content : X) → place ≡ length xs → k.slots ≤ o
      → content ≡ k.image record { offer = o; version = u; place = length xs; first = first_of (xs ++ j ∷ rs); next = link } → ContentOf o u (record { slots = xs ++ j ∷ []; end = link; tail = [] }) place slot content
  content_last o u xs rs link j place slot content here high is = subst (λ (z : ℕ). ContentOf o u (record { slots = xs ++ j ∷ []; end = link; tail = [] }) z slot content) (sym here) (inr (high, is ∙ ap k.image same))
    where
      same : ◌≡◌ {A = Piece} (record { offer = o; version = u; place = length xs; first = first_of (xs ++ j ∷ rs); next = link }) (record { offer = o; version = u; place = length xs; first = first_of (xs ++ j ∷ []); next = link_to (drop (length xs + 1) (xs ++ j ∷ [])) link })
      same = ap (λ (z : ℕ). record { offer = o; version = u; place = length xs; first = z; next = link }) (first_more xs j rs)
          ∙ ap (λ (z : Link). record { offer = o; version = u; place = length xs; first = first_of (xs ++ j ∷ []); next = z })
          (sym (subst (λ (z : ℕ). link_to (drop z (xs ++ j ∷ [])) link ≡ link) (suc_is (length xs)) (link_last xs j link)))

module _ {X : Type 0} (k : Setting X) (s : State X) (i : ℕ) (v : View X) (so : AnchorsSound k s) (sl : SlotsSound k s) (cells : CellsSound k s) (at : get_elem? s.views i ≡ some v)
    (t slot : ℕ) (link : Link) (x : Writer X) (was : get_elem? v.tabs t ≡ some (Writing x)) (may : MayPublish k s slot link x) (inside : slot < k.slots)
    (v' : View X) (tabs : v'.tabs ≡ set v.tabs t (publishes (Writing x) slot link)) (seen : v'.seen ≡ shows (Writing x) ++ v.seen) where
  abbrev a : ℕ
  a = x.anchor

  abbrev new : Tab X
  new = publishes (Writing x) slot link

  abbrev chains : List Chain
  chains = set s.chains a (longer (chain_of s a) slot link)

  abbrev s' : State X
  s' = besides k s i v' (LinkWord slot) (link_number link) chains

  matched : (a < k.anchors) × MatchesWriter s x
  matched = matches_writer k s so i t x record { view = v; at = at; there = was }

  holds : WriterHolds ((slot_words k s.words).beside a) (chain_of s a) x
  holds = sl.tabs i v at t (Writing x) was

  piece : WriterPiece k s x
  piece = cells.writers i v at t (Writing x) was

  -- What stays.

  word_same : (b : ℕ) → b < k.anchors → word s' b ≡ word s b
  word_same b lt = get_or-set_other s.words (index k (LinkWord slot)) (anchor_index b) (link_number link) 0 (λ e. omega arith)

  version_same : (b : ℕ) → b < k.anchors → version_of (epoch_of (word s' b)) ≡ version_of (epoch_of (word s b))
  version_same b lt = ap (λ (n : ℕ). version_of (epoch_of n)) (word_same b lt)

  side_same : (side : Side) (b : ℕ) → b < k.anchors → side_word k s' side b ≡ side_word k s side b
  side_same side b lt = let q = side_in k s.words side b lt in get_or-set_other s.words (index k (LinkWord slot)) (index k (Beside side b)) (link_number link) 0 (λ e. let z = q.1 in omega arith)

  turn_same : (j : ℕ) → turn_word k s' j ≡ turn_word k s j
  turn_same j = get_or-set_other s.words (index k (LinkWord slot)) (index k (Turn j)) (link_number link) 0 (λ e. omega arith)

  chain_else : (b : ℕ) → b ≢ a → chain_of s' b ≡ chain_of s b
  chain_else b ne = get_or-set_other s.chains a b (longer (chain_of s a) slot link) no_chain ne

  chain_here : chain_of s' a ≡ record { slots = x.published ++ slot ∷ []; end = link; tail = [] }
  chain_here = get_or-set_same s.chains a (longer (chain_of s a) slot link) no_chain (let m = so.shaped.chains in let q = matched.0 in omega arith)
      ∙ ap (λ (z : Chain). longer z slot link) holds.chain

  -- where something was published before, its end names the slot
  ends_next : 0 < length x.published → x.end ≡ Next slot
  ends_next some_slot = tied_end x.end x.published slot (rest_of x.reserved) (subst (λ (z : Chain). Fits z.slots z.end) holds.chain (sl.stand a matched.0).fits) some_slot (subst (Tied x.end x.published) may.first holds.tied)

  -- nobody holds the turn at the slot
  unheld : (j : ℕ) (u : View X) → get_elem? s.views j ≡ some u → (p : ℕ) (tab : Tab X) → get_elem? u.tabs p ≡ some tab → (h : Hold X) → turn_of tab ≡ Has h → h.slot ≡ slot → ⊥
  unheld j u ut p tab is h turn on = let n = cells.holders.turns slot inside in let z = may.turn in let c = le_sum_at (count (holds_at slot)) s.views j u ut in let d = le_sum_at (holds_at slot) u.tabs p tab is in
      let e = ap (turn_at slot) turn in let o = one_there in omega arith
    where
      one_there : turn_at slot (Has h) ≡ 1
      one_there = rw (eq-eqb h.slot slot on) refl

  -- a tab after the step is one before it, or the one that published
  each_after : (P : Tab X → Type 0) → P new → ((j : ℕ) (u : View X) → get_elem? s.views j ≡ some u → (p : ℕ) (tab : Tab X) → get_elem? u.tabs p ≡ some tab → P tab)
      → (j : ℕ) (u : View X) → get_elem? s'.views j ≡ some u → (p : ℕ) (tab : Tab X) → get_elem? u.tabs p ≡ some tab → P tab
  each_after P here there j u ut p tab is = ⊎_elim
      (λ (q : (j ≡ i) × (v' ≡ u)). mine (subst (λ (z : List (Tab X)). get_elem? z p ≡ some tab) tabs (subst (λ (z : View X). get_elem? z.tabs p ≡ some tab) (sym q.1) is)))
      (λ (q : (j ≢ i) × (get_elem? s.views j ≡ some u)). there j u q.1 p tab is)
      (at_set s.views i j v' u ut)
    where
      mine : get_elem? (set v.tabs t new) p ≡ some tab → P tab
      mine e = ⊎_elim (λ (q : (p ≡ t) × (new ≡ tab)). subst P q.1 here) (λ (q : (p ≢ t) × (get_elem? v.tabs p ≡ some tab)). there i v at p tab q.1) (at_set v.tabs t p new tab e)

  held_before : (j : ℕ) (c : Cell X) → IsHeldCell s' j c → IsHeldCell s j c
  held_before j c h = each_after (λ (tab : Tab X). turn_of tab ≡ Has h.hold → IsHeldCell s j c)
      (λ e. record { i = i; view = v; at = at; t = t; tab = Writing x; there = was; hold = h.hold; turn = e; slot_is = h.slot_is; cell_is = h.cell_is })
      (λ m u ut p tab is e. record { i = m; view = u; at = ut; t = p; tab = tab; there = is; hold = h.hold; turn = e; slot_is = h.slot_is; cell_is = h.cell_is })
      h.i h.view h.at h.t h.tab h.there h.turn

  cell_before : (j : ℕ) (c : Cell X) → IsCell s' j c → IsCell s j c
  cell_before j c h = ⊎_elim (λ (e : get_or s.places j None ≡ Some c). inl e) (λ (q : IsHeldCell s' j c). inr (held_before j c q)) h

  -- The turns.

  holders_kept : OneHolder k s'
  holders_kept = record {
    turns = λ j lt. turn_same j ∙ cells.holders.turns j lt ∙ sym (as_many j);
    few = λ j lt. let e = turn_same j in let f = cells.holders.few j lt in omega arith;
    home = λ j lt z. cells.holders.home j lt (sym (turn_same j) ∙ z);
    away = λ j lt z. cells.holders.away j lt (sym (turn_same j) ∙ z);
  }
    where
      as_many_here : (j : ℕ) → count (holds_at j) v' ≡ count (holds_at j) v
      as_many_here j = let e = sum_at (holds_at j) v.tabs t (Writing x) new was in let q = ap (sum_by (holds_at j)) tabs in omega arith

      as_many : (j : ℕ) → sum_by (count (holds_at j)) s'.views ≡ sum_by (count (holds_at j)) s.views
      as_many j = let e = sum_at (count (holds_at j)) s.views i v v' at in let q = as_many_here j in omega arith

  next_later : (r : Reader X) → ReaderHolds (chain_of s r.anchor) r → (j : ℕ) → IsNext s j r → IsNext s' j r
  next_later r h j is = dite (ℕ_discrete r.anchor a)
      (λ e. subst (λ (z : ℕ). get_elem? ((chain_of s' z).slots ++ slots_of_link (chain_of s' z).end) r.place ≡ some j) (sym e) (subst (λ (z : Chain). get_elem? (z.slots ++ slots_of_link z.end) r.place ≡ some j) (sym chain_here)
      (next_longer x.published x.end link slot r.place j (ends_next (let l = ap (λ (b : ℕ). length (chain_of s b).slots) e in let m = ap (λ (c : Chain). length c.slots) holds.chain in let z = h.some_slot in omega arith))
      (subst (λ (z : Chain). get_elem? (z.slots ++ slots_of_link z.end) r.place ≡ some j) holds.chain (subst (λ (z : ℕ). get_elem? ((chain_of s z).slots ++ slots_of_link (chain_of s z).end) r.place ≡ some j) e is)))))
      (λ ne. subst (λ (z : Chain). get_elem? (z.slots ++ slots_of_link z.end) r.place ≡ some j) (sym (chain_else r.anchor ne)) is)

  fits_later : (tab : Tab X) → ((r : Reader X) → tab ≡ Reading r → ReaderHolds (chain_of s r.anchor) r) → TurnFits k s tab → TurnFits k s' tab
  fits_later Free h f = tt
  fits_later (Retreating b) h f = tt
  fits_later (Reading r) h f = λ hold e. let q = f hold e in (q.0, next_later r (h r refl) hold.slot q.1, q.2)
  fits_later (Writing y) h f = f
  fits_later (Last b) h f = tt
  fits_later (Freeing f') h f = f

  fits_here : TurnFits k s' new
  fits_here = λ hold e. absurd (unheld i v at t (Writing x) was hold e (let q = cells.turns i v at t (Writing x) was hold e in firsts (sym q.1 ∙ may.first)))

  turns_kept : (j : ℕ) (u : View X) → get_elem? s'.views j ≡ some u → (p : ℕ) (tab : Tab X) → get_elem? u.tabs p ≡ some tab → TurnFits k s' tab
  turns_kept = each_after (TurnFits k s') fits_here (λ j u ut p tab is. fits_later tab (λ r e. reads j u ut p r (is ∙ ap some e)) (cells.turns j u ut p tab is))
    where
      reads : (j : ℕ) (u : View X) → get_elem? s.views j ≡ some u → (p : ℕ) (r : Reader X) → get_elem? u.tabs p ≡ some (Reading r) → ReaderHolds (chain_of s r.anchor) r
      reads j u ut p r is = sl.tabs j u ut p (Reading r) is

  -- The pieces of writing tabs.

  piece_later : (tab : Tab X) → TabPiece k s tab → TabPiece k s' tab
  piece_later Free h = tt
  piece_later (Retreating b) h = tt
  piece_later (Reading r) h = tt
  piece_later (Writing y) h = record {
    drawn = h.drawn;
    fits = h.fits;
    offer = h.offer;
    logged = h.logged;
    home = λ p goes_on written chosen. let q = h.home p goes_on written chosen in record { slot = q.slot; first = q.first; cell = q.cell; home = q.home; written = q.written; settled = q.settled };
    held = h.held;
    synced = h.synced;
  }
  piece_later (Last b) h = tt
  piece_later (Freeing f) h = tt

  -- the turn of the slot is free, and the tab could hold no other one
  turnless : x.turn ≡ NoTurn
  turnless = of_turn x.turn (λ hold e. absurd (unheld i v at t (Writing x) was hold e (let q = cells.turns i v at t (Writing x) was hold e in firsts (sym q.1 ∙ may.first))))
    where
      of_turn : (z : TurnOf X) → ((hold : Hold X) → z ≡ Has hold → ⊥) → z ≡ NoTurn
      of_turn NoTurn none = refl
      of_turn (Has hold) none = absurd (none hold refl)

  piece_here : TabPiece k s' new
  piece_here = record { drawn = piece.drawn; fits = piece.fits; offer = piece.offer; logged = λ e. (refl, turnless); home = λ p goes_on written chosen. cc; held = λ p h turn written chosen. cc; synced = piece.synced }

  writers_kept : (j : ℕ) (u : View X) → get_elem? s'.views j ≡ some u → (p : ℕ) (tab : Tab X) → get_elem? u.tabs p ≡ some tab → TabPiece k s' tab
  writers_kept = each_after (TabPiece k s') piece_here (λ j u ut p tab is. piece_later tab (cells.writers j u ut p tab is))

  -- The names beside the anchor are those that the tab stored.

  stored : (side : Side) (o : Option ℕ) → o ≢ None → ((m : ℕ) → o ≡ Some m → (slot_words k s.words).beside a side ≡ m) → side_word k s side a ≡ unwrap_or o 0
  stored side o ne h = stored_value o (side_word k s side a) ne (λ m e. sym (told_in k.anchors a (side_word k s side a) matched.0) ∙ h m e)

  names_stored : (x.key0 ≢ None) × (x.key1 ≢ None) × (x.offer ≢ None)
  names_stored = holds.names_are.named (inl (λ e. some_not_none may.piece (sym may.chosen ∙ e)))
    where
      some_not_none : (p : Piece) → Some p ≡ None → ⊥
      some_not_none p q = cc

  offer_is : side_word k s Offer a ≡ unwrap_or x.offer 0
  offer_is = stored Offer x.offer names_stored.2 holds.names_are.offer

  offer_high : k.slots ≤ side_word k s Offer a
  offer_high = by_option x.offer refl
    where
      some_or_not : (o : Option ℕ) → o ≢ None → ((m : ℕ) → o ≡ Some m → k.slots ≤ m) → k.slots ≤ unwrap_or o 0
      some_or_not None ne h = absurd (ne refl)
      some_or_not (Some m) ne h = h m refl

      by_option : (o : Option ℕ) → o ≡ x.offer → k.slots ≤ side_word k s Offer a
      by_option o e = let z = some_or_not x.offer names_stored.2 piece.offer in let q = offer_is in omega arith

  -- The contents.

  home_content : (c : Cell X) → IsCell s slot c → c.now ≡ k.image (piece_of x)
  home_content c h = ⊎_elim
      (λ (e : get_or s.places slot None ≡ Some c). ap Cell.now (same c may.cell (sym e ∙ may.home)) ∙ may.written ∙ ap k.image (holds.chosen may.piece may.goes_on may.chosen))
      (λ (q : IsHeldCell s slot c). absurd (unheld q.i q.view q.at q.t q.tab q.there q.hold q.turn q.slot_is))
      h
    where
      same : (c d : Cell X) → Some c ≡ Some d → c ≡ d
      same c d e = cc

  link_is : link_to (rest_of x.reserved) LastLink ≡ link
  link_is = sym (ap Piece.next (holds.chosen may.piece may.goes_on may.chosen)) ∙ may.link_is

  piece_is : ◌≡◌ {A = Piece} (piece_of x) (record { offer = side_word k s Offer a; version = version_of (epoch_of (word s a)); place = length x.published; first = first_of (x.published ++ slot ∷ rest_of x.reserved); next = link })
  piece_is = ap (λ (z : ℕ). record { offer = z; version = x.version; place = length x.published; first = first_of (x.published ++ x.reserved); next = link_to (rest_of x.reserved) LastLink }) (sym offer_is)
      ∙ ap (λ (z : ℕ). record { offer = side_word k s Offer a; version = z; place = length x.published; first = first_of (x.published ++ x.reserved); next = link_to (rest_of x.reserved) LastLink }) (sym matched.1.version_is)
      ∙ ap (λ (z : List ℕ). record { offer = side_word k s Offer a; version = version_of (epoch_of (word s a)); place = length x.published; first = first_of (x.published ++ z); next = link_to (rest_of x.reserved) LastLink }) may.first
      ∙ ap (λ (z : Link). record { offer = side_word k s Offer a; version = version_of (epoch_of (word s a)); place = length x.published; first = first_of (x.published ++ slot ∷ rest_of x.reserved); next = z }) link_is

  content_here : (place q : ℕ) (c : Cell X) → get_elem? (x.published ++ slot ∷ []) place ≡ some q → IsCell s q c
      → ContentOf k (side_word k s Offer a) (version_of (epoch_of (word s a))) (record { slots = x.published ++ slot ∷ []; end = link; tail = [] }) place q c.now
  content_here place q c is h = ⊎_elim
      (λ (z : (place < length x.published) × (get_elem? x.published place ≡ some q)). content_below k (side_word k s Offer a) (version_of (epoch_of (word s a))) x.published x.end link slot place q c.now z.0 (ends_next (let y = z.0 in omega arith))
      (content_as k (side_word k s Offer a) (side_word k s Offer a) (version_of (epoch_of (word s a))) (version_of (epoch_of (word s a))) (chain_of s a) (record { slots = x.published; end = x.end; tail = [] }) place q c.now refl refl (sym holds.chain)
      (cells.contents.published a place q c matched.0 (subst (λ (d : Chain). get_elem? d.slots place ≡ some q) (sym holds.chain) z.1) h)))
      (λ (z : (place ≡ length x.published) × (q ≡ slot)). content_last k (side_word k s Offer a) (version_of (epoch_of (word s a))) x.published (rest_of x.reserved) link slot place q c.now z.0 offer_high
      (home_content c (subst (λ (m : ℕ). IsCell s m c) z.1 h) ∙ ap k.image piece_is))
      (at_more x.published slot place q is)

  contents_kept : ContentsStand k s'
  contents_kept = record {
    published = λ b place q c lt is h. dite (ℕ_discrete b a)
        (λ e. subst (λ (z : ℕ). IsContent k s' z place q c.now) (sym e)
        (content_as k (side_word k s Offer a) (side_word k s' Offer a) (version_of (epoch_of (word s a))) (version_of (epoch_of (word s' a))) (record { slots = x.published ++ slot ∷ []; end = link; tail = [] }) (chain_of s' a) place q c.now
        (side_same Offer a matched.0) (version_same a matched.0) chain_here
        (content_here place q c (subst (λ (d : Chain). get_elem? d.slots place ≡ some q) chain_here (subst (λ (z : ℕ). get_elem? (chain_of s' z).slots place ≡ some q) e is)) (cell_before q c h))))
        (λ ne. content_as k (side_word k s Offer b) (side_word k s' Offer b) (version_of (epoch_of (word s b))) (version_of (epoch_of (word s' b))) (chain_of s b) (chain_of s' b) place q c.now
        (side_same Offer b lt) (version_same b lt) (chain_else b ne)
        (cells.contents.published b place q c lt (subst (λ (d : Chain). get_elem? d.slots place ≡ some q) (chain_else b ne) is) (cell_before q c h)));
    possible = λ q c h. cells.contents.possible q c (cell_before q c h);
  }

  -- The names that were seen.

  named_later : (b version : ℕ) (side : Side) (value : ℕ) → IsNamed s b version side value → IsNamed s' b version side value
  named_later b version side value h = dite (ℕ_discrete h.i i)
      (λ e. record { i = i; view = v'; at = set_here s.views i v' (at_length s.views i v at); seen = subst (λ (z : List Sight). Contains z (Named b version side value)) (sym seen) (contains_behind (Named b version side value) (shows (Writing x)) v.seen (mine e)) })
      (λ ne. record { i = h.i; view = h.view; at = set_else s.views i h.i v' ne ∙ h.at; seen = h.seen })
    where
      mine : h.i ≡ i → Contains v.seen (Named b version side value)
      mine e = subst (λ (z : View X). Contains z.seen (Named b version side value)) (some-injective h.view v (sym h.at ∙ subst (λ (z : ℕ). get_elem? s.views z ≡ some v) (sym e) at)) h.seen

  shown : (side : Side) (value : ℕ) → Contains (shows (Writing x) ++ v.seen) (Named a x.version side value) → IsNamed s' a x.version side value
  shown side value c = record { i = i; view = v'; at = set_here s.views i v' (at_length s.views i v at); seen = subst (λ (z : List Sight). Contains z (Named a x.version side value)) (sym seen) c }

  named_here : (side : Side) → side ≢ Start → IsNamed s' a x.version side (side_word k s side a)
  named_here Key0 ne = subst (IsNamed s' a x.version Key0) (sym (stored Key0 x.key0 names_stored.0 holds.names_are.key0)) (shown Key0 (unwrap_or x.key0 0) (1, omega arith, refl))
  named_here Key1 ne = subst (IsNamed s' a x.version Key1) (sym (stored Key1 x.key1 names_stored.1 holds.names_are.key1)) (shown Key1 (unwrap_or x.key1 0) (2, omega arith, refl))
  named_here Offer ne = subst (IsNamed s' a x.version Offer) (sym offer_is) (shown Offer (unwrap_or x.offer 0) (3, omega arith, refl))
  named_here Start ne = absurd (ne refl)

  drawn_now : opening_counter k < version_of (epoch_of (word s a))
  drawn_now = let d = piece.drawn in let m = matched.1.version_is in omega arith

  names_kept : NamesStand k s'
  names_kept = record {
    old = λ b side lt ne low some_slot is_old. dite (ℕ_discrete b a)
        (λ e. absurd (let d = drawn_now in let z = version_same b lt in let y = ap (λ (m : ℕ). version_of (epoch_of (word s m))) e in omega arith))
        (λ other. side_same side b lt ∙ cells.names.old b side lt ne (stage_low b lt low) (some_before b other some_slot) (let z = version_same b lt in omega arith));
    new = λ b side lt ne low some_slot is_new. dite (ℕ_discrete b a)
        (λ e. subst (λ (m : ℕ). IsNamed s' m (version_of (epoch_of (word s' m))) side (side_word k s' side m)) (sym e)
        (named_as a (version_of (epoch_of (word s' a))) x.version side (side_word k s' side a) (side_word k s side a) (version_same a matched.0 ∙ matched.1.version_is) (side_same side a matched.0) (named_here side ne)))
        (λ other. named_as b (version_of (epoch_of (word s' b))) (version_of (epoch_of (word s b))) side (side_word k s' side b) (side_word k s side b) (version_same b lt) (side_same side b lt)
        (named_later b (version_of (epoch_of (word s b))) side (side_word k s side b) (cells.names.new b side lt ne (stage_low b lt low) (some_before b other some_slot) (let z = version_same b lt in omega arith))));
    offers = λ b lt some_slot is_new. dite (ℕ_discrete b a)
        (λ e. let z = side_same Offer b lt in let y = ap (λ (m : ℕ). side_word k s Offer m) e in let h = offer_high in omega arith)
        (λ other. let z = side_same Offer b lt in let h = cells.names.offers b lt (some_before b other some_slot) (let y = version_same b lt in omega arith) in omega arith);
  }
    where
      some_before : (b : ℕ) → b ≢ a → 0 < length (chain_of s' b).slots → 0 < length (chain_of s b).slots
      some_before b other h = let q = ap (λ (c : Chain). length c.slots) (chain_else b other) in omega arith

      stage_low : (b : ℕ) → b < k.anchors → stage_of (epoch_of (word s' b)) ≤ 4 → stage_of (epoch_of (word s b)) ≤ 4
      stage_low b lt h = let q = ap (λ (n : ℕ). stage_of (epoch_of n)) (word_same b lt) in omega arith

      named_as : (b u u' : ℕ) (side : Side) (n n' : ℕ) → u ≡ u' → n ≡ n' → IsNamed s' b u' side n' → IsNamed s' b u side n
      named_as b u u' side n n' p q h = subst (λ (z : ℕ). IsNamed s' b z side n) (sym p) (subst (IsNamed s' b u' side) (sym q) h)

  publishes_cells : CellsSound k s'
  publishes_cells = record { holders = holders_kept; turns = turns_kept; contents = contents_kept; writers = writers_kept; names = names_kept }

pub publish_cells : {X : Type 0} → (k : Setting X) (s : State X) (i : ℕ) (v : View X) → WordsSound k s → CellsSound k s → get_elem? s.views i ≡ some v → IsPass v → (t slot : ℕ) (link : Link) → Allowed k s v (Publish t slot link)
    → WordsSound k (after k s i v (Publish t slot link)) → CellsSound k (after k s i v (Publish t slot link))
publish_cells {X} k s i v so cells at pass t slot link may _ = let q = of_writer (MayPublish k s slot link) (tab_at v t) may.1 in let v' : View X = view_after v (Publish t slot link) (finding k s v (Publish t slot link)) in
    let was = tab_was k s i v so.anchors so.slots at pass t (Writing q.0) (let z = may.0 in omega arith) q.1 in
    let inside = held_slot k s i v so.anchors so.slots at pass slot t (Writing q.0) was (let c = ap (times slot) q.2.first in let o = one_same slot in omega arith) in
    subst (λ (z : Tab X). CellsSound k (besides k s i v' (LinkWord slot) (link_number link) (set s.chains (anchor_of z) (longer (chain_of s (anchor_of z)) slot link)))) (sym q.1)
    (publishes_cells k s i v so.anchors so.slots cells at t slot link q.0 was q.2 inside v' (ap (λ (z : Tab X). set v.tabs t (publishes z slot link)) q.1) (ap (λ (z : Tab X). shows z ++ v.seen) q.1))
