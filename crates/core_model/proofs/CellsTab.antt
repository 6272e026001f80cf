-- A step changes one tab of a pass, and with it the turn and the cell of one slot: what it owes to the parts on cells, and what
-- these tell of a slot that a tab reads or writes.
use Rattle.std.proofs.Common.{◌≡◌, ◌≢◌, ◌⊎◌, inl, inr, ⊎_elim, ℕ, zero, suc, ◌+◌, ◌*◌, ◌<◌, ◌≤◌, List, [], ◌∷◌, ◌++◌, length, get_or, set, sym, refl, ap, ◌∙◌, subst, arith, sum_by, Some, None, Option, false, cond, eq-eqb, ne_eqb, get_or-set_other, Contains}
use mathlib.Core.Option.{some, some-injective}
use mathlib.Core.Logic.{dite}
use native.Mathlib.Decide.{ℕ_discrete}
use lib.ListN.{get_elem?}
use Rattle.lock_word.specs.Words.{epoch_of, version_of, stage_of}
use Rattle.link_word.specs.declared.link.Link.TheVariants.{NotWritten}
use Rattle.core_model.proofs.CellsFrame.{Sees}
use Rattle.core_model.specs.declared.tab.Freer.{Freer}
use Rattle.core_model.specs.declared.moves.Side.{Side}
use Rattle.core_model.specs.declared.moves.Side.TheVariants.{Offer}
use Rattle.core_model.specs.declared.tab.Cell.{Cell}
use Rattle.core_model.specs.declared.tab.Piece.{Piece}
use Rattle.core_model.specs.declared.tab.Hold.{Hold}
use Rattle.core_model.specs.declared.tab.Turn.{Turn as TurnOf}
use Rattle.core_model.specs.declared.tab.Turn.TheVariants.{NoTurn, Has}
use Rattle.core_model.specs.declared.tab.Reader.{Reader}
use Rattle.core_model.specs.declared.tab.Writer.{Writer}
use Rattle.core_model.specs.declared.tab.Tab.{Tab}
use Rattle.core_model.specs.declared.tab.Tab.TheVariants.{Free, Retreating, Reading, Writing, Last, Freeing}
use Rattle.core_model.specs.declared.view.Place.TheVariants.{Beside, Turn}
use Rattle.core_model.specs.declared.view.Sight.TheVariants.{Named}
use Rattle.core_model.specs.declared.view.View.{View}
use Rattle.core_model.specs.declared.chain.Chain.{Chain}
use Rattle.core_model.specs.Layout.{Setting, index, anchor_index}
use Rattle.core_model.specs.State.{State, word, chain_of, side_word}
use Rattle.core_model.specs.Chains.{times, rest_of, link_at, first_of}
use Rattle.core_model.specs.Tabs.{has_turn, turn_of, count}
use Rattle.core_model.specs.Anchors.{opening_counter}
use Rattle.core_model.specs.Slots.{slot_words, held_in, published_in, standing_in, ReaderHolds}
use Rattle.core_model.specs.Cells.{turn_at, holds_at, OneHolder, TurnFits, IsHeldCell, IsCell, IsContent, ContentsStand, IsHome, TabPiece, IsNamed, NamesStand, CellsSound}
use Rattle.core_model.specs.Sound.{Sound}
use Rattle.core_model.proofs.Places.{beside_inside}
use Rattle.core_model.proofs.Lists.{by_eq, at_set, sum_at, le_sum_at, two_le_sum, set_else, set_here, at_length, sum_mono}
use Rattle.core_model.proofs.Spelling.{one_same}
use Rattle.core_model.proofs.SlotFrame.{published_few, once, in_no_other}
use Rattle.core_model.proofs.SlotKinds.{OneTab, recounted, each_tab}
use Rattle.core_model.proofs.FollowsKept.{at_times}
use Rattle.core_model.specs.SlotMoves.{IsNext, IsFront}

-- What holds of the turn of one slot: its word, how many hold it, and the cell at home.
pub record OneTurn {C : Type 0} (word holders : ℕ) (place : Option C) : Type 0 where
  pub turns : word ≡ holders
  pub few : word ≤ 1
  pub home : word ≡ 0 → (c : C) × (place ≡ Some c)
  pub away : word ≡ 1 → place ≡ None

-- one that is taken by one tab, and one that is free
pub taken_turn : {C : Type 0} (word holders : ℕ) (place : Option C) → word ≡ 1 → holders ≡ 1 → place ≡ None → OneTurn word holders place
taken_turn word holders place w h p = record { turns = omega arith; few = omega arith; home = λ e. absurd (omega arith); away = λ e. p }

pub free_turn : {C : Type 0} (word holders : ℕ) (place : Option C) (c : C) → word ≡ 0 → holders ≡ 0 → place ≡ Some c → OneTurn word holders place
free_turn word holders place c w h p = record { turns = omega arith; few = omega arith; home = λ e. (c, p); away = λ e. absurd (omega arith) }

-- a place in the first of two lists
pub at_first : (xs ys : List ℕ) (p slot : ℕ) → get_elem? (xs ++ ys) p ≡ some slot → p < length xs → get_elem? xs p ≡ some slot
at_first [] ys p slot e lt = absurd (omega arith)
at_first (x ∷ xs) ys zero slot e lt = e
at_first (x ∷ xs) ys (suc p) slot e lt = at_first xs ys p slot e (omega arith)

-- the first slot of a list is in it
pub first_times : (slot : ℕ) (xs : List ℕ) → xs ≡ slot ∷ rest_of xs → 0 < times slot xs
first_times slot xs first = let c : times slot xs ≡ times slot (slot ∷ rest_of xs) = ap (times slot) first in let o = one_same slot in omega arith

module _ {X : Type 0} where
  abbrev slot_in : TurnOf X → ℕ
  slot_in NoTurn = 0
  slot_in (Has h) = h.slot

  pub same_slot : (g h : Hold X) → Has g ≡ Has h → g.slot ≡ h.slot
  same_slot g h e = ap slot_in e

  pub same_hold : (g h : Hold X) → Has g ≡ Has h → g ≡ h
  same_hold g h e = cc

  pub no_hold : (h : Hold X) → NoTurn ≡ Has h → ⊥
  no_hold h e = cc

  pub turn_none : (u : TurnOf X) → has_turn u ≡ false → u ≡ NoTurn
  turn_none NoTurn e = refl
  turn_none (Has h) e = absurd (cc)

  pub turn_here : (j : ℕ) (u : TurnOf X) (h : Hold X) → u ≡ Has h → h.slot ≡ j → turn_at j u ≡ 1
  turn_here j u h e is = ap (turn_at j) e ∙ rw (eq-eqb h.slot j is) refl

  pub turn_else : (j : ℕ) (u : TurnOf X) (h : Hold X) → u ≡ Has h → h.slot ≢ j → turn_at j u ≡ 0
  turn_else j u h e ne = ap (turn_at j) e ∙ rw (ne_eqb h.slot j ne) refl

  pub turn_nowhere : (j : ℕ) (u : TurnOf X) → u ≡ NoTurn → turn_at j u ≡ 0
  turn_nowhere j u e = ap (turn_at j) e

  -- a turn that counts at a slot is one there
  pub turn_is : (j : ℕ) (u : TurnOf X) → 0 < turn_at j u → (h : Hold X) × (u ≡ Has h) × (h.slot ≡ j)
  turn_is j NoTurn lt = absurd (omega arith)
  turn_is j (Has h) lt = by_eq (λ z. 0 < cond z 1 0 → (g : Hold X) × (Has h ≡ Has g) × (g.slot ≡ j)) h.slot j (λ e _. (h, refl, e)) (λ _ lt. absurd (omega arith)) lt

  -- A tab that holds a turn reads, writes or frees.
  pub turn_tab : (x : Tab X) (h : Hold X) → turn_of x ≡ Has h
      → ((r : Reader X) × (x ≡ Reading r) × (r.turn ≡ Has h)) ⊎ ((w : Writer X) × (x ≡ Writing w) × (w.turn ≡ Has h)) ⊎ ((f : Freer X) × (x ≡ Freeing f) × (f.turn ≡ Has h))
  turn_tab Free h e = absurd (no_hold h e)
  turn_tab (Retreating a) h e = absurd (no_hold h e)
  turn_tab (Reading r) h e = inl (r, refl, e)
  turn_tab (Writing w) h e = inr (inl (w, refl, e))
  turn_tab (Last a) h e = absurd (no_hold h e)
  turn_tab (Freeing f) h e = inr (inr (f, refl, e))

  -- a tab has a slot that it first reserved, or that is first in its rest
  pub reserves_first : (w : Writer X) (slot : ℕ) → w.reserved ≡ slot ∷ rest_of w.reserved → 0 < held_in slot (Writing w)
  reserves_first w slot first = let z = first_times slot w.reserved first in omega arith

  pub rests_first : (f : Freer X) (slot : ℕ) → IsFront slot f → 0 < held_in slot (Freeing f)
  rests_first f slot front = let z = first_times slot f.rest front in omega arith

module _ {X : Type 0} (vs : List (View X)) (i : ℕ) (v v' : View X) (at : get_elem? vs i ≡ some v) (t : ℕ) (old new : Tab X) (one : OneTab v v' t old new) where
  -- each tab is the new one, or was there before
  pub each_one : (j : ℕ) (u : View X) → get_elem? (set vs i v') j ≡ some u → (m : ℕ) (tab : Tab X) → get_elem? u.tabs m ≡ some tab
      → ((j ≡ i) × (m ≡ t) × (new ≡ tab)) ⊎ ((y : View X) × (get_elem? vs j ≡ some y) × (get_elem? y.tabs m ≡ some tab) × (j ≡ i → m ≢ t))
  each_one j u e m tab e' = ⊎_elim
      (λ (q : (j ≡ i) × (v' ≡ u)). ⊎_elim
      (λ (z : (m ≡ t) × (new ≡ tab)). inl (q.0, z.0, z.1))
      (λ (z : (m ≢ t) × (get_elem? v.tabs m ≡ some tab)). inr (v, subst (λ (p : ℕ). get_elem? vs p ≡ some v) (sym q.0) at, z.1, (λ _. z.0)))
      (each_tab v v' t old new one m tab (subst (λ (y : View X). get_elem? y.tabs m ≡ some tab) (sym q.1) e')))
      (λ (q : (j ≢ i) × (get_elem? vs j ≡ some u)). inr (u, q.1, e', (λ z. absurd (q.0 z))))
      (at_set vs i j v' u e)

  -- how many hold the turn of a slot
  pub holders_after : (j : ℕ) → sum_by (count (holds_at j)) (set vs i v') + holds_at j old ≡ sum_by (count (holds_at j)) vs + holds_at j new
  holders_after j = let a = recounted v v' t old new one (holds_at j) in let b = sum_at (count (holds_at j)) vs i v v' at in omega arith

module _ {X : Type 0} (k : Setting X) where
  abbrev pub Turned : List ℕ → List (Option (Cell X)) → List (View X) → ℕ → Type 0
  Turned ws ps vs j = OneTurn (get_or ws (index k (Turn j)) 0) (sum_by (count (holds_at j)) vs) (get_or ps j None)

module _ {X : Type 0} (k : Setting X) (s : State X) where
  pub of_holders : OneHolder k s → (j : ℕ) → j < k.slots → Turned k s.words s.places s.views j
  of_holders h j lt = record { turns = h.turns j lt; few = h.few j lt; home = h.home j lt; away = h.away j lt }

  pub to_holders : ((j : ℕ) → j < k.slots → Turned k s.words s.places s.views j) → OneHolder k s
  to_holders h = record { turns = λ j lt. (h j lt).turns; few = λ j lt. (h j lt).few; home = λ j lt. (h j lt).home; away = λ j lt. (h j lt).away }

module _ {X : Type 0} (k : Setting X) (s : State X) where
  -- a slot that no chain has
  abbrev pub IsUnpublished : ℕ → Type 0
  IsUnpublished slot = (a : ℕ) → times slot (chain_of s a).slots ≡ 0

  module _ (i : ℕ) where
    -- the state after a step of this pass that left these words, cells at home and view, and the chains as they were
    abbrev pub turned : List ℕ → List (Option (Cell X)) → View X → State X
    turned ws ps v' = record { words = ws; places = ps; views = set s.views i v'; chains = s.chains }

    -- a slot that no writing tab reserves but this one
    abbrev pub IsApart : ℕ → ℕ → Type 0
    IsApart t slot = (j : ℕ) (u : View X) → get_elem? s.views j ≡ some u → (p : ℕ) (w : Writer X) → get_elem? u.tabs p ≡ some (Writing w) → (j ≡ i → p ≢ t) → times slot w.reserved ≡ 0

    pub record OwesCells (v : View X) (ws : List ℕ) (ps : List (Option (Cell X))) (v' : View X) (t : ℕ) (old new : Tab X) : Type 0 where
      pub one : OneTab v v' t old new
      pub seen : Sees v v'
      pub low : (p : ℕ) → p < 5 * k.anchors → get_or ws p 0 ≡ get_or s.words p 0
      pub holders : OneHolder k (turned ws ps v')
      pub fits : TurnFits k s new
      pub cells : (slot : ℕ) (c : Cell X) → IsCell (turned ws ps v') slot c → IsCell s slot c ⊎ (IsUnpublished slot × Contains c.possible c.now)
      pub piece : TabPiece k (turned ws ps v') new
      pub homes : (j : ℕ) (u : View X) → get_elem? s.views j ≡ some u → (p : ℕ) (w : Writer X) → get_elem? u.tabs p ≡ some (Writing w) → (j ≡ i → p ≢ t) → (q : Piece) → IsHome k s w q → IsHome k (turned ws ps v') w q

    module _ (v : View X) (so : Sound k s) (at : get_elem? s.views i ≡ some v) where
      -- What becomes of cells.

      module _ (ws : List ℕ) (ps : List (Option (Cell X))) (v' : View X) (t : ℕ) (old new : Tab X) (one : OneTab v v' t old new) where
        pub cell_after : (slot : ℕ) (c : Cell X) → IsCell (turned ws ps v') slot c
            → (get_or ps slot None ≡ Some c) ⊎ (((h : Hold X) × (turn_of new ≡ Has h) × (h.slot ≡ slot) × (h.cell ≡ c)) ⊎ IsHeldCell s slot c)
        cell_after slot c (inl e) = inl e
        cell_after slot c (inr h) = inr (⊎_elim
            (λ (q : (h.i ≡ i) × (h.t ≡ t) × (new ≡ h.tab)). inl (h.hold, ap turn_of q.2 ∙ h.turn, h.slot_is, h.cell_is))
            (λ (q : (y : View X) × (get_elem? s.views h.i ≡ some y) × (get_elem? y.tabs h.t ≡ some h.tab) × (h.i ≡ i → h.t ≢ t)). inr record {
              i = h.i;
              view = q.0;
              at = q.1;
              t = h.t;
              tab = h.tab;
              there = q.2;
              hold = h.hold;
              turn = h.turn;
              slot_is = h.slot_is;
              cell_is = h.cell_is;
            })
            (each_one s.views i v v' at t old new one h.i h.view h.at h.t h.tab h.there))

        -- no turn changes hands
        pub same_holders : ((j : ℕ) → holds_at j new ≡ holds_at j old) → OneHolder k (turned s.words s.places v')
        same_holders same = to_holders k (turned s.words s.places v') (λ j lt. let h = of_holders k s so.cells.holders j lt in record {
          turns = let a = holders_after s.views i v v' at t old new one j in let b = same j in let c = h.turns in omega arith;
          few = h.few;
          home = h.home;
          away = h.away;
        })

      -- What a step owes is enough.

      module _ (ws : List ℕ) (ps : List (Option (Cell X))) (v' : View X) (t : ℕ) (old new : Tab X) (o : OwesCells v ws ps v' t old new) where
        abbrev s' : State X
        s' = turned ws ps v'

        word_same : (a : ℕ) → a < k.anchors → word s' a ≡ word s a
        word_same a lt = o.low (anchor_index a) (omega arith)

        side_same : (side : Side) (a : ℕ) → a < k.anchors → side_word k s' side a ≡ side_word k s side a
        side_same side a lt = o.low (index k (Beside side a)) (beside_inside k side a lt)

        turns_fit : (j : ℕ) (u : View X) → get_elem? s'.views j ≡ some u → (m : ℕ) (tab : Tab X) → get_elem? u.tabs m ≡ some tab → TurnFits k s tab
        turns_fit j u e m tab e' = ⊎_elim
            (λ (q : (j ≡ i) × (m ≡ t) × (new ≡ tab)). subst (TurnFits k s) q.2 o.fits)
            (λ (q : (y : View X) × (get_elem? s.views j ≡ some y) × (get_elem? y.tabs m ≡ some tab) × (j ≡ i → m ≢ t)). so.cells.turns j q.0 q.1 m tab q.2)
            (each_one s.views i v v' at t old new o.one j u e m tab e')

        -- the same turn fits: no chain changes
        fits_after : (tab : Tab X) → TurnFits k s tab → TurnFits k s' tab
        fits_after Free h = tt
        fits_after (Retreating a) h = tt
        fits_after (Reading r) h = h
        fits_after (Writing w) h = h
        fits_after (Last a) h = tt
        fits_after (Freeing f) h = h

        piece_after : (j : ℕ) (u : View X) → get_elem? s.views j ≡ some u → (p : ℕ) (tab : Tab X) → get_elem? u.tabs p ≡ some tab → (j ≡ i → p ≢ t) → TabPiece k s tab → TabPiece k s' tab
        piece_after j u ut p Free is ne h = tt
        piece_after j u ut p (Retreating a) is ne h = tt
        piece_after j u ut p (Reading r) is ne h = tt
        piece_after j u ut p (Writing w) is ne h = record {
          drawn = h.drawn;
          fits = h.fits;
          offer = h.offer;
          logged = h.logged;
          home = λ q going written chosen. o.homes j u ut p w is ne q (h.home q going written chosen);
          held = h.held;
          synced = h.synced;
        }
        piece_after j u ut p (Last a) is ne h = tt
        piece_after j u ut p (Freeing f) is ne h = tt

        pieces : (j : ℕ) (u : View X) → get_elem? s'.views j ≡ some u → (m : ℕ) (tab : Tab X) → get_elem? u.tabs m ≡ some tab → TabPiece k s' tab
        pieces j u e m tab e' = ⊎_elim
            (λ (q : (j ≡ i) × (m ≡ t) × (new ≡ tab)). subst (TabPiece k s') q.2 o.piece)
            (λ (q : (y : View X) × (get_elem? s.views j ≡ some y) × (get_elem? y.tabs m ≡ some tab) × (j ≡ i → m ≢ t)). piece_after j q.0 q.1 m tab q.2 q.3 (so.cells.writers j q.0 q.1 m tab q.2))
            (each_one s.views i v v' at t old new o.one j u e m tab e')

        -- the content that a place of a chain has, from the words
        abbrev Content : ℕ → ℕ → Chain → ℕ → ℕ → X → Type 0
        Content offer n c place slot x = ((offer < k.slots) × (get_elem? k.contents slot ≡ some x))
            ⊎ ((k.slots ≤ offer) × (x ≡ k.image record { offer = offer; version = version_of (epoch_of n); place = place; first = first_of c.slots; next = link_at c place }))

        content_after : (a place slot : ℕ) (x : X) → a < k.anchors → IsContent k s a place slot x → IsContent k s' a place slot x
        content_after a place slot x lt h = subst (λ (n : ℕ). Content (side_word k s' Offer a) n (chain_of s a) place slot x) (sym (word_same a lt))
            (subst (λ (n : ℕ). Content n (word s a) (chain_of s a) place slot x) (sym (side_same Offer a lt)) h)

        contents : ContentsStand k s'
        contents = record {
          published = λ a place slot c lt e is. ⊎_elim
              (λ (q : IsCell s slot c). content_after a place slot c.now lt (so.cells.contents.published a place slot c lt e q))
              (λ (q : IsUnpublished slot × Contains c.possible c.now). absurd (let z = q.0 a in let y = at_times (chain_of s a).slots place slot e in omega arith))
              (o.cells slot c is);
          possible = λ slot c is. ⊎_elim (λ (q : IsCell s slot c). so.cells.contents.possible slot c q) (λ (q : IsUnpublished slot × Contains c.possible c.now). q.1) (o.cells slot c is);
        }

        -- who named the entry did so before
        named_after : (a version : ℕ) (side : Side) (value : ℕ) → IsNamed s a version side value → IsNamed s' a version side value
        named_after a version side value h = dite (ℕ_discrete h.i i)
            (λ e. record {
              i = i;
              view = v';
              at = set_here s.views i v' (at_length s.views i v at);
              seen = o.seen (Named a version side value) (subst (λ (y : View X). Contains y.seen (Named a version side value)) (some-injective h.view v (sym h.at ∙ ap (get_elem? s.views) e ∙ at)) h.seen);
            })
            (λ ne. record { i = h.i; view = h.view; at = set_else s.views i h.i v' ne ∙ h.at; seen = h.seen })

        names : NamesStand k s'
        names = record {
          old = λ a side lt not stage some_slot version. side_same side a lt ∙ so.cells.names.old a side lt not
              (subst (λ (n : ℕ). stage_of (epoch_of n) ≤ 4) (word_same a lt) stage) some_slot (subst (λ (n : ℕ). version_of (epoch_of n) ≤ opening_counter k) (word_same a lt) version);
          new = λ a side lt not stage some_slot version. subst (λ (n : ℕ). IsNamed s' a (version_of (epoch_of n)) side (side_word k s' side a)) (sym (word_same a lt))
              (subst (λ (n : ℕ). IsNamed s' a (version_of (epoch_of (word s a))) side n) (sym (side_same side a lt))
              (named_after a (version_of (epoch_of (word s a))) side (side_word k s side a)
              (so.cells.names.new a side lt not (subst (λ (n : ℕ). stage_of (epoch_of n) ≤ 4) (word_same a lt) stage) some_slot (subst (λ (n : ℕ). opening_counter k < version_of (epoch_of n)) (word_same a lt) version))));
          offers = λ a lt some_slot version. subst (λ (n : ℕ). k.slots ≤ n) (sym (side_same Offer a lt))
              (so.cells.names.offers a lt some_slot (subst (λ (n : ℕ). opening_counter k < version_of (epoch_of n)) (word_same a lt) version));
        }

        pub cells_kept : CellsSound k s'
        cells_kept = record {
          holders = o.holders;
          turns = λ j u e m tab e'. fits_after tab (turns_fit j u e m tab e');
          contents = contents;
          writers = pieces;
          names = names;
        }

      -- What a sound state tells of a slot that a tab reads or writes.

      -- one that a reading tab is at, whose link it found written, is published there
      pub read_slot : (j : ℕ) (u : View X) → get_elem? s.views j ≡ some u → (p : ℕ) (r : Reader X) → get_elem? u.tabs p ≡ some (Reading r) → (slot : ℕ) → IsNext s slot r → r.found ≢ NotWritten
          → get_elem? (chain_of s r.anchor).slots r.place ≡ some slot
      read_slot j u ut p r is slot next found = let h : ReaderHolds (chain_of s r.anchor) r = so.slots.tabs j u ut p (Reading r) is in at_first (chain_of s r.anchor).slots _ r.place slot next (h.found found).0

      -- one that is in a chain is reserved by nobody
      pub read_apart : (a slot : ℕ) → 0 < times slot (chain_of s a).slots → (j : ℕ) (u : View X) → get_elem? s.views j ≡ some u → (p : ℕ) (w : Writer X) → get_elem? u.tabs p ≡ some (Writing w) → times slot w.reserved ≡ 0
      read_apart a slot lt j u ut p w is = dite (ℕ_discrete (times slot w.reserved) 0) (λ e. e)
          (λ ne. absurd (let l = le_sum_at (held_in slot) u.tabs p (Writing w) is in let o = once k.anchors (slot_words k s.words) s.chains s.views so.slots j u ut slot (omega arith) in
          let z = o.1 in let f = published_few slot s.chains a in let m = sum_mono (published_in slot) (standing_in slot) (λ y. omega arith) s.chains in omega arith))

      module _ (t : ℕ) (x : Tab X) (was : get_elem? v.tabs t ≡ some x) (slot : ℕ) (has : 0 < held_in slot x) where
        holds_it : 0 < count (held_in slot) v
        holds_it = let l = le_sum_at (held_in slot) v.tabs t x was in omega arith

        -- one that a tab has is in no chain
        pub held_unpublished : IsUnpublished slot
        held_unpublished a = let o = once k.anchors (slot_words k s.words) s.chains s.views so.slots i v at slot holds_it in
            let z = o.1 in let f = published_few slot s.chains a in let m = sum_mono (published_in slot) (standing_in slot) (λ y. omega arith) s.chains in omega arith

        -- and no other tab has it
        pub held_apart : (j : ℕ) (u : View X) → get_elem? s.views j ≡ some u → (p : ℕ) (y : Tab X) → get_elem? u.tabs p ≡ some y → (j ≡ i → p ≢ t) → held_in slot y ≡ 0
        held_apart j u ut p y is ne = dite (ℕ_discrete (held_in slot y) 0) (λ e. e) (λ many. absurd (dite (ℕ_discrete j i)
            (λ e. let same : u ≡ v = some-injective u v (sym ut ∙ ap (get_elem? s.views) e ∙ at) in
            let l = two_le_sum (held_in slot) v.tabs t p x y was (subst (λ (z : View X). get_elem? z.tabs p ≡ some y) same is) (ne e) in
            let o = once k.anchors (slot_words k s.words) s.chains s.views so.slots i v at slot holds_it in let z = o.0 in omega arith)
            (λ other. let z = in_no_other k.anchors (slot_words k s.words) s.chains s.views so.slots i v at slot j u holds_it other ut in let l = le_sum_at (held_in slot) u.tabs p y is in omega arith)))

        -- nor does one that writes reserve it
        pub held_alone : IsApart t slot
        held_alone j u ut p w is ne = let z = held_apart j u ut p (Writing w) is ne in omega arith

      module _ (t : ℕ) (w : Writer X) (was : get_elem? v.tabs t ≡ some (Writing w)) (slot : ℕ) (reserved : 0 < times slot w.reserved) where
        -- one that a writing tab reserves is in no chain
        pub written_unpublished : IsUnpublished slot
        written_unpublished = held_unpublished t (Writing w) was slot (omega arith)

        -- and no other one reserves it
        pub written_apart : IsApart t slot
        written_apart = held_alone t (Writing w) was slot (omega arith)

      -- Cells at home of other writing tabs.

      -- another slot's cell is set
      pub homes_else : (ws : List ℕ) (x : Option (Cell X)) (v' : View X) (t slot : ℕ) → IsApart t slot → (j : ℕ) (u : View X) → get_elem? s.views j ≡ some u → (p : ℕ) (w : Writer X) → get_elem? u.tabs p ≡ some (Writing w)
          → (j ≡ i → p ≢ t) → (q : Piece) → IsHome k s w q → IsHome k (turned ws (set s.places slot x) v') w q
      homes_else ws x v' t slot apart j u ut p w is ne q h = record {
        slot = h.slot;
        first = h.first;
        cell = h.cell;
        home = get_or-set_other s.places slot h.slot x None (λ e. let z = apart j u ut p w is ne in let c : times slot w.reserved ≡ times slot (h.slot ∷ rest_of w.reserved) = ap (times slot) h.first in
            let d = ap (λ (m : ℕ). times slot (m ∷ rest_of w.reserved)) e in let y = one_same slot in omega arith) ∙ h.home;
        written = h.written;
        settled = h.settled;
      }

      -- none is
      pub homes_stay : (ws : List ℕ) (v' : View X) (w : Writer X) (q : Piece) → IsHome k s w q → IsHome k (turned ws s.places v') w q
      homes_stay ws v' w q h = record { slot = h.slot; first = h.first; cell = h.cell; home = h.home; written = h.written; settled = h.settled }
