-- A step that leaves the cells and the turn words alone: what it owes to the part on cells, turns, contents and names.
use Rattle.std.proofs.Common.{◌≡◌, ◌≢◌, ◌⊎◌, inl, inr, ⊎_elim, ℕ, suc, ◌+◌, ◌-◌, ◌*◌, ◌<◌, ◌≤◌, List, [], ◌∷◌, ◌++◌, drop, length, get_or, set, sym, refl, ap, ◌∙◌, subst, arith, sum_by, Some, None, Contains, get_or-set_same, get_or-set_other}
use mathlib.Core.Option.{some, some-injective}
use mathlib.Core.Logic.{dite}
use native.Mathlib.Decide.{ℕ_discrete}
use lib.ListN.{get_elem?}
use Rattle.lock_word.specs.Words.{readers_of, epoch_of, version_of, stage_of, version_limit}
use Rattle.link_word.specs.declared.link.Link.{Link}
use Rattle.core_model.specs.declared.tab.Freer.{Freer}
use Rattle.core_model.specs.CellMoves.{MayWipe}
use Rattle.core_model.specs.declared.moves.Side.{Side}
use Rattle.core_model.specs.declared.moves.Side.TheVariants.{Offer, Start}
use Rattle.core_model.specs.declared.tab.Cell.{Cell}
use Rattle.core_model.specs.declared.tab.Piece.{Piece}
use Rattle.core_model.specs.declared.tab.Hold.{Hold}
use Rattle.core_model.specs.declared.tab.Turn.{Turn as TurnOf}
use Rattle.core_model.specs.declared.tab.Turn.TheVariants.{NoTurn, Has}
use Rattle.core_model.specs.declared.tab.Reader.{Reader}
use Rattle.core_model.specs.declared.tab.Writer.{Writer}
use Rattle.core_model.specs.declared.tab.Tab.{Tab}
use Rattle.core_model.specs.declared.tab.Tab.TheVariants.{Free, Retreating, Reading, Writing, Last, Freeing}
use Rattle.core_model.specs.declared.view.Sight.{Sight}
use Rattle.core_model.specs.declared.view.Sight.TheVariants.{Named}
use Rattle.core_model.specs.declared.view.Place.TheVariants.{Beside, Turn}
use Rattle.core_model.specs.declared.view.View.{View}
use Rattle.core_model.specs.declared.chain.Chain.{Chain}
use Rattle.core_model.specs.Layout.{Setting, index, word_count, anchor_index}
use Rattle.core_model.specs.Chains.{no_chain, link_to, link_at, rest_of, slots_of_link, first_of}
use Rattle.core_model.specs.State.{State, word, chain_of, side_word, turn_word}
use Rattle.core_model.specs.Tabs.{turn_of, count}
use Rattle.core_model.specs.Anchors.{opening_counter}
use Rattle.core_model.specs.Slots.{SlotsSound}
use Rattle.core_model.specs.Cells.{turn_at, holds_at, OneHolder, TurnFits, IsCell, IsContent, ContentsStand, IsHome, WriterPiece, TabPiece, IsNamed, NamesStand, CellsSound}
use Rattle.core_model.specs.Entries.{NamesStay, EntryStays, EntryGone}
use Rattle.core_model.specs.Sound.{AnchorsSound}
use Rattle.core_model.proofs.Lists.{at_set, at_length, sum_at, set_here, set_else}
use Rattle.core_model.proofs.SlotTabs.{SameSlots}
use Rattle.core_model.proofs.SlotKinds.{NoSlots}
use Rattle.core_model.proofs.SlotAnchors.{reader_stage}
use Rattle.core_model.proofs.Telling.{stage_told, side_in, sides_apart, sides_differ}
use Rattle.core_model.specs.SlotMoves.{IsNext}
use Rattle.core_model.specs.Holders.{IsTab}

-- Chains with the same slots and end.

pub whole_same : (c d : Chain) → SameSlots c d → d.slots ++ slots_of_link d.end ≡ c.slots ++ slots_of_link c.end
whole_same c d same = ap (λ (z : List ℕ). z ++ slots_of_link d.end) same.slots ∙ ap (λ z. c.slots ++ slots_of_link z) same.end

link_same : (c d : Chain) (place : ℕ) → d.slots ≡ c.slots → d.end ≡ c.end → link_at d place ≡ link_at c place
link_same c d place p q = ap (λ (z : List ℕ). link_to (drop (place + 1) z) d.end) p ∙ ap (link_to (drop (place + 1) c.slots)) q

abbrev piece_with : ℕ → ℕ → ℕ → ℕ → Link → Piece
piece_with offer version place first next = record { offer = offer; version = version; place = place; first = first; next = next }

piece_same : (offer offer' version version' place first first' : ℕ) (next next' : Link) → offer ≡ offer' → version ≡ version' → first ≡ first' → next ≡ next'
    → piece_with offer version place first next ≡ piece_with offer' version' place first' next'
piece_same offer offer' version version' place first first' next next' p q r l = λ t. record { offer = p t; version = q t; place = place; first = r t; next = l t }

pub contains_later : {A : Type 0} (xs ys : List A) (y : A) → Contains ys y → Contains (xs ++ ys) y
contains_later [] ys y h = h
contains_later (x ∷ xs) ys y h = let r = contains_later xs ys y h in (suc r.0, (let z = r.1 in omega arith), r.2)

module _ {X : Type 0} where
  -- the state after a step that leaves the cells where they are
  abbrev pub later : State X → ℕ → View X → List ℕ → List Chain → State X
  later s i v' ws cs = record { words = ws; places = s.places; views = set s.views i v'; chains = cs }

  -- a view has seen what it had seen before
  abbrev pub Sees : View X → View X → Type 0
  Sees v v' = (x : Sight) → Contains v.seen x → Contains v'.seen x

  -- the chains have the slots and the ends that they had
  abbrev pub SameChains : Setting X → State X → List Chain → Type 0
  SameChains k s cs = (a : ℕ) → a < k.anchors → SameSlots (chain_of s a) (get_or cs a no_chain)

  pub same_chains : (k : Setting X) (s : State X) → SameChains k s s.chains
  same_chains k s a lt = record { slots = refl; end = refl }

  pub no_has : (x : TurnOf X) (h : Hold X) → x ≡ NoTurn → x ≡ Has h → ⊥
  no_has x h p q = cc

  -- What a step makes of the tabs of a view v: the same turns are held, and a tab that is new fits.
  pub record FitsIn (k : Setting X) (s' : State X) (v : View X) (tab : Tab X) : Type 0 where
    pub fits : TurnFits k s' tab
    pub piece : TabPiece k s' tab
    pub from : (h : Hold X) → turn_of tab ≡ Has h → (t : ℕ) × (old : Tab X) × (get_elem? v.tabs t ≡ some old) × (turn_of old ≡ Has h)

  pub record TurnsKeep (k : Setting X) (s' : State X) (v : View X) (tabs : List (Tab X)) : Type 0 where
    pub counted : (slot : ℕ) → sum_by (holds_at slot) tabs ≡ count (holds_at slot) v
    pub each : (t : ℕ) (tab : Tab X) → get_elem? tabs t ≡ some tab → (get_elem? v.tabs t ≡ some tab) ⊎ FitsIn k s' v tab

  module _ (k : Setting X) (s' : State X) (v : View X) where
    pub turns_same : TurnsKeep k s' v v.tabs
    turns_same = record { counted = λ slot. refl; each = λ t tab e. inl e }

    -- one tab more changes
    pub turns_with : (tabs : List (Tab X)) → TurnsKeep k s' v tabs → (t : ℕ) (old new : Tab X) → get_elem? tabs t ≡ some old → turn_of new ≡ turn_of old → TurnFits k s' new → TabPiece k s' new → TurnsKeep k s' v (set tabs t new)
    turns_with tabs h t old new was same fits piece = record {
      counted = λ slot. let e = sum_at (holds_at slot) tabs t old new was in let q = ap (turn_at slot) same in let c = h.counted slot in omega arith;
      each = λ m tab e. ⊎_elim
          (λ (q : (m ≡ t) × (new ≡ tab)). inr (subst (FitsIn k s' v) q.1 record { fits = fits; piece = piece; from = λ hold e. source hold (sym same ∙ e) }))
          (λ (q : (m ≢ t) × (get_elem? tabs m ≡ some tab)). h.each m tab q.1)
          (at_set tabs t m new tab e);
    }
      where
        source : (hold : Hold X) → turn_of old ≡ Has hold → (p : ℕ) × (tab : Tab X) × (get_elem? v.tabs p ≡ some tab) × (turn_of tab ≡ Has hold)
        source hold e = ⊎_elim (λ (q : get_elem? v.tabs t ≡ some old). (t, old, q, e)) (λ (q : FitsIn k s' v old). q.from hold e) (h.each t old was)

  -- a tab that may wipe a slot may do so with any turn
  pub wipe_again : (slot : ℕ) (f : Freer X) (turn : TurnOf X) → MayWipe slot f → MayWipe slot (record f { turn = turn })
  wipe_again slot f turn h = record { front = h.front; freeing = h.freeing; whole = h.whole; doomed = h.doomed }

  -- and one without a turn fits
  pub freer_fits : (k : Setting X) (s' : State X) (f : Freer X) → f.turn ≡ NoTurn → TurnFits k s' (Freeing f)
  freer_fits k s' f e = λ h q. absurd (no_has f.turn h e q)

  -- a tab that has nothing to do with slots, and no turn
  pub idle_fits : (k : Setting X) (s' : State X) (x : Tab X) → NoSlots x → turn_of x ≡ NoTurn → TurnFits k s' x
  idle_fits k s' Free none e = tt
  idle_fits k s' (Retreating a) none e = tt
  idle_fits k s' (Reading r) none e = λ h q. absurd (no_has r.turn h e q)
  idle_fits k s' (Writing w) none e = absurd none
  idle_fits k s' (Last a) none e = tt
  idle_fits k s' (Freeing f) none e = absurd none

  pub idle_piece : (k : Setting X) (s' : State X) (x : Tab X) → NoSlots x → TabPiece k s' x
  idle_piece k s' Free none = tt
  idle_piece k s' (Retreating a) none = tt
  idle_piece k s' (Reading r) none = tt
  idle_piece k s' (Writing w) none = absurd none
  idle_piece k s' (Last a) none = tt
  idle_piece k s' (Freeing f) none = tt

  -- A writing tab w becomes x, while the cells stay: its first reserved slot stays, and the turn and the piece are the same.
  pub record Goes (k : Setting X) (w x : Writer X) : Type 0 where
    pub first : (slot : ℕ) → w.reserved ≡ slot ∷ rest_of w.reserved → x.reserved ≡ slot ∷ rest_of x.reserved
    pub turn : x.turn ≡ w.turn
    pub version : x.version ≡ w.version
    pub offer : (n : ℕ) → x.offer ≡ Some n → (w.offer ≡ Some n) ⊎ (k.slots ≤ n)
    pub is_ending : x.is_ending ≡ w.is_ending
    pub is_written : x.is_written ≡ w.is_written
    pub is_settled : x.is_settled ≡ w.is_settled
    pub chosen : x.chosen ≡ w.chosen
    pub logged_in : x.logged_in ≡ w.logged_in

  module _ (k : Setting X) (s s' : State X) (places : s'.places ≡ s.places) (w x : Writer X) (g : Goes k w x) where
    pub goes_fits : TurnFits k s (Writing w) → TurnFits k s' (Writing x)
    goes_fits f = λ h e. let q = f h (sym g.turn ∙ e) in (q.0, g.first h.slot q.1)

    pub goes_piece : WriterPiece k s w → WriterPiece k s' x
    goes_piece q = record {
      drawn = subst (λ (n : ℕ). opening_counter k < n) (sym g.version) q.drawn;
      fits = subst (λ (n : ℕ). n ≤ version_limit) (sym g.version) q.fits;
      offer = λ n e. ⊎_elim (λ (z : w.offer ≡ Some n). q.offer n z) (λ (z : k.slots ≤ n). z) (g.offer n e);
      logged = λ e. let z = q.logged (sym g.chosen ∙ e) in (g.logged_in ∙ z.0, g.turn ∙ z.1);
      home = λ p open_ written chosen. home_again p (q.home p (sym g.is_ending ∙ open_) (sym g.is_written ∙ written) (sym g.chosen ∙ chosen));
      held = λ p h e written chosen. q.held p h (sym g.turn ∙ e) written (sym g.chosen ∙ chosen);
      synced = λ h e settled. q.synced h (sym g.turn ∙ e) settled;
    }
      where
        home_again : (p : Piece) → IsHome k s w p → IsHome k s' x p
        home_again p h = record { slot = h.slot; first = g.first h.slot h.first; cell = h.cell; home = ap (λ z. get_or z h.slot None) places ∙ h.home; written = h.written; settled = λ e. h.settled (sym g.is_settled ∙ e) }

  pub goes_same : (k : Setting X) (w : Writer X) → Goes k w w
  goes_same k w = record { first = λ slot e. e; turn = refl; version = refl; offer = λ n e. inl e; is_ending = refl; is_written = refl; is_settled = refl; chosen = refl; logged_in = refl }

  -- a tab stays
  pub piece_again : (k : Setting X) (s s' : State X) → s'.places ≡ s.places → (x : Tab X) → TabPiece k s x → TabPiece k s' x
  piece_again k s s' places Free h = tt
  piece_again k s s' places (Retreating a) h = tt
  piece_again k s s' places (Reading r) h = tt
  piece_again k s s' places (Writing w) h = goes_piece k s s' places w w (goes_same k w) h
  piece_again k s s' places (Last a) h = tt
  piece_again k s s' places (Freeing f) h = tt

  -- What a step owes that leaves the cells where they are.
  pub record CellsOwe (k : Setting X) (s : State X) (i : ℕ) (v v' : View X) (ws : List ℕ) (cs : List Chain) : Type 0 where
    pub turns : (slot : ℕ) → slot < k.slots → get_or ws (index k (Turn slot)) 0 ≡ turn_word k s slot
    pub tabs : TurnsKeep k (later s i v' ws cs) v v'.tabs
    pub seen : Sees v v'
    pub chains : (a : ℕ) → a < k.anchors → SameSlots (chain_of s a) (get_or cs a no_chain) ⊎ (readers_of (word s a) ≡ 0)
    pub entries : (a : ℕ) → a < k.anchors → EntryStays k s (later s i v' ws cs) a ⊎ EntryGone (later s i v' ws cs) a

  module _ (k : Setting X) (s : State X) (i : ℕ) (v : View X) (so : AnchorsSound k s) (sl : SlotsSound k s) (cells : CellsSound k s) (at : get_elem? s.views i ≡ some v) where
    -- an entry with a published slot is at a stage up to HALTED
    pub low_stage : (a : ℕ) → a < k.anchors → 0 < length (chain_of s a).slots → stage_of (epoch_of (word s a)) ≤ 4
    low_stage a lt some_slot = let e = stage_told k s.words a lt in dite (ℕ_discrete (stage_of (epoch_of (word s a)) - 4) 0)
        (λ low. omega arith)
        (λ ne. absurd (let z = ap (λ (c : Chain). length c.slots) ((sl.stand a lt).gone (inr (omega arith))) in omega arith))

    module _ (v' : View X) (ws : List ℕ) (cs : List Chain) (o : CellsOwe k s i v v' ws cs) where
      abbrev s' : State X
      s' = later s i v' ws cs

      holders_later : OneHolder k s'
      holders_later = record {
        turns = λ slot lt. o.turns slot lt ∙ cells.holders.turns slot lt ∙ sym (counted slot);
        few = λ slot lt. subst (λ (n : ℕ). n ≤ 1) (sym (o.turns slot lt)) (cells.holders.few slot lt);
        home = λ slot lt e. cells.holders.home slot lt (sym (o.turns slot lt) ∙ e);
        away = λ slot lt e. cells.holders.away slot lt (sym (o.turns slot lt) ∙ e);
      }
        where
          counted : (slot : ℕ) → sum_by (count (holds_at slot)) (set s.views i v') ≡ sum_by (count (holds_at slot)) s.views
          counted slot = let e = sum_at (count (holds_at slot)) s.views i v v' at in let c = o.tabs.counted slot in omega arith

      -- a tab is as it was, or fits
      each_was : (j : ℕ) (u : View X) → get_elem? (set s.views i v') j ≡ some u → (t : ℕ) (tab : Tab X) → get_elem? u.tabs t ≡ some tab → IsTab s j t tab ⊎ FitsIn k s' v tab
      each_was j u ut t tab is = ⊎_elim
          (λ (q : (j ≡ i) × (v' ≡ u)). mine q.0 (subst (λ (z : View X). get_elem? z.tabs t ≡ some tab) (sym q.1) is))
          (λ (q : (j ≢ i) × (get_elem? s.views j ≡ some u)). inl record { view = u; at = q.1; there = is })
          (at_set s.views i j v' u ut)
        where
          mine : j ≡ i → get_elem? v'.tabs t ≡ some tab → IsTab s j t tab ⊎ FitsIn k s' v tab
          mine e there = ⊎_elim
              (λ (q : get_elem? v.tabs t ≡ some tab). inl (subst (λ (z : ℕ). IsTab s z t tab) (sym e) record { view = v; at = at; there = q }))
              (λ (q : FitsIn k s' v tab). inr q)
              (o.tabs.each t tab there)

      next_later : (j t : ℕ) (r : Reader X) → IsTab s j t (Reading r) → (slot : ℕ) → IsNext s slot r → IsNext s' slot r
      next_later j t r x slot next = let there = reader_stage k s so sl j x.view x.at t r x.there in ⊎_elim
          (λ (q : SameSlots (chain_of s r.anchor) (chain_of s' r.anchor)). ap (λ (z : List ℕ). get_elem? z r.place) (whole_same (chain_of s r.anchor) (chain_of s' r.anchor) q) ∙ next)
          (λ (q : readers_of (word s r.anchor) ≡ 0). absurd (let z = there.3 in omega arith))
          (o.chains r.anchor there.0)

      fits_later : (j t : ℕ) (tab : Tab X) → IsTab s j t tab → TurnFits k s tab → TurnFits k s' tab
      fits_later j t Free x f = tt
      fits_later j t (Retreating a) x f = tt
      fits_later j t (Reading r) x f = λ h e. let q = f h e in (q.0, next_later j t r x h.slot q.1, q.2)
      fits_later j t (Writing w) x f = f
      fits_later j t (Last a) x f = tt
      fits_later j t (Freeing g) x f = f

      cell_before : (slot : ℕ) (c : Cell X) → IsCell s' slot c → IsCell s slot c
      cell_before slot c (inl e) = inl e
      cell_before slot c (inr h) = inr (⊎_elim
          (λ (x : IsTab s h.i h.t h.tab). record { i = h.i; view = x.view; at = x.at; t = h.t; tab = h.tab; there = x.there; hold = h.hold; turn = h.turn; slot_is = h.slot_is; cell_is = h.cell_is })
          (λ (f : FitsIn k s' v h.tab). let q = f.from h.hold h.turn in record { i = i; view = v; at = at; t = q.0; tab = q.1; there = q.2; hold = h.hold; turn = q.3; slot_is = h.slot_is; cell_is = h.cell_is })
          (each_was h.i h.view h.at h.t h.tab h.there))

      content_later : (a place slot : ℕ) (x : X) → EntryStays k s s' a → IsContent k s a place slot x → IsContent k s' a place slot x
      content_later a place slot x e h = let offer : side_word k s' Offer a ≡ side_word k s Offer a = e.named.names Offer (λ q. cc) in ⊎_elim
          (λ (q : (side_word k s Offer a < k.slots) × (get_elem? k.contents slot ≡ some x)). inl (subst (λ (n : ℕ). n < k.slots) (sym offer) q.0, q.1))
          (λ (q : (k.slots ≤ side_word k s Offer a) × (x ≡ k.image (piece_with (side_word k s Offer a) (version_of (epoch_of (word s a))) place (first_of (chain_of s a).slots) (link_at (chain_of s a) place)))).
          inr (
            subst (λ (n : ℕ). k.slots ≤ n) (sym offer) q.0,
            q.1 ∙ ap k.image (piece_same (side_word k s Offer a) (side_word k s' Offer a) (version_of (epoch_of (word s a))) (version_of (epoch_of (word s' a))) place (first_of (chain_of s a).slots) (first_of (chain_of s' a).slots) (link_at (chain_of s a) place) (link_at (chain_of s' a) place)
                (sym offer) (sym e.named.version) (ap first_of (sym e.slots)) (sym (link_same (chain_of s a) (chain_of s' a) place e.slots e.end))),
          ))
          h

      contents_later : ContentsStand k s'
      contents_later = record {
        published = λ a place slot c lt is cell. ⊎_elim
            (λ (e : EntryStays k s s' a). content_later a place slot c.now e (cells.contents.published a place slot c lt (ap (λ (z : List ℕ). get_elem? z place) (sym e.slots) ∙ is) (cell_before slot c cell)))
            (λ (e : EntryGone s' a). absurd (let z = at_length (chain_of s' a).slots place slot is in let y = ap length e in omega arith))
            (o.entries a lt);
        possible = λ slot c cell. cells.contents.possible slot c (cell_before slot c cell);
      }

      named_later : (a version : ℕ) (side : Side) (value : ℕ) → IsNamed s a version side value → IsNamed s' a version side value
      named_later a version side value h = dite (ℕ_discrete h.i i)
          (λ e. let same : h.view ≡ v = some-injective h.view v (sym h.at ∙ ap (get_elem? s.views) e ∙ at) in
          record { i = i; view = v'; at = set_here s.views i v' (at_length s.views i v at); seen = o.seen (Named a version side value) (subst (λ (u : View X). Contains u.seen (Named a version side value)) same h.seen) })
          (λ ne. record { i = h.i; view = h.view; at = set_else s.views i h.i v' ne ∙ h.at; seen = h.seen })

      names_later : NamesStand k s'
      names_later = record {
        old = λ a side lt ne low some_slot is_old. ⊎_elim
            (λ (e : EntryStays k s s' a). e.named.names side ne ∙ cells.names.old a side lt ne (low_stage a lt (had a e some_slot)) (had a e some_slot) (subst (λ (n : ℕ). n ≤ opening_counter k) e.named.version is_old))
            (λ (e : EntryGone s' a). absurd (none a e some_slot))
            (o.entries a lt);
        new = λ a side lt ne low some_slot is_new. ⊎_elim
            (λ (e : EntryStays k s s' a). subst (λ (n : ℕ). IsNamed s' a n side (side_word k s' side a)) (sym e.named.version) (subst (IsNamed s' a (version_of (epoch_of (word s a))) side) (sym (e.named.names side ne))
            (named_later a (version_of (epoch_of (word s a))) side (side_word k s side a) (cells.names.new a side lt ne (low_stage a lt (had a e some_slot)) (had a e some_slot) (subst (λ (n : ℕ). opening_counter k < n) e.named.version is_new)))))
            (λ (e : EntryGone s' a). absurd (none a e some_slot))
            (o.entries a lt);
        offers = λ a lt some_slot is_new. ⊎_elim
            (λ (e : EntryStays k s s' a). subst (λ (n : ℕ). k.slots ≤ n) (sym (e.named.names Offer (λ q. cc))) (cells.names.offers a lt (had a e some_slot) (subst (λ (n : ℕ). opening_counter k < n) e.named.version is_new)))
            (λ (e : EntryGone s' a). absurd (none a e some_slot))
            (o.entries a lt);
      }
        where
          had : (a : ℕ) → EntryStays k s s' a → 0 < length (chain_of s' a).slots → 0 < length (chain_of s a).slots
          had a e h = subst (λ (z : List ℕ). 0 < length z) e.slots h

          none : (a : ℕ) → EntryGone s' a → 0 < length (chain_of s' a).slots → ⊥
          none a e h = let y = ap length e in omega arith

      pub cells_later : CellsSound k s'
      cells_later = record {
        holders = holders_later;
        turns = λ j u ut t tab is. ⊎_elim (λ (x : IsTab s j t tab). fits_later j t tab x (cells.turns j x.view x.at t tab x.there)) (λ (f : FitsIn k s' v tab). f.fits) (each_was j u ut t tab is);
        contents = contents_later;
        writers = λ j u ut t tab is. ⊎_elim (λ (x : IsTab s j t tab). piece_again k s s' refl tab (cells.writers j x.view x.at t tab x.there)) (λ (f : FitsIn k s' v tab). f.piece) (each_was j u ut t tab is);
        names = names_later;
      }

  -- Which words a step sets.
  module _ (k : Setting X) (s : State X) (i : ℕ) (v' : View X) (cs : List Chain) where
    -- none of those of anchors
    pub names_beyond : (p x : ℕ) → 5 * k.anchors ≤ p → (b : ℕ) → b < k.anchors → NamesStay k s (later s i v' (set s.words p x) cs) b
    names_beyond p x far b lt = record {
      version = ap (λ (n : ℕ). version_of (epoch_of n)) (get_or-set_other s.words p (anchor_index b) x 0 (λ e. omega arith));
      names = λ side ne. let q = side_in k s.words side b lt in get_or-set_other s.words p (index k (Beside side b)) x 0 (λ e. let z = q.1 in omega arith);
    }

    -- the one of another anchor
    pub names_else : (a x : ℕ) → a < k.anchors → (b : ℕ) → b < k.anchors → b ≢ a → NamesStay k s (later s i v' (set s.words (anchor_index a) x) cs) b
    names_else a x la b lt ne = record {
      version = ap (λ (n : ℕ). version_of (epoch_of n)) (get_or-set_other s.words (anchor_index a) (anchor_index b) x 0 (λ e. ne (omega arith)));
      names = λ side ne. let q = side_in k s.words side b lt in get_or-set_other s.words (anchor_index a) (index k (Beside side b)) x 0 (λ e. let z = q.0 in omega arith);
    }

    -- that of an anchor, which keeps its version
    pub names_at : (a x : ℕ) → a < k.anchors → length s.words ≡ word_count k → version_of (epoch_of x) ≡ version_of (epoch_of (word s a)) → (b : ℕ) → b < k.anchors → NamesStay k s (later s i v' (set s.words (anchor_index a) x) cs) b
    names_at a x la wide same b lt = dite (ℕ_discrete b a)
        (λ e. subst (NamesStay k s (later s i v' (set s.words (anchor_index a) x) cs)) (sym e) record {
          version = ap (λ (n : ℕ). version_of (epoch_of n)) (get_or-set_same s.words (anchor_index a) x 0 (omega arith)) ∙ same;
          names = λ side ne. let q = side_in k s.words side a la in get_or-set_other s.words (anchor_index a) (index k (Beside side a)) x 0 (λ e. let z = q.0 in omega arith);
        })
        (names_else a x la b lt)

    -- one beside another anchor
    pub names_apart : (side : Side) (a x : ℕ) → a < k.anchors → (b : ℕ) → b < k.anchors → b ≢ a → NamesStay k s (later s i v' (set s.words (index k (Beside side a)) x) cs) b
    names_apart side a x la b lt ne = let q = side_in k s.words side a la in record {
      version = ap (λ (n : ℕ). version_of (epoch_of n)) (get_or-set_other s.words (index k (Beside side a)) (anchor_index b) x 0 (λ e. let z = q.0 in omega arith));
      names = λ other _. get_or-set_other s.words (index k (Beside side a)) (index k (Beside other b)) x 0 (sides_apart k s.words side other a b la ne lt);
    }

    -- a Start word
    pub names_started : (a x : ℕ) → a < k.anchors → NamesStay k s (later s i v' (set s.words (index k (Beside Start a)) x) cs) a
    names_started a x la = let q = side_in k s.words Start a la in record {
      version = ap (λ (n : ℕ). version_of (epoch_of n)) (get_or-set_other s.words (index k (Beside Start a)) (anchor_index a) x 0 (λ e. let z = q.0 in omega arith));
      names = λ other ne. get_or-set_other s.words (index k (Beside Start a)) (index k (Beside other a)) x 0 (sides_differ k s.words Start other a la ne);
    }

  -- the turn words stay
  pub turns_else : (k : Setting X) (s : State X) (p x : ℕ) → ((slot : ℕ) → slot < k.slots → index k (Turn slot) ≢ p) → (slot : ℕ) → slot < k.slots → get_or (set s.words p x) (index k (Turn slot)) 0 ≡ turn_word k s slot
  turns_else k s p x off slot lt = get_or-set_other s.words p (index k (Turn slot)) x 0 (off slot lt)

  module _ (k : Setting X) (s : State X) (i : ℕ) (v : View X) (so : AnchorsSound k s) (sl : SlotsSound k s) (cells : CellsSound k s) (at : get_elem? s.views i ≡ some v) where
    -- the names and the published slots stay
    pub on_words : (v' : View X) (ws : List ℕ) (cs : List Chain) → ((slot : ℕ) → slot < k.slots → get_or ws (index k (Turn slot)) 0 ≡ turn_word k s slot) → TurnsKeep k (later s i v' ws cs) v v'.tabs → Sees v v' → SameChains k s cs
        → ((a : ℕ) → a < k.anchors → NamesStay k s (later s i v' ws cs) a) → CellsSound k (later s i v' ws cs)
    on_words v' ws cs turns tabs see same names = cells_later k s i v so sl cells at v' ws cs record {
      turns = turns;
      tabs = tabs;
      seen = see;
      chains = λ a lt. inl (same a lt);
      entries = λ a lt. inl record { named = names a lt; slots = (same a lt).slots; end = (same a lt).end };
    }

    -- the word of an anchor is set, and keeps its version
    pub on_anchor : (a x : ℕ) (v' : View X) (cs : List Chain) → a < k.anchors → version_of (epoch_of x) ≡ version_of (epoch_of (word s a)) → TurnsKeep k (later s i v' (set s.words (anchor_index a) x) cs) v v'.tabs → Sees v v' → SameChains k s cs
        → CellsSound k (later s i v' (set s.words (anchor_index a) x) cs)
    on_anchor a x v' cs lt version tabs see same = on_words v' (set s.words (anchor_index a) x) cs (turns_else k s (anchor_index a) x (λ slot l e. omega arith)) tabs see same (names_at k s i v' cs a x lt so.shaped.words version)

    -- a word that is none of an anchor, and no turn
    pub on_else : (p x : ℕ) (v' : View X) → 5 * k.anchors ≤ p → ((slot : ℕ) → slot < k.slots → index k (Turn slot) ≢ p) → TurnsKeep k (later s i v' (set s.words p x) s.chains) v v'.tabs → Sees v v'
        → CellsSound k (later s i v' (set s.words p x) s.chains)
    on_else p x v' far off tabs see = on_words v' (set s.words p x) s.chains (turns_else k s p x off) tabs see (same_chains k s) (names_beyond k s i v' s.chains p x far)
