-- Each step keeps that a crash may leave of a published cell only what is published there, where its piece was logged as durable.
use Rattle.std.proofs.Common.{◌≡◌, ◌≢◌, ◌⊎◌, inl, inr, ⊎_elim, ℕ, zero, suc, ◌+◌, ◌<◌, ◌≤◌, List, [], ◌∷◌, ◌++◌, length, drop, get_or, set, sym, refl, ap, ◌∙◌, subst, arith, Bool, true, false, cond, ◌==◌, Option, Some, None, Contains, get_or-set_same, get_or-set_other}
use mathlib.Core.Option.{some, some-injective, some-ne-none}
use mathlib.Core.Logic.{dite}
use native.Mathlib.Decide.{ℕ_discrete}
use lib.ListN.{get_elem?}
use Rattle.lock_word.specs.Words.{epoch_of, version_of}
use Rattle.lock_word.specs.declared.stage.Stage.{Stage}
use Rattle.lock_word.specs.declared.stage.Stage.TheVariants.{Empty, Taken, Appending, Closed, Halted, Freeing as FreeingStage, Gone}
use Rattle.link_word.specs.declared.link.Link.{Link}
use Rattle.link_word.specs.declared.link.Link.TheVariants.{Next}
use Rattle.core_model.specs.declared.tab.Freer.{Freer}
use Rattle.core_model.specs.declared.view.LoggedPiece.{LoggedPiece}
use Rattle.core_model.specs.declared.chain.Chain.{Chain}
use Rattle.core_model.specs.declared.moves.Side.TheVariants.{Offer, Start}
use Rattle.core_model.specs.declared.moves.Move.{Move}
use Rattle.core_model.specs.declared.moves.Move.TheVariants.{Look, Enter, Leave, Count, Draw, Take, Evict, Raise, Doom, LoadSide, StoreSide, Own, Disown, Publish, Loosen, GetLink, TryTurn, EndTurn, CellOut, CellIn, Note, Learn, Write, Sync, LookMap, LogPiece}
use Rattle.core_model.specs.declared.tab.Cell.{Cell}
use Rattle.core_model.specs.declared.tab.Hold.{Hold}
use Rattle.core_model.specs.declared.tab.Piece.{Piece}
use Rattle.core_model.specs.declared.tab.Reader.{Reader}
use Rattle.core_model.specs.declared.tab.Writer.{Writer}
use Rattle.core_model.specs.declared.tab.Turn.TheVariants.{Has}
use Rattle.core_model.specs.declared.tab.Tab.{Tab}
use Rattle.core_model.specs.declared.tab.Tab.TheVariants.{Free, Retreating, Reading, Writing, Last, Freeing}
use Rattle.core_model.specs.declared.view.View.{View}
use Rattle.core_model.specs.Layout.{Setting}
use Rattle.core_model.specs.State.{State, chain_of, side_word, word}
use Rattle.core_model.specs.Chains.{first_of, link_at, link_to, no_chain}
use Rattle.core_model.specs.Tabs.{anchor_of, tab_at, turn_of, OfWriter}
use Rattle.core_model.specs.Trails.{last_find}
use Rattle.core_model.specs.CellMoves.{chosen_content}
use Rattle.core_model.specs.SlotMoves.{MayPublish}
use Rattle.core_model.specs.Cells.{IsCell, IsContent, IsHeldCell}
use Rattle.core_model.specs.Slots.{WriterHolds, slot_words, held_in}
use Rattle.core_model.specs.Holders.{IsTab}
use Rattle.core_model.specs.Sound.{Sound}
use Rattle.core_model.specs.Entries.{EntryGone, EntryGrows, EntryStays, NamesStay}
use Rattle.core_model.specs.Steps.{after, halted, longer}
use Rattle.core_model.specs.Table.{Allowed, MayStep}
use Rattle.core_model.proofs.Lists.{at_length, contains_none, cons_contains}
use Rattle.core_model.proofs.AllKept.{keeps_sound}
use Rattle.core_model.proofs.CellsTab.{held_unpublished, reserves_first, rests_first, turn_tab}
use Rattle.core_model.proofs.Entries.{entry_after}
use Rattle.core_model.proofs.FollowsKept.{at_times}
use Rattle.core_model.proofs.Holders.{is_away}
use Rattle.core_model.proofs.Matching.{matches_writer}
use Rattle.core_log.specs.Logged.{CellsLogged, IsFast, LinksStand, SettledStand, logged_now, IsPublished, IsChosen}
use Rattle.core_log.proofs.Changes.{HoldWas, Goes, WasHome}
use Rattle.core_log.proofs.Kept.{home_was, mine, no_cell, some_cell, tab_was, writes_at, there_at}
use Rattle.core_log.proofs.LinksKept.{new_is, split}

itself : (n : ℕ) → n < n → ⊥
itself n h = omega arith

-- a list with one element more
at_more : (xs : List ℕ) (slot place a : ℕ) → get_elem? (xs ++ slot ∷ []) place ≡ some a → (get_elem? xs place ≡ some a) ⊎ ((place ≡ length xs) × (slot ≡ a))
at_more [] slot zero a e = inr (refl, some-injective slot a e)
at_more [] slot (suc n) a e = absurd (some-ne-none a (sym e))
at_more (x ∷ xs) slot zero a e = inl e
at_more (x ∷ xs) slot (suc n) a e = ⊎_elim (λ (q : get_elem? xs n ≡ some a). inl q) (λ (q : (n ≡ length xs) × (slot ≡ a)). inr (ap suc q.0, q.1)) (at_more xs slot n a e)

first_more : (xs : List ℕ) (slot : ℕ) → 0 < length xs → first_of (xs ++ slot ∷ []) ≡ first_of xs
first_more [] slot h = absurd (omega arith)
first_more (x ∷ xs) slot h = refl

-- the link behind a place, where one more slot is published
link_more : (n : ℕ) (xs : List ℕ) (slot : ℕ) (end link : Link) → end ≡ Next slot → n ≤ length xs → link_to (drop n (xs ++ slot ∷ [])) link ≡ link_to (drop n xs) end
link_more zero [] slot end link e le = sym e
link_more (suc n) [] slot end link e le = absurd (omega arith)
link_more zero (y ∷ xs) slot end link e le = refl
link_more (suc n) (y ∷ xs) slot end link e le = link_more n xs slot end link e (omega arith)

not_empty : (xs : List ℕ) → 0 < length xs → xs ≢ []
not_empty xs h e = let z = ap length e in omega arith

not_start : ◌≡◌ {A = Rattle.core_model.specs.declared.moves.Side.Side} Offer Start → ⊥
not_start e = cc

image_same : (o o' v v' place f f' : ℕ) (n n' : Link) → o ≡ o' → v ≡ v' → f ≡ f' → n ≡ n' → ◌≡◌ {A = Piece} record { offer = o; version = v; place = place; first = f; next = n } record { offer = o'; version = v'; place = place; first = f'; next = n' }
image_same o o' v v' place f f' n n' p q r l = λ t. record { offer = p t; version = q t; place = place; first = r t; next = l t }

not_publish : (t slot u a : ℕ) (link : Link) (is_durable : Bool) → Publish t slot link ≡ LogPiece u a is_durable → ⊥
not_publish t slot u a link is_durable e = cc

-- a tab publishes a slot of its anchor
pub record IsPublishing {X : Type 0} (k : Setting X) (s : State X) (v : View X) (m : Move) (a : ℕ) : Type 0 where
  pub t : ℕ
  pub slot : ℕ
  pub link : Link
  pub is : m ≡ Publish t slot link
  pub writer : Writer X
  pub tab : tab_at v t ≡ Writing writer
  pub anchor_is : writer.anchor ≡ a
  pub may : MayPublish k s slot link writer

module _ {X : Type 0} (k : Setting X) (s : State X) (i : ℕ) (v : View X) (wide : k.anchors ≤ length s.chains) where
  -- a chain that is longer afterwards
  emptied : (hit : Bool) (b a : ℕ) → a < k.anchors → length (chain_of s a).slots < length (get_or (cond hit (set s.chains b no_chain) s.chains) a no_chain).slots → ⊥
  emptied false b a lt h = itself (length (chain_of s a).slots) h
  emptied true b a lt h = dite (ℕ_discrete a b)
      (λ e. let q : length (get_or (set s.chains b no_chain) a no_chain).slots ≡ 0 = ap (λ (n : ℕ). length (get_or (set s.chains b no_chain) n no_chain).slots) e ∙ ap (λ (c : Chain). length c.slots) (get_or-set_same s.chains b no_chain no_chain (omega arith)) in omega arith)
      (λ ne. let q = ap (λ (c : Chain). length c.slots) (get_or-set_other s.chains b a no_chain no_chain ne) in omega arith)

  halted_same : (b a : ℕ) → a < k.anchors → length (chain_of s a).slots < length (get_or (set s.chains b (halted (chain_of s b))) a no_chain).slots → ⊥
  halted_same b a lt h = dite (ℕ_discrete a b)
      (λ e. let q : length (get_or (set s.chains b (halted (chain_of s b))) a no_chain).slots ≡ length (chain_of s b).slots = ap (λ (n : ℕ). length (get_or (set s.chains b (halted (chain_of s b))) n no_chain).slots) e ∙ ap (λ (c : Chain). length c.slots) (get_or-set_same s.chains b (halted (chain_of s b)) no_chain (omega arith)) in
      let z = ap (λ (n : ℕ). length (chain_of s n).slots) e in omega arith)
      (λ ne. let q = ap (λ (c : Chain). length c.slots) (get_or-set_other s.chains b a (halted (chain_of s b)) no_chain ne) in omega arith)

  raised_same : (t : ℕ) (to : Stage) (a : ℕ) → a < k.anchors → length (chain_of s a).slots < length (chain_of (after k s i v (Raise t to)) a).slots → ⊥
  raised_same t Empty a lt h = itself (length (chain_of s a).slots) h
  raised_same t Taken a lt h = itself (length (chain_of s a).slots) h
  raised_same t Appending a lt h = itself (length (chain_of s a).slots) h
  raised_same t Closed a lt h = itself (length (chain_of s a).slots) h
  raised_same t Halted a lt h = halted_same (anchor_of (tab_at v t)) a lt h
  raised_same t FreeingStage a lt h = itself (length (chain_of s a).slots) h
  raised_same t Gone a lt h = itself (length (chain_of s a).slots) h

  published_longer : (t slot : ℕ) (link : Link) (x : Tab X) → tab_at v t ≡ x → OfWriter (MayPublish k s slot link) x → (a : ℕ) → a < k.anchors
      → length (chain_of s a).slots < length (get_or (set s.chains (anchor_of x) (longer (chain_of s (anchor_of x)) slot link)) a no_chain).slots → IsPublishing k s v (Publish t slot link) a
  published_longer t slot link Free e may a lt h = absurd may
  published_longer t slot link (Retreating b) e may a lt h = absurd may
  published_longer t slot link (Reading r) e may a lt h = absurd may
  published_longer t slot link (Writing w) e may a lt h = dite (ℕ_discrete a w.anchor)
      (λ q. record { t = t; slot = slot; link = link; is = refl; writer = w; tab = e; anchor_is = sym q; may = may })
      (λ ne. absurd (let q = ap (λ (c : Chain). length c.slots) (get_or-set_other s.chains w.anchor a (longer (chain_of s w.anchor) slot link) no_chain ne) in omega arith))
  published_longer t slot link (Last b) e may a lt h = absurd may
  published_longer t slot link (Freeing f) e may a lt h = absurd may

  abbrev Longer : Move → ℕ → Type 0
  Longer m a = length (chain_of s a).slots < length (chain_of (after k s i v m) a).slots

  longer_is : (m : Move) → Allowed k s v m → (a : ℕ) → a < k.anchors → Longer m a → IsPublishing k s v m a
  longer_is (Look b) may a lt h = absurd (itself (length (chain_of s a).slots) h)
  longer_is (Enter t b) may a lt h = absurd (itself (length (chain_of s a).slots) h)
  longer_is (Leave t) may a lt h = absurd (itself (length (chain_of s a).slots) h)
  longer_is Count may a lt h = absurd (itself (length (chain_of s a).slots) h)
  longer_is Draw may a lt h = absurd (itself (length (chain_of s a).slots) h)
  longer_is (Take t b u) may a lt h = absurd (emptied (word s b == last_find b v.trail) b a lt h)
  longer_is (Evict t b) may a lt h = absurd (emptied (word s b == last_find b v.trail) b a lt h)
  longer_is (Raise t to) may a lt h = absurd (raised_same t to a lt h)
  longer_is (Doom t) may a lt h = absurd (itself (length (chain_of s a).slots) h)
  longer_is (LoadSide t side) may a lt h = absurd (itself (length (chain_of s a).slots) h)
  longer_is (StoreSide t side value) may a lt h = absurd (itself (length (chain_of s a).slots) h)
  longer_is (Own t slot) may a lt h = absurd (itself (length (chain_of s a).slots) h)
  longer_is (Disown t slot) may a lt h = absurd (itself (length (chain_of s a).slots) h)
  longer_is (LookMap t word) may a lt h = absurd (itself (length (chain_of s a).slots) h)
  longer_is (LogPiece t slot is_durable) may a lt h = absurd (itself (length (chain_of s a).slots) h)
  longer_is (Publish t slot link) may a lt h = published_longer t slot link (tab_at v t) refl may.1 a lt h
  longer_is (Loosen t slot) may a lt h = absurd (itself (length (chain_of s a).slots) h)
  longer_is (GetLink t slot) may a lt h = absurd (itself (length (chain_of s a).slots) h)
  longer_is (TryTurn t slot) may a lt h = absurd (itself (length (chain_of s a).slots) h)
  longer_is (EndTurn t slot then) may a lt h = absurd (itself (length (chain_of s a).slots) h)
  longer_is (CellOut t slot) may a lt h = absurd (itself (length (chain_of s a).slots) h)
  longer_is (CellIn t slot) may a lt h = absurd (itself (length (chain_of s a).slots) h)
  longer_is Note may a lt h = absurd (itself (length (chain_of s a).slots) h)
  longer_is (Learn note) may a lt h = absurd (itself (length (chain_of s a).slots) h)
  longer_is (Write t slot outcome) may a lt h = absurd (itself (length (chain_of s a).slots) h)
  longer_is (Sync t slot kept) may a lt h = absurd (itself (length (chain_of s a).slots) h)

module _ {X : Type 0} (k : Setting X) (s : State X) (log : List LoggedPiece) (i : ℕ) (v : View X) (so : Sound k s) (cl : CellsLogged k s log) (st : LinksStand k s log) (settled : SettledStand k s log)
    (at : get_elem? s.views i ≡ some v) (m : Move) (step : MayStep k s v m) where
  abbrev s' : State X
  s' = after k s i v m

  so' : Sound k s'
  so' = keeps_sound k s i v m so at step

  abbrev all : List LoggedPiece
  all = logged_now k s v m ++ log

  -- A cell afterwards: what a crash may leave of it, it might leave before, or the cell is that of a slot that a tab has.

  pub record IsAtTab (j : ℕ) : Type 0 where
    pub t : ℕ
    pub tab : Tab X
    pub there : get_elem? v.tabs t ≡ some tab
    pub has : 0 < held_in j tab

  pub record IsPossible (j : ℕ) (x : X) : Type 0 where
    pub cell : Cell X
    pub is : IsCell s j cell
    pub possible : Contains cell.possible x

  chosen_at_tab : (t j : ℕ) (h : Hold X) (x : X) → turn_of (tab_at v t) ≡ Has h → h.slot ≡ j → chosen_content k (tab_at v t) ≡ Some x → IsAtTab j
  chosen_at_tab t j h x turn slot_is e = of_tab (turn_tab (tab_at v t) h turn)
    where
      none : ◌≡◌ {A = Option X} None (Some x) → ⊥
      none e = cc

      of_tab : ((r : Reader X) × (tab_at v t ≡ Reading r) × (r.turn ≡ Has h)) ⊎ ((y : Writer X) × (tab_at v t ≡ Writing y) × (y.turn ≡ Has h)) ⊎ ((f : Freer X) × (tab_at v t ≡ Freeing f) × (f.turn ≡ Has h)) → IsAtTab j
      of_tab (inl r) = absurd (none (sym (ap (chosen_content k) r.1) ∙ e))
      of_tab (inr (inl y)) = let there = writes_at v.tabs t y.0 y.1 in
          record { t = t; tab = Writing y.0; there = there; has = subst (λ (n : ℕ). 0 < held_in n (Writing y.0)) slot_is (reserves_first y.0 h.slot (so.cells.turns i v at t (Writing y.0) there h y.2).1) }
      of_tab (inr (inr f)) = let there = there_at v.tabs t h turn ∙ ap some f.1 in
          record { t = t; tab = Freeing f.0; there = there; has = subst (λ (n : ℕ). 0 < held_in n (Freeing f.0)) slot_is (rests_first f.0 h.slot (so.cells.turns i v at t (Freeing f.0) there h f.2).1.front) }

  was : (j : ℕ) (c : Cell X) (x : X) → IsCell s' j c → Contains c.possible x → IsPossible j x ⊎ IsAtTab j
  was j c x (inl e) q = inl (⊎_elim
      (λ (z : get_or s.places j None ≡ Some c). record { cell = c; is = inl z; possible = q })
      (λ (z : IsHeldCell s j c). record { cell = c; is = inr z; possible = q })
      (home_was k s log i v so cl at m step.allowed j c e))
  was j c x (inr h) q = ⊎_elim
      (λ (z : (h.i ≡ i) × Goes k s m h.t (tab_at v h.t) h.tab). ⊎_elim
      (λ (w : HoldWas k s (tab_at v h.t) h.hold). held_was w)
      (λ (w : WasHome k s h.hold). inl record { cell = h.hold.cell; is = inl (subst (λ (n : ℕ). get_or s.places n None ≡ Some h.hold.cell) h.slot_is w); possible = here })
      (z.1.0 h.hold h.turn))
      (λ (z : IsTab s h.i h.t h.tab). inl record { cell = h.hold.cell; is = inr record { i = h.i; view = z.view; at = z.at; t = h.t; tab = h.tab; there = z.there; hold = h.hold; turn = h.turn; slot_is = h.slot_is; cell_is = refl }; possible = here })
      (tab_was k s log i v so cl at m step.allowed h.i h.t h.tab record { view = h.view; at = h.at; there = h.there })
    where
      here : Contains h.hold.cell.possible x
      here = subst (λ (d : Cell X). Contains d.possible x) (sym h.cell_is) q

      held_was : HoldWas k s (tab_at v h.t) h.hold → IsPossible j x ⊎ IsAtTab j
      held_was w = let is : IsCell s j w.hold.cell = inr (subst (λ (n : ℕ). IsHeldCell s n w.hold.cell) (w.slot_is ∙ h.slot_is) (mine k s log i v so cl at h.t w.hold w.turn)) in ⊎_elim
          (λ (p : Contains w.hold.cell.possible x). inl record { cell = w.hold.cell; is = is; possible = p })
          (⊎_elim
          (λ (p : x ≡ w.hold.cell.now). inl record { cell = w.hold.cell; is = is; possible = subst (Contains w.hold.cell.possible) (sym p) (so.cells.contents.possible j w.hold.cell is) })
          (λ (p : chosen_content k (tab_at v h.t) ≡ Some x). inr (chosen_at_tab h.t j w.hold x w.turn (w.slot_is ∙ h.slot_is) p)))
          (w.possible x here)

  -- What was published before.

  offer_same : (a : ℕ) → NamesStay k s s' a → side_word k s' Offer a ≡ side_word k s Offer a
  offer_same a names = names.names Offer not_start

  holds : (t : ℕ) (w : Writer X) → get_elem? v.tabs t ≡ some (Writing w) → WriterHolds ((slot_words k s.words).beside w.anchor) (chain_of s w.anchor) w
  holds t w there = so.slots.tabs i v at t (Writing w) there

  fast_was : (a place slot : ℕ) → NamesStay k s s' a → get_elem? (chain_of s a).slots place ≡ some slot → IsFast k s' all a place → IsFast k s log a place
  fast_was a place slot names there (inl low) = inl (let e = offer_same a names in omega arith)
  fast_was a place slot names there (inr d) = ⊎_elim
      (λ (q : Contains (logged_now k s v m) d.link). let n = new_is k s log i v so st at m step.allowed d.link q in
      let h = holds n.t n.writer (writes_at v.tabs n.t n.writer n.is) in
      let e : n.writer.anchor ≡ a = sym n.anchor_is ∙ d.anchor_is in
      let long : length (chain_of s a).slots ≡ length n.writer.published = ap (λ (b : ℕ). length (chain_of s b).slots) (sym e) ∙ ap (λ (c : Chain). length c.slots) h.chain in
      absurd (let z = at_length (chain_of s a).slots place slot there in let y = ap Piece.place n.piece_is in let x = d.place_is in omega arith))
      (λ (q : Contains log d.link). inr record { link = d.link; among = q; durable = d.durable; anchor_is = d.anchor_is; version_is = d.version_is ∙ names.version; place_is = d.place_is })
      (split (logged_now k s v m) log d.link d.among)

  was_content : (a place slot : ℕ) (c : Cell X) (x : X) → a < k.anchors → NamesStay k s s' a → get_elem? (chain_of s a).slots place ≡ some slot → IsCell s' slot c → Contains c.possible x → IsFast k s' all a place → IsContent k s a place slot x
  was_content a place slot c x lt names there is q fast = ⊎_elim
      (λ (p : IsPossible slot x). settled a place slot p.cell x lt there p.is p.possible (fast_was a place slot names there fast))
      (λ (p : IsAtTab slot). absurd (let z = held_unpublished k s i v so at p.t p.tab p.there slot p.has a in let y = at_times (chain_of s a).slots place slot there in omega arith))
      (was slot c x is q)

  moves_on : (a place slot : ℕ) (x : X) → NamesStay k s s' a → first_of (chain_of s' a).slots ≡ first_of (chain_of s a).slots → link_at (chain_of s' a) place ≡ link_at (chain_of s a) place → IsContent k s a place slot x → IsContent k s' a place slot x
  moves_on a place slot x names first link (inl q) = inl ((let e = offer_same a names in omega arith), q.1)
  moves_on a place slot x names first link (inr q) = inr (
    (let e = offer_same a names in let z = q.0 in omega arith),
    q.1 ∙ ap k.image (image_same (side_word k s Offer a) (side_word k s' Offer a) (version_of (epoch_of (word s a))) (version_of (epoch_of (word s' a))) place (first_of (chain_of s a).slots) (first_of (chain_of s' a).slots) (link_at (chain_of s a) place) (link_at (chain_of s' a) place)
        (sym (offer_same a names)) (sym names.version) (sym first) (sym link)),
  )

  -- The slot that is published now.

  one_home : (j : ℕ) (c d : Cell X) → get_or s'.places j None ≡ Some d → IsCell s' j c → c ≡ d
  one_home j c d home (inl e) = some_cell c d (sym e ∙ home)
  one_home j c d home (inr h) = absurd (no_cell d (sym (is_away k s' so' h.i h.t h.tab h.hold record { view = h.view; at = h.at; there = h.there } h.turn).1.empty ∙ ap (λ (n : ℕ). get_or s'.places n None) h.slot_is ∙ home))

  now_content : (a place slot : ℕ) (c : Cell X) (x : X) → a < k.anchors → (g : EntryGrows k s s' i a) → place ≡ length (chain_of s a).slots → g.slot ≡ slot → get_elem? (chain_of s' a).slots place ≡ some slot → IsCell s' slot c → Contains c.possible x → IsFast k s' all a place
      → IsPublishing k s v m a → IsContent k s' a place slot x
  now_content a place slot c x lt g end same there is q fast p = subst (IsContent k s' a place slot) (sym (of_fast fast)) (so'.cells.contents.published a place slot c lt there is)
    where
      w : Writer X
      w = p.writer

      tab : get_elem? v.tabs p.t ≡ some (Writing w)
      tab = writes_at v.tabs p.t w p.tab

      long : length (chain_of s a).slots ≡ length w.published
      long = ap (λ (b : ℕ). length (chain_of s b).slots) (sym p.anchor_is) ∙ ap (λ (d : Chain). length d.slots) (holds p.t w tab).chain

      slots_after : (chain_of s' a).slots ≡ (chain_of s a).slots ++ g.slot ∷ []
      slots_after = ap Chain.slots g.chain

      places_same : s'.places ≡ s.places
      places_same = ap (λ (n : Move). (after k s i v n).places) p.is

      -- the slot that the tab publishes
      slot_is : p.slot ≡ slot
      slot_is = ap (λ (n : ℕ). n) (last_same (sym (ap (λ (n : Move). (chain_of (after k s i v n) a).slots) p.is) ∙ slots_after) ∙ same)
        where
          ends_with : (xs : List ℕ) (b d : ℕ) → xs ++ b ∷ [] ≡ xs ++ d ∷ [] → b ≡ d
          ends_with [] b d e = head e
            where
              head : b ∷ [] ≡ d ∷ [] → b ≡ d
              head e = cc
          ends_with (y ∷ xs) b d e = ends_with xs b d (tail e)
            where
              tail : y ∷ (xs ++ b ∷ []) ≡ y ∷ (xs ++ d ∷ []) → xs ++ b ∷ [] ≡ xs ++ d ∷ []
              tail e = cc

          set_there : get_or (set s.chains (anchor_of (tab_at v p.t)) (longer (chain_of s (anchor_of (tab_at v p.t))) p.slot p.link)) a no_chain ≡ longer (chain_of s a) p.slot p.link
          set_there = ap (λ (y : Tab X). get_or (set s.chains (anchor_of y) (longer (chain_of s (anchor_of y)) p.slot p.link)) a no_chain) p.tab
              ∙ ap (λ (b : ℕ). get_or (set s.chains b (longer (chain_of s b) p.slot p.link)) a no_chain) p.anchor_is
              ∙ get_or-set_same s.chains a (longer (chain_of s a) p.slot p.link) no_chain (let z = so.anchors.shaped.chains in omega arith)

          last_same : (chain_of (after k s i v (Publish p.t p.slot p.link)) a).slots ≡ (chain_of s a).slots ++ g.slot ∷ [] → p.slot ≡ g.slot
          last_same e = ends_with (chain_of s a).slots p.slot g.slot (sym (ap Chain.slots set_there) ∙ e)

      home : get_or s'.places slot None ≡ Some p.may.cell
      home = ap (λ (xs : List (Option (Cell X))). get_or xs slot None) places_same ∙ ap (λ (n : ℕ). get_or s.places n None) (sym slot_is) ∙ p.may.home

      cell_is : c ≡ p.may.cell
      cell_is = one_home slot c p.may.cell home is

      some_slot : 0 < length (chain_of s' a).slots
      some_slot = let z = at_length (chain_of s' a).slots place slot there in omega arith

      mine : IsTab s i p.t (Writing w)
      mine = record { view = v; at = at; there = tab }

      one_content : (y z : X) → Contains (y ∷ []) z → y ≡ z
      one_content y z h = ⊎_elim (λ (e : y ≡ z). e) (λ (e : Contains [] z). absurd (contains_none z e)) (cons_contains y z [] h)

      of_fast : IsFast k s' all a place → x ≡ c.now
      of_fast (inl low) = absurd (let z = so'.cells.names.offers a lt some_slot (let e = g.named.version in let y = g.version_new in omega arith) in omega arith)
      of_fast (inr d) = ⊎_elim
          (λ (y : Contains (logged_now k s v m) d.link). let n = new_is k s log i v so st at m step.allowed d.link y in absurd (not_publish p.t p.slot n.t n.slot p.link n.is_durable (sym p.is ∙ n.logs_it)))
          (λ (y : Contains log d.link). let own = st.writers i p.t w mine d.link y
          (d.version_is ∙ g.named.version ∙ ap (λ (b : ℕ). version_of (epoch_of (word s b))) (sym p.anchor_is) ∙ (matches_writer k s so.anchors i p.t w mine).1.version_is) in ⊎_elim
          (λ (z : IsPublished w d.link). absurd (let lt = at_length w.published d.link.piece.place d.link.slot z.place in let e = d.place_is ∙ end ∙ long in omega arith))
          (λ (z : IsChosen w d.link). sym (one_content p.may.cell.now x (subst (λ (xs : List X). Contains xs x) (p.may.alone (z.durable ∙ d.durable)) (subst (λ (e : Cell X). Contains e.possible x) cell_is q))) ∙ ap Cell.now (sym cell_is))
          own.stands)
          (split (logged_now k s v m) log d.link d.among)

  pub settled_stand : SettledStand k s' all
  settled_stand a place slot c x lt there is q fast = ⊎_elim
      (λ (e : EntryStays k s s' a). moves_on a place slot x e.named (ap first_of e.slots) (ap (λ (xs : List ℕ). link_to (drop (place + 1) xs) (chain_of s' a).end) e.slots ∙ ap (link_to (drop (place + 1) (chain_of s a).slots)) e.end)
      (was_content a place slot c x lt e.named (ap (λ (xs : List ℕ). get_elem? xs place) (sym e.slots) ∙ there) is q fast))
      (⊎_elim
      (λ (e : EntryGone s' a). absurd (let z = at_length (chain_of s' a).slots place slot there in let y = ap length e in omega arith))
      (λ (g : EntryGrows k s s' i a). grows g))
      (entry_after k s i v m a so at step.pass step.allowed lt)
    where
      grows : EntryGrows k s s' i a → IsContent k s' a place slot x
      grows g = ⊎_elim
          (λ (e : get_elem? (chain_of s a).slots place ≡ some slot). let z = at_length (chain_of s a).slots place slot e in moves_on a place slot x g.named
          (ap first_of slots_after ∙ first_more (chain_of s a).slots g.slot (omega arith))
          (ap (λ (d : Chain). link_at d place) g.chain ∙ link_more (place + 1) (chain_of s a).slots g.slot (chain_of s a).end g.piece.next (g.linked (not_empty (chain_of s a).slots (omega arith))) (omega arith))
          (was_content a place slot c x lt g.named e is q fast))
          (λ (e : (place ≡ length (chain_of s a).slots) × (g.slot ≡ slot)). now_content a place slot c x lt g e.0 e.1 there is q fast
          (longer_is k s i v (let z = so.anchors.shaped.chains in omega arith) m step.allowed a lt (let z = ap length slots_after in let y = length_more (chain_of s a).slots g.slot in omega arith)))
          (at_more (chain_of s a).slots g.slot place slot (ap (λ (xs : List ℕ). get_elem? xs place) (sym slots_after) ∙ there))
        where
          slots_after : (chain_of s' a).slots ≡ (chain_of s a).slots ++ g.slot ∷ []
          slots_after = ap Chain.slots g.chain

          length_more : (xs : List ℕ) (b : ℕ) → length (xs ++ b ∷ []) ≡ length xs + 1
          length_more [] b = refl
          length_more (y ∷ xs) b = let z = length_more xs b in omega arith
