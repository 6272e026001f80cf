-- What a step makes of the tabs of its pass, as far as turns, cells and chosen pieces go.
use Rattle.std.proofs.Common.{◌≡◌, ◌≢◌, ◌⊎◌, inl, inr, ⊎_elim, ℕ, ◌-◌, ◌*◌, List, [], ◌∷◌, ◌++◌, length, get_or, set, sym, refl, ap, ◌∙◌, subst, Bool, true, false, not, cond, ◌==◌, ◌&&◌, ◌||◌, Option, Some, None, unwrap_or, Contains}
use mathlib.Core.Option.{some}
use lib.ListN.{get_elem?}
use Rattle.lock_word.specs.declared.stage.Stage.{Stage}
use Rattle.lock_word.specs.declared.stage.Stage.TheVariants.{Empty, Taken, Appending, Closed, Halted, Freeing as FreeingStage, Gone}
use Rattle.lock_word.specs.Words.{epoch_of, version_of, is_readable, is_idle, is_left_over}
use Rattle.link_word.specs.declared.link.Link.{Link}
use Rattle.link_word.specs.declared.link.Link.TheVariants.{NotWritten}
use Rattle.core_model.specs.declared.moves.Outcome.{Outcome}
use Rattle.core_model.specs.declared.moves.Outcome.TheVariants.{Nothing, Kept, Unsure, KeptUnsure}
use Rattle.core_model.specs.declared.moves.Side.{Side}
use Rattle.core_model.specs.declared.moves.Side.TheVariants.{Key0, Key1, Offer, Start}
use Rattle.core_model.specs.declared.moves.Move.{Move}
use Rattle.core_model.specs.declared.moves.Move.TheVariants.{Look, Enter, Leave, Count, Draw, Take, Evict, Raise, Doom, LoadSide, StoreSide, Own, Disown, Publish, Loosen, GetLink, TryTurn, EndTurn, CellOut, CellIn, Note, Learn, Write, Sync, LookMap, LogPiece}
use Rattle.core_model.specs.declared.moves.Then.{Then}
use Rattle.core_model.specs.declared.moves.Then.TheVariants.{GoesOn, Stays, Wiped}
use Rattle.core_model.specs.declared.tab.Cell.{Cell}
use Rattle.core_model.specs.declared.tab.Hold.{Hold}
use Rattle.core_model.specs.declared.tab.Piece.{Piece}
use Rattle.core_model.specs.declared.tab.Turn.{Turn as TurnOf}
use Rattle.core_model.specs.declared.tab.Turn.TheVariants.{NoTurn, Has}
use Rattle.core_model.specs.declared.tab.Writer.{Writer}
use Rattle.core_model.specs.declared.tab.Freer.{Freer}
use Rattle.core_model.specs.declared.tab.Tab.{Tab}
use Rattle.core_model.specs.declared.tab.Tab.TheVariants.{Free, Retreating, Reading, Writing, Last, Freeing}
use Rattle.core_model.specs.declared.view.View.{View}
use Rattle.core_model.specs.Layout.{Setting}
use Rattle.link_word.specs.Map.{taken_in}
use Rattle.core_model.specs.State.{State, word, chain_of}
use Rattle.core_model.specs.Trails.{last_find}
use Rattle.core_model.specs.Tabs.{tab_at, inner, anchor_of, has_turn, turn_of, OfReader, OfWriter, OfFreer}
use Rattle.core_model.specs.Steps.{number_found, cell_found, finding}
use Rattle.core_model.specs.AnchorMoves.{entered, left_tab, writer_of, freer_of, raised_tab, taken_tabs, evicted_tabs}
use Rattle.core_model.specs.Chains.{without}
use Rattle.core_model.specs.SlotMoves.{loaded, stores, reserves, misses, searches, goes_past, begun_at, gives_back, publishes, loosens, looks, MayGiveBack}
use Rattle.core_model.specs.CellMoves.{MayLog, MayRead, MayWrite, logs, piece_of, turn_with, tries, ends, moved, moves, is_kept, rewritten, rewrites, settled_by_write, settled_by_sync, cell_held, chosen_content, map_some, written_cell, wrote, synced, MayWipe}
use Rattle.core_model.specs.Table.{tabs_after, left_by, Allowed}
use Rattle.core_model.proofs.Lists.{at_set, at_or, cons_contains, contains_none}

none_some : (p : Piece) → None ≡ Some p → ⊥
none_some p e = cc

module _ {X : Type 0} where
  not_has : (h : Hold X) → NoTurn ≡ Has h → ⊥
  not_has h e = cc

  one_hold : (g h : Hold X) → Has g ≡ Has h → g ≡ h
  one_hold g h e = cc

  no_cell : (c : Cell X) → None ≡ Some c → ⊥
  no_cell c e = cc

module _ {X : Type 0} (k : Setting X) (s : State X) where
  -- The hold of a tab before a step: the same slot, and each content that a crash may leave afterwards could be left before, or is the one
  -- that a read gave, or the piece that the tab chose.
  pub record HoldWas (old : Tab X) (h : Hold X) : Type 0 where
    pub hold : Hold X
    pub turn : turn_of old ≡ Has hold
    pub slot_is : hold.slot ≡ h.slot
    pub possible : (x : X) → Contains h.cell.possible x → Contains hold.cell.possible x ⊎ ((x ≡ hold.cell.now) ⊎ (chosen_content k old ≡ Some x))

  -- or its cell was home
  abbrev pub WasHome : Hold X → Type 0
  WasHome h = get_or s.places h.slot None ≡ Some h.cell

  abbrev pub Turns : Tab X → Tab X → Type 0
  Turns old new = (h : Hold X) → turn_of new ≡ Has h → HoldWas old h ⊎ WasHome h

  -- A tab that has chosen a piece had chosen it before, for the same slot, or logs it now.
  pub record ChoiceWas (old : Tab X) (x : Writer X) (p : Piece) : Type 0 where
    pub writer : Writer X
    pub is : old ≡ Writing writer
    pub chosen : writer.chosen ≡ Some p
    pub slot_same : x.logged_in ≡ writer.logged_in

  pub record ChoiceNow (m : Move) (u : ℕ) (old : Tab X) (x : Writer X) (p : Piece) : Type 0 where
    pub writer : Writer X
    pub is : old ≡ Writing writer
    pub slot : ℕ
    pub is_durable : Bool
    pub logs_it : m ≡ LogPiece u slot is_durable
    pub slot_is : x.logged_in ≡ Some slot
    pub piece : p ≡ piece_of writer

  -- A tab with a turn and a piece in mind had the turn before, or tried for it now for the slot that its piece was logged for. (One that logs
  -- now would have had the turn with no piece in mind.)
  pub record TurnWas (old : Tab X) (x : Writer X) (h : Hold X) : Type 0 where
    pub writer : Writer X
    pub is : old ≡ Writing writer
    pub hold : Hold X
    pub turn : writer.turn ≡ Has hold
    pub same : hold.slot ≡ h.slot
    pub slot_same : x.logged_in ≡ writer.logged_in

  pub record TurnUnlogged (old : Tab X) (h : Hold X) : Type 0 where
    pub writer : Writer X
    pub is : old ≡ Writing writer
    pub none : writer.chosen ≡ None
    pub turn : writer.turn ≡ Has h

  abbrev pub Writes : Move → ℕ → Tab X → Tab X → Type 0
  Writes m u old (Writing x) = ((p : Piece) → x.chosen ≡ Some p → ChoiceWas old x p ⊎ ChoiceNow m u old x p)
      × ((h : Hold X) (p : Piece) → x.turn ≡ Has h → x.chosen ≡ Some p → TurnWas old x h ⊎ ((x.logged_in ≡ Some h.slot) ⊎ TurnUnlogged old h))
  Writes m u old _ = Unit {0}

  abbrev pub Goes : Move → ℕ → Tab X → Tab X → Type 0
  Goes m u old new = Turns old new × Writes m u old new

  -- the same turn
  turn_stays : (old new : Tab X) → turn_of new ≡ turn_of old → Turns old new
  turn_stays old new e h q = inl record { hold = h; turn = sym e ∙ q; slot_is = refl; possible = λ x c. inl c }

  -- no turn
  turn_gone : (old new : Tab X) → turn_of new ≡ NoTurn → Turns old new
  turn_gone old new e h q = absurd (not_has h (sym e ∙ q))

  -- a writing tab that changes in nothing of this
  same_writes : (m : Move) (u : ℕ) (w x : Writer X) → x.chosen ≡ w.chosen → x.logged_in ≡ w.logged_in → x.turn ≡ w.turn → Writes m u (Writing w) (Writing x)
  same_writes m u w x c l t = (
    (λ p q. inl record { writer = w; is = refl; chosen = sym c ∙ q; slot_same = l }),
    (λ h p q z. inl record { writer = w; is = refl; hold = h; turn = sym t ∙ q; same = refl; slot_same = l }),
  )

  same_goes : (m : Move) (u : ℕ) (w x : Writer X) → x.chosen ≡ w.chosen → x.logged_in ≡ w.logged_in → x.turn ≡ w.turn → Goes m u (Writing w) (Writing x)
  same_goes m u w x c l t = (turn_stays (Writing w) (Writing x) t, same_writes m u w x c l t)

  itself : (m : Move) (u : ℕ) (x : Tab X) → Goes m u x x
  itself m u Free = (turn_stays Free Free refl, tt)
  itself m u (Retreating b) = (turn_stays (Retreating b) (Retreating b) refl, tt)
  itself m u (Reading r) = (turn_stays (Reading r) (Reading r) refl, tt)
  itself m u (Writing w) = same_goes m u w w refl refl refl
  itself m u (Last b) = (turn_stays (Last b) (Last b) refl, tt)
  itself m u (Freeing f) = (turn_stays (Freeing f) (Freeing f) refl, tt)

  gone : (m : Move) (u : ℕ) (old : Tab X) → Goes m u old Free
  gone m u old = (turn_gone old Free refl, tt)

  entered_goes : (m : Move) (u : ℕ) (x : Tab X) (a e : ℕ) (b : Bool) → Goes m u x (cond b (Reading record { anchor = a; version = version_of e; place = 0; slot = None; found = NotWritten; turn = NoTurn }) (Retreating a))
  entered_goes m u x a e true = (turn_gone x (Reading record { anchor = a; version = version_of e; place = 0; slot = None; found = NotWritten; turn = NoTurn }) refl, tt)
  entered_goes m u x a e false = (turn_gone x (Retreating a) refl, tt)

  left_goes : (m : Move) (u : ℕ) (x : Tab X) (a : ℕ) (b : Bool) → Goes m u x (cond b (Last a) Free)
  left_goes m u x a true = (turn_gone x (Last a) refl, tt)
  left_goes m u x a false = (turn_gone x Free refl, tt)

  freed_goes : (m : Move) (u : ℕ) (x : Tab X) (f : Freer X) → f.turn ≡ NoTurn → Goes m u x (Freeing f)
  freed_goes m u x f none = (turn_gone x (Freeing f) none, tt)

  settled_goes : (m : Move) (u : ℕ) (f g : Freer X) (b : Bool) → g.turn ≡ f.turn → Goes m u (Freeing f) (cond b Free (Freeing g))
  settled_goes m u f g true same = gone m u (Freeing f)
  settled_goes m u f g false same = (turn_stays (Freeing f) (Freeing g) same, tt)

  taken_goes : (m : Move) (u : ℕ) (x : Tab X) (a version : ℕ) → Goes m u x (Writing (writer_of a version))
  taken_goes m u x a version = (turn_gone x (Writing (writer_of a version)) refl, ((λ p e. absurd (none_some p e)), (λ h p e z. absurd (not_has h e))))

  reserves_goes : (m : Move) (u : ℕ) (slot : ℕ) (x : Tab X) → Goes m u x (reserves x slot)
  reserves_goes m u slot Free = itself m u Free
  reserves_goes m u slot (Retreating b) = itself m u (Retreating b)
  reserves_goes m u slot (Reading r) = itself m u (Reading r)
  reserves_goes m u slot (Writing w) = same_goes m u w record w { claim = None; reserved = w.reserved ++ slot ∷ [] } refl refl refl
  reserves_goes m u slot (Last b) = itself m u (Last b)
  reserves_goes m u slot (Freeing f) = itself m u (Freeing f)

  searches_goes : (m : Move) (u word n : ℕ) (x : Tab X) → Goes m u x (searches x word n)
  searches_goes m u word n Free = itself m u Free
  searches_goes m u word n (Retreating b) = itself m u (Retreating b)
  searches_goes m u word n (Reading r) = itself m u (Reading r)
  searches_goes m u word n (Writing w) = same_goes m u w record w { claim = goes_past (begun_at w.claim word) (64 * word) n } refl refl refl
  searches_goes m u word n (Last b) = itself m u (Last b)
  searches_goes m u word n (Freeing f) = itself m u (Freeing f)

  misses_goes : (m : Move) (u slot n : ℕ) (x : Tab X) → Goes m u x (misses x slot n)
  misses_goes m u slot n Free = itself m u Free
  misses_goes m u slot n (Retreating b) = itself m u (Retreating b)
  misses_goes m u slot n (Reading r) = itself m u (Reading r)
  misses_goes m u slot n (Writing w) = same_goes m u w record w { claim = goes_past w.claim slot n } refl refl refl
  misses_goes m u slot n (Last b) = itself m u (Last b)
  misses_goes m u slot n (Freeing f) = itself m u (Freeing f)

  owned_goes : (m : Move) (u slot n : ℕ) (hit : Bool) (x : Tab X) → Goes m u x (cond hit (reserves x slot) (misses x slot n))
  owned_goes m u slot n true x = reserves_goes m u slot x
  owned_goes m u slot n false x = misses_goes m u slot n x

  no_turn : (t : TurnOf X) → has_turn t ≡ false → t ≡ NoTurn
  no_turn NoTurn e = refl
  no_turn (Has h) e = absurd (cc)

  gives_back_goes : (m : Move) (u : ℕ) (slot : ℕ) (x : Tab X) → OfWriter (MayGiveBack slot) x ⊎ OfFreer (λ f. Contains f.loose slot) x → Goes m u x (gives_back x slot)
  gives_back_goes m u slot Free may = itself m u Free
  gives_back_goes m u slot (Retreating b) may = itself m u (Retreating b)
  gives_back_goes m u slot (Reading r) may = itself m u (Reading r)
  gives_back_goes m u slot (Writing w) (inl may) = (
    turn_gone (Writing w) (Writing record w { reserved = without slot w.reserved; is_ending = true }) (no_turn w.turn may.2),
    ((λ p e. inl record { writer = w; is = refl; chosen = e; slot_same = refl }), (λ h p e z. absurd (not_has h (sym (no_turn w.turn may.2) ∙ e)))),
  )
  gives_back_goes m u slot (Writing w) (inr may) = absurd may
  gives_back_goes m u slot (Last b) may = itself m u (Last b)
  gives_back_goes m u slot (Freeing f) may = settled_goes m u f record f { loose = without slot f.loose } ((length f.rest == 0) && (length (without slot f.loose) == 0) && not f.is_freeing) refl

  publishes_goes : (m : Move) (u : ℕ) (slot : ℕ) (link : Link) (x : Tab X) → Goes m u x (publishes x slot link)
  publishes_goes m u slot link Free = itself m u Free
  publishes_goes m u slot link (Retreating b) = itself m u (Retreating b)
  publishes_goes m u slot link (Reading r) = itself m u (Reading r)
  publishes_goes m u slot link (Writing w) = (turn_stays (Writing w) (publishes (Writing w) slot link) refl, ((λ p e. absurd (none_some p e)), (λ h p e z. absurd (none_some p z))))
  publishes_goes m u slot link (Last b) = itself m u (Last b)
  publishes_goes m u slot link (Freeing f) = itself m u (Freeing f)

  loosens_goes : (m : Move) (u : ℕ) (slots : List ℕ) (x : Tab X) → Goes m u x (loosens x slots)
  loosens_goes m u slots Free = itself m u Free
  loosens_goes m u slots (Retreating b) = itself m u (Retreating b)
  loosens_goes m u slots (Reading r) = itself m u (Reading r)
  loosens_goes m u slots (Writing w) = itself m u (Writing w)
  loosens_goes m u slots (Last b) = itself m u (Last b)
  loosens_goes m u slots (Freeing f) = (turn_stays (Freeing f) (loosens (Freeing f) slots) refl, tt)

  looks_goes : (m : Move) (u : ℕ) (n : ℕ) (x : Tab X) → Goes m u x (looks x n)
  looks_goes m u n Free = itself m u Free
  looks_goes m u n (Retreating b) = itself m u (Retreating b)
  looks_goes m u n (Reading r) = (turn_stays (Reading r) (looks (Reading r) n) refl, tt)
  looks_goes m u n (Writing w) = itself m u (Writing w)
  looks_goes m u n (Last b) = itself m u (Last b)
  looks_goes m u n (Freeing f) = (turn_stays (Freeing f) (looks (Freeing f) n) refl, tt)

  raised_goes : (m : Move) (u : ℕ) (to : Stage) (n : ℕ) (x : Tab X) → Goes m u x (raised_tab x to n)
  raised_goes m u to n Free = left_goes m u Free 0 (is_left_over n)
  raised_goes m u to n (Retreating b) = left_goes m u (Retreating b) b (is_left_over n)
  raised_goes m u to n (Reading r) = left_goes m u (Reading r) r.anchor (is_left_over n)
  raised_goes m u to n (Last b) = left_goes m u (Last b) b (is_left_over n)
  raised_goes m u to n (Freeing f) = left_goes m u (Freeing f) f.anchor (is_left_over n)
  raised_goes m u Empty n (Writing w) = left_goes m u (Writing w) w.anchor (is_left_over n)
  raised_goes m u Taken n (Writing w) = left_goes m u (Writing w) w.anchor (is_left_over n)
  raised_goes m u Closed n (Writing w) = left_goes m u (Writing w) w.anchor (is_left_over n)
  raised_goes m u Halted n (Writing w) = left_goes m u (Writing w) w.anchor (is_left_over n)
  raised_goes m u FreeingStage n (Writing w) = left_goes m u (Writing w) w.anchor (is_left_over n)
  raised_goes m u Gone n (Writing w) = left_goes m u (Writing w) w.anchor (is_left_over n)
  raised_goes m u Appending n (Writing w) = same_goes m u w record w { is_appending = true } refl refl refl

  loaded_goes : (m : Move) (u : ℕ) (side : Side) (n : ℕ) (x : Tab X) → Goes m u x (loaded x side n)
  loaded_goes m u side n Free = itself m u Free
  loaded_goes m u side n (Retreating b) = itself m u (Retreating b)
  loaded_goes m u side n (Last b) = itself m u (Last b)
  loaded_goes m u side n (Freeing f) = itself m u (Freeing f)
  loaded_goes m u side n (Writing w) = itself m u (Writing w)
  loaded_goes m u Key0 n (Reading r) = itself m u (Reading r)
  loaded_goes m u Key1 n (Reading r) = itself m u (Reading r)
  loaded_goes m u Offer n (Reading r) = itself m u (Reading r)
  loaded_goes m u Start n (Reading r) = (turn_stays (Reading r) (loaded (Reading r) Start n) refl, tt)

  stores_goes : (m : Move) (u : ℕ) (side : Side) (value : ℕ) (x : Tab X) → Goes m u x (stores x side value)
  stores_goes m u side value Free = itself m u Free
  stores_goes m u side value (Retreating b) = itself m u (Retreating b)
  stores_goes m u side value (Reading r) = itself m u (Reading r)
  stores_goes m u side value (Last b) = itself m u (Last b)
  stores_goes m u side value (Freeing f) = itself m u (Freeing f)
  stores_goes m u Key0 value (Writing w) = same_goes m u w record w { key0 = Some value } refl refl refl
  stores_goes m u Key1 value (Writing w) = same_goes m u w record w { key1 = Some value } refl refl refl
  stores_goes m u Offer value (Writing w) = same_goes m u w record w { offer = Some value } refl refl refl
  stores_goes m u Start value (Writing w) = same_goes m u w record w { start = Some value } refl refl refl

  -- To end a turn, and to move its cell.
  ends_goes : (m : Move) (u : ℕ) (then : Then) (x : Tab X) → Goes m u x (ends x then)
  ends_goes m u then Free = itself m u Free
  ends_goes m u then (Retreating b) = itself m u (Retreating b)
  ends_goes m u Stays (Reading r) = (turn_gone (Reading r) (ends (Reading r) Stays) refl, tt)
  ends_goes m u GoesOn (Reading r) = (turn_gone (Reading r) (ends (Reading r) GoesOn) refl, tt)
  ends_goes m u Wiped (Reading r) = (turn_gone (Reading r) (ends (Reading r) Wiped) refl, tt)
  ends_goes m u then (Writing w) = (
    turn_gone (Writing w) (ends (Writing w) then) refl,
    ((λ p e. inl record { writer = w; is = refl; chosen = e; slot_same = refl }), (λ h p e z. absurd (not_has h e))),
  )
  ends_goes m u then (Last b) = itself m u (Last b)
  ends_goes m u then (Freeing f) = (turn_gone (Freeing f) (ends (Freeing f) then) refl, tt)

  -- a turn whose cell is out or in its place
  moved_was : (old : Tab X) (t : TurnOf X) → turn_of old ≡ t → (out : Bool) (h : Hold X) → moved t out ≡ Has h → HoldWas old h
  moved_was old NoTurn e out h q = absurd (not_has h q)
  moved_was old (Has g) e out h q = let same = one_hold (record g { is_out = out }) h q in
      record { hold = g; turn = e; slot_is = ap Hold.slot same; possible = λ x c. inl (subst (λ (z : Hold X). Contains z.cell.possible x) (sym same) c) }

  moves_goes : (m : Move) (u : ℕ) (out : Bool) (x : Tab X) → Goes m u x (moves x out)
  moves_goes m u out Free = itself m u Free
  moves_goes m u out (Retreating b) = itself m u (Retreating b)
  moves_goes m u out (Reading r) = ((λ h e. inl (moved_was (Reading r) r.turn refl out h e)), tt)
  moves_goes m u out (Writing w) = (
    (λ h e. inl (moved_was (Writing w) w.turn refl out h e)),
    (
      (λ p e. inl record { writer = w; is = refl; chosen = e; slot_same = refl }),
      (λ h p e z. let was = moved_was (Writing w) w.turn refl out h e in inl record { writer = w; is = refl; hold = was.hold; turn = was.turn; same = was.slot_is; slot_same = refl }),
    ),
  )
  moves_goes m u out (Last b) = itself m u (Last b)
  moves_goes m u out (Freeing f) = ((λ h e. inl (moved_was (Freeing f) f.turn refl out h e)), tt)

  -- To write the cell, and to sync it.

  -- each content that may be left afterwards could be left before, or is the one that a read gave, or what was written
  abbrev AddsTo : Cell X → Option X → Cell X → Type 0
  AddsTo c content d = (x : X) → Contains d.possible x → Contains c.possible x ⊎ ((x ≡ c.now) ⊎ (content ≡ Some x))

  adds_none : (c : Cell X) (content : Option X) → AddsTo c content c
  adds_none c content x h = inl h

  adds_one : (c : Cell X) (y : X) (now : X) → AddsTo c (Some y) record { now = now; possible = y ∷ c.possible }
  adds_one c y now x h = ⊎_elim (λ (q : y ≡ x). inr (inr (ap Some q))) (λ (q : Contains c.possible x). inl q) (cons_contains y x c.possible h)

  written_adds : (c : Cell X) (outcome : Outcome) (y : X) → AddsTo c (Some y) (written_cell c outcome y)
  written_adds c Nothing y = adds_none c (Some y)
  written_adds c Kept y = adds_one c y y
  written_adds c Unsure y = adds_one c y c.now
  written_adds c KeptUnsure y = adds_one c y y

  abbrev AddsIn : Cell X → Option X → Option (Cell X) → Type 0
  AddsIn c content (Some d) = AddsTo c content d
  AddsIn c content None = Unit {0}

  wrote_adds : (c : Cell X) (outcome : Outcome) (content : Option X) → AddsIn c content (wrote (Some c) outcome content)
  wrote_adds c outcome None = adds_none c None
  wrote_adds c outcome (Some y) = written_adds c outcome y

  synced_adds : (c : Cell X) (kept : Bool) (content : Option X) → AddsIn c content (synced (Some c) kept)
  synced_adds c true content = λ x h. ⊎_elim (λ (q : c.now ≡ x). inr (inl (sym q))) (λ (q : Contains [] x). absurd (contains_none x q)) (cons_contains c.now x [] h)
  synced_adds c false content = adds_none c content

  rewritten_was : (old : Tab X) (kept settled : Bool) (f : Option (Cell X) → Option (Cell X)) → ((c : Cell X) → AddsIn c (chosen_content k old) (f (Some c)))
      → (t : TurnOf X) → turn_of old ≡ t → (h : Hold X) → rewritten t kept settled (f (cell_held t)) ≡ Has h → HoldWas old h
  rewritten_was old kept settled f adds NoTurn e h q = absurd (not_has h q)
  rewritten_was old kept settled f adds (Has g) e h q = of_cell (f (Some g.cell)) (adds g.cell) q
    where
      of_cell : (d : Option (Cell X)) → AddsIn g.cell (chosen_content k old) d
          → ◌≡◌ {A = TurnOf X} (Has record g { cell = unwrap_or d g.cell; is_written = g.is_written || kept; is_settled = settled }) (Has h) → HoldWas old h
      of_cell (Some d) more q = let same = one_hold (record g { cell = d; is_written = g.is_written || kept; is_settled = settled }) h q in
          record { hold = g; turn = e; slot_is = ap Hold.slot same; possible = λ x c. more x (subst (λ (z : Hold X). Contains z.cell.possible x) (sym same) c) }
      of_cell None more q = let same = one_hold (record g { cell = g.cell; is_written = g.is_written || kept; is_settled = settled }) h q in
          record { hold = g; turn = e; slot_is = ap Hold.slot same; possible = λ x c. inl (subst (λ (z : Hold X). Contains z.cell.possible x) (sym same) c) }

  rewrites_goes : (m : Move) (u : ℕ) (kept settled : Bool) (f : Option X → Option (Cell X) → Option (Cell X)) → ((c : Cell X) (content : Option X) → AddsIn c content (f content (Some c)))
      → (x : Tab X) → Goes m u x (rewrites x kept settled (f (chosen_content k x) (cell_held (turn_of x))))
  rewrites_goes m u kept settled f adds Free = itself m u Free
  rewrites_goes m u kept settled f adds (Retreating b) = itself m u (Retreating b)
  rewrites_goes m u kept settled f adds (Reading r) = itself m u (Reading r)
  rewrites_goes m u kept settled f adds (Writing w) = (
    (λ h e. inl (rewritten_was (Writing w) kept settled (f (map_some k.image w.chosen)) (λ c. adds c (map_some k.image w.chosen)) w.turn refl h e)),
    (
      (λ p e. inl record { writer = w; is = refl; chosen = e; slot_same = refl }),
      (λ h p e z. let was = rewritten_was (Writing w) kept settled (f (map_some k.image w.chosen)) (λ c. adds c (map_some k.image w.chosen)) w.turn refl h e in inl record { writer = w; is = refl; hold = was.hold; turn = was.turn; same = was.slot_is; slot_same = refl }),
    ),
  )
  rewrites_goes m u kept settled f adds (Last b) = itself m u (Last b)
  rewrites_goes m u kept settled f adds (Freeing g) = ((λ h e. inl (rewritten_was (Freeing g) kept settled (f (Some k.blank)) (λ c. adds c (Some k.blank)) g.turn refl h e)), tt)

  -- To try for a turn.

  turn_home : (slot : ℕ) (c : Option (Cell X)) → get_or s.places slot None ≡ c → (h : Hold X) → turn_with slot c ≡ Has h → WasHome h
  turn_home slot None e h q = absurd (not_has h q)
  turn_home slot (Some c) e h q = let same = one_hold (record { slot = slot; cell = c; is_out = false; is_written = false; is_settled = false }) h q in
      subst (λ (z : Hold X). get_or s.places z.slot None ≡ Some z.cell) same e

  tried_turn : (old : Tab X) (slot : ℕ) (hit : Bool) (h : Hold X) → cond hit (turn_with slot (get_or s.places slot None)) (turn_of old) ≡ Has h → HoldWas old h ⊎ WasHome h
  tried_turn old slot true h q = inr (turn_home slot (get_or s.places slot None) refl h q)
  tried_turn old slot false h q = turn_stays old old refl h q

  held_there : (slot : ℕ) (c : Option (Cell X)) (h : Hold X) → turn_with slot c ≡ Has h → slot ≡ h.slot
  held_there slot None h q = absurd (not_has h q)
  held_there slot (Some c) h q = ap Hold.slot (one_hold (record { slot = slot; cell = c; is_out = false; is_written = false; is_settled = false }) h q)

  tries_goes : (u slot n : ℕ) (x : Tab X) → OfReader (MayRead s slot) x ⊎ OfWriter (MayWrite slot) x ⊎ OfFreer (MayWipe slot) x → Goes (TryTurn u slot) u x (tries x slot n (get_or s.places slot None))
  tries_goes u slot n Free may = itself (TryTurn u slot) u Free
  tries_goes u slot n (Retreating b) may = itself (TryTurn u slot) u (Retreating b)
  tries_goes u slot n (Last b) may = itself (TryTurn u slot) u (Last b)
  tries_goes u slot n (Freeing f) may = ((λ h e. tried_turn (Freeing f) slot (n == 0) h e), tt)
  tries_goes u slot n (Reading r) may = ((λ h e. tried_turn (Reading r) slot (n == 0) h e), tt)
  tries_goes u slot n (Writing w) (inl may) = absurd may
  tries_goes u slot n (Writing w) (inr (inr may)) = absurd may
  tries_goes u slot n (Writing w) (inr (inl may)) = (
    (λ h e. tried_turn (Writing w) slot (n == 0) h e),
    ((λ p e. inl record { writer = w; is = refl; chosen = e; slot_same = refl }), (λ h p e z. by_try (n == 0) h e)),
  )
    where
      by_try : (hit : Bool) (h : Hold X) → cond hit (turn_with slot (get_or s.places slot None)) w.turn ≡ Has h
          → TurnWas (Writing w) (record w { is_written = cond (n == 0) false w.is_written; is_settled = cond (n == 0) false w.is_settled; turn = cond (n == 0) (turn_with slot (get_or s.places slot None)) w.turn }) h ⊎ ((w.logged_in ≡ Some h.slot) ⊎ TurnUnlogged (Writing w) h)
      by_try true h q = inr (inl (may.logged ∙ ap Some (held_there slot (get_or s.places slot None) h q)))
      by_try false h q = inl record { writer = w; is = refl; hold = h; turn = q; same = refl; slot_same = refl }

  -- To log a piece.

  one_piece : (p q : Piece) → Some p ≡ Some q → p ≡ q
  one_piece p q e = ap (λ z. unwrap_or z p) e

  logs_goes : (u slot : ℕ) (is_durable : Bool) (x : Tab X) → OfWriter (MayLog slot) x → Goes (LogPiece u slot is_durable) u x (logs x slot is_durable)
  logs_goes u slot is_durable Free may = absurd may
  logs_goes u slot is_durable (Retreating b) may = absurd may
  logs_goes u slot is_durable (Reading r) may = absurd may
  logs_goes u slot is_durable (Last b) may = absurd may
  logs_goes u slot is_durable (Freeing f) may = absurd may
  logs_goes u slot is_durable (Writing w) may = (
    turn_stays (Writing w) (logs (Writing w) slot is_durable) refl,
    (
      (λ p e. inr record { writer = w; is = refl; slot = slot; is_durable = is_durable; logs_it = refl; slot_is = refl; piece = sym (one_piece (piece_of w) p e) }),
      (λ h p e z. inr (inr record { writer = w; is = refl; none = may.none; turn = e })),
    ),
  )

  module _ (v : View X) where
    abbrev AllGo : Move → List (Tab X) → Type 0
    AllGo m tabs = (u : ℕ) (x : Tab X) → get_elem? tabs u ≡ some x → Goes m u (tab_at v u) x

    untouched : (m : Move) → AllGo m v.tabs
    untouched m u x e = subst (λ (y : Tab X). Goes m u y x) (sym (at_or v.tabs u x Free e)) (itself m u x)

    one : (m : Move) (tabs : List (Tab X)) → AllGo m tabs → (t : ℕ) (y : Tab X) → Goes m t (tab_at v t) y → AllGo m (set tabs t y)
    one m tabs g t y h u x e = ⊎_elim
        (λ (q : (u ≡ t) × (y ≡ x)). subst (λ (z : ℕ). Goes m z (tab_at v z) x) (sym q.0) (subst (Goes m t (tab_at v t)) q.1 h))
        (λ (q : (u ≢ t) × (get_elem? tabs u ≡ some x)). g u x q.1)
        (at_set tabs t u y x e)

    either : (m : Move) (b : Bool) (xs ys : List (Tab X)) → AllGo m xs → AllGo m ys → AllGo m (cond b xs ys)
    either m true xs ys g h = g
    either m false xs ys g h = h

    pub tabs_go : (m : Move) → Allowed k s v m → AllGo m (tabs_after v m (finding k s v m))
    tabs_go (Look a) may = untouched (Look a)
    tabs_go (Enter t a) may = one (Enter t a) v.tabs (untouched (Enter t a)) t (entered a (epoch_of (word s a))) (entered_goes (Enter t a) t (tab_at v t) a (epoch_of (word s a)) (is_readable (epoch_of (word s a))))
    tabs_go (Leave t) may = one (Leave t) v.tabs (untouched (Leave t)) t (left_tab (anchor_of (tab_at v t)) (word s (anchor_of (tab_at v t)) - 1)) (left_goes (Leave t) t (tab_at v t) (anchor_of (tab_at v t)) (is_left_over (word s (anchor_of (tab_at v t)) - 1)))
    tabs_go Count may = untouched Count
    tabs_go Draw may = untouched Draw
    tabs_go (Take t a u) may = either (Take t a u) (word s a == last_find a v.trail) (taken_tabs v t a u (finding k s v (Take t a u))) v.tabs
        (one (Take t a u) (cond (is_idle (word s a)) (set v.tabs inner (Freeing (freer_of a false (word s a) (chain_of s a)))) v.tabs)
        (either (Take t a u) (is_idle (word s a)) (set v.tabs inner (Freeing (freer_of a false (word s a) (chain_of s a)))) v.tabs
        (one (Take t a u) v.tabs (untouched (Take t a u)) inner (Freeing (freer_of a false (word s a) (chain_of s a))) (freed_goes (Take t a u) inner (tab_at v inner) (freer_of a false (word s a) (chain_of s a)) refl)) (untouched (Take t a u)))
        t (Writing (writer_of a u)) (taken_goes (Take t a u) t (tab_at v t) a u))
        (untouched (Take t a u))
    tabs_go (Evict t a) may = either (Evict t a) (word s a == last_find a v.trail) (evicted_tabs v t a (finding k s v (Evict t a))) (set v.tabs t Free)
        (one (Evict t a) (set v.tabs t Free) (one (Evict t a) v.tabs (untouched (Evict t a)) t Free (gone (Evict t a) t (tab_at v t))) inner (Freeing (freer_of a true (word s a) (chain_of s a))) (freed_goes (Evict t a) inner (tab_at v inner) (freer_of a true (word s a) (chain_of s a)) refl))
        (one (Evict t a) v.tabs (untouched (Evict t a)) t Free (gone (Evict t a) t (tab_at v t)))
    tabs_go (Raise t to) may = one (Raise t to) v.tabs (untouched (Raise t to)) t (raised_tab (tab_at v t) to (left_by v (Raise t to) (word s (anchor_of (tab_at v t))))) (raised_goes (Raise t to) t to (left_by v (Raise t to) (word s (anchor_of (tab_at v t)))) (tab_at v t))
    tabs_go (Doom t) may = untouched (Doom t)
    tabs_go (LoadSide t side) may = one (LoadSide t side) v.tabs (untouched (LoadSide t side)) t (loaded (tab_at v t) side (number_found k s v (LoadSide t side))) (loaded_goes (LoadSide t side) t side (number_found k s v (LoadSide t side)) (tab_at v t))
    tabs_go (StoreSide t side value) may = one (StoreSide t side value) v.tabs (untouched (StoreSide t side value)) t (stores (tab_at v t) side value) (stores_goes (StoreSide t side value) t side value (tab_at v t))
    tabs_go (Own t slot) may = let n : ℕ = number_found k s v (Own t slot) in one (Own t slot) v.tabs (untouched (Own t slot)) t (cond (taken_in n slot == 0) (reserves (tab_at v t) slot) (misses (tab_at v t) slot n)) (owned_goes (Own t slot) t slot n (taken_in n slot == 0) (tab_at v t))
    tabs_go (LookMap t word) may = one (LookMap t word) v.tabs (untouched (LookMap t word)) t (searches (tab_at v t) word (number_found k s v (LookMap t word))) (searches_goes (LookMap t word) t word (number_found k s v (LookMap t word)) (tab_at v t))
    tabs_go (LogPiece t slot is_durable) may = one (LogPiece t slot is_durable) v.tabs (untouched (LogPiece t slot is_durable)) t (logs (tab_at v t) slot is_durable) (logs_goes t slot is_durable (tab_at v t) may.1)
    tabs_go (Disown t slot) may = one (Disown t slot) v.tabs (untouched (Disown t slot)) t (gives_back (tab_at v t) slot) (gives_back_goes (Disown t slot) t slot (tab_at v t) may.1)
    tabs_go (Publish t slot link) may = one (Publish t slot link) v.tabs (untouched (Publish t slot link)) t (publishes (tab_at v t) slot link) (publishes_goes (Publish t slot link) t slot link (tab_at v t))
    tabs_go (Loosen t slot) may = either (Loosen t slot) (t == inner) (set v.tabs inner (loosens (tab_at v inner) (slot ∷ []))) (set (set v.tabs inner (loosens (tab_at v inner) [])) t (reserves (tab_at v t) slot))
        (one (Loosen t slot) v.tabs (untouched (Loosen t slot)) inner (loosens (tab_at v inner) (slot ∷ [])) (loosens_goes (Loosen t slot) inner (slot ∷ []) (tab_at v inner)))
        (one (Loosen t slot) (set v.tabs inner (loosens (tab_at v inner) [])) (one (Loosen t slot) v.tabs (untouched (Loosen t slot)) inner (loosens (tab_at v inner) []) (loosens_goes (Loosen t slot) inner [] (tab_at v inner)))
        t (reserves (tab_at v t) slot) (reserves_goes (Loosen t slot) t slot (tab_at v t)))
    tabs_go (GetLink t slot) may = one (GetLink t slot) v.tabs (untouched (GetLink t slot)) t (looks (tab_at v t) (number_found k s v (GetLink t slot))) (looks_goes (GetLink t slot) t (number_found k s v (GetLink t slot)) (tab_at v t))
    tabs_go (TryTurn t slot) may = one (TryTurn t slot) v.tabs (untouched (TryTurn t slot)) t (tries (tab_at v t) slot (number_found k s v (TryTurn t slot)) (get_or s.places slot None)) (tries_goes t slot (number_found k s v (TryTurn t slot)) (tab_at v t) may.2)
    tabs_go (EndTurn t slot then) may = one (EndTurn t slot then) v.tabs (untouched (EndTurn t slot then)) t (ends (tab_at v t) then) (ends_goes (EndTurn t slot then) t then (tab_at v t))
    tabs_go (CellOut t slot) may = one (CellOut t slot) v.tabs (untouched (CellOut t slot)) t (moves (tab_at v t) true) (moves_goes (CellOut t slot) t true (tab_at v t))
    tabs_go (CellIn t slot) may = one (CellIn t slot) v.tabs (untouched (CellIn t slot)) t (moves (tab_at v t) false) (moves_goes (CellIn t slot) t false (tab_at v t))
    tabs_go Note may = untouched Note
    tabs_go (Learn note) may = untouched (Learn note)
    tabs_go (Write t slot outcome) may = one (Write t slot outcome) v.tabs (untouched (Write t slot outcome)) t (rewrites (tab_at v t) (is_kept outcome) (settled_by_write (tab_at v t) outcome) (cell_found k s v (Write t slot outcome)))
        (rewrites_goes (Write t slot outcome) t (is_kept outcome) (settled_by_write (tab_at v t) outcome) (λ content c. wrote c outcome content) (λ c content. wrote_adds c outcome content) (tab_at v t))
    tabs_go (Sync t slot kept) may = one (Sync t slot kept) v.tabs (untouched (Sync t slot kept)) t (rewrites (tab_at v t) false (settled_by_sync (tab_at v t) kept) (cell_found k s v (Sync t slot kept)))
        (rewrites_goes (Sync t slot kept) t false (settled_by_sync (tab_at v t) kept) (λ content c. synced c kept) (λ c content. synced_adds c kept content) (tab_at v t))
