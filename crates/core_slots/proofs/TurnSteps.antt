-- Steps on the turns at cells, as they are worked out.
use Rattle.std.proofs.Common.{◌≡◌, ◌⊎◌, inl, inr, ⊎_elim, ◌<◌, ◌==◌, ℕ, List, Option, Some, None, Bool, true, false, cond, length, length-set, get_or, set, refl, sym, ap, ◌∙◌, subst, arith, ◌++◌, []}
use Rattle.std.specs.Prelude.{slice_get, slice_index}
use Rattle.std.proofs.lemmas.List.{get_or-set_same, set-get_or}
use Rattle.std.proofs.lemmas.Option.{slice_get_within}
use Rattle.std.specs.Option.{option_to_list}
use Rattle.core_model.specs.declared.view.Sight.{Sight}
use Rattle.core_model.specs.declared.tab.Freer.{Freer}
use Rattle.core_model.specs.declared.adding.Addition.{Addition}
use Rattle.core_model.specs.declared.moves.Move.TheVariants as move
use Rattle.core_model.specs.declared.moves.Then.{Then}
use Rattle.core_model.specs.declared.moves.Then.TheVariants.{GoesOn, Stays, Wiped}
use Rattle.core_model.specs.declared.tab.Cell.{Cell}
use Rattle.core_model.specs.declared.tab.Reader.{Reader}
use Rattle.core_model.specs.declared.tab.Tab.{Tab}
use Rattle.core_model.specs.declared.tab.Tab.TheVariants.{Free, Retreating, Reading, Writing, Last, Freeing}
use Rattle.core_model.specs.declared.tab.Turn.TheVariants.{NoTurn}
use Rattle.core_model.specs.declared.tab.Writer.{Writer}
use Rattle.core_model.specs.declared.view.Kind.TheVariants as kind
use Rattle.core_model.specs.declared.view.Place.TheVariants.{Turn}
use Rattle.core_model.specs.declared.view.View.{View}
use Rattle.core_model.specs.Cells.{CellsSound, TurnFits}
use Rattle.core_model.specs.Layout.{index}
use Rattle.core_model.specs.Tabs.{tab_at, holds_turn, OfReader, OfWriter, OfFreer}
use Rattle.core_model.specs.CellMoves.{EndsSo, MayRead, MayWrite, Holds, turn_with, tries, ends, MayWipe, wiped_by, news_of, all_seen}
use Rattle.core_change.specs.declared.change.ChainChange.TheVariants as chains
use Rattle.core_change.specs.declared.change.Change.{Change}
use Rattle.core_change.specs.declared.change.NotesChange.TheVariants as notes
use Rattle.core_change.specs.declared.change.TabsChange.{TabsChange}
use Rattle.core_change.specs.declared.change.TabsChange.TheVariants as tabs
use Rattle.core_table.specs.declared.content.Content.{Content}
use Rattle.core_change.specs.declared.tab_change.TabChange.{TabChange}
use Rattle.core_change.specs.declared.tab_change.TabChange.TheVariants.{Leaves}
use Rattle.core_table.specs.declared.opening.Opening.{Opening}
use Rattle.core_change.specs.declared.table.Table.{Table}
use Rattle.core_change.specs.declared.turn_change.TurnChange.{TurnChange}
use Rattle.core_change.specs.declared.turn_change.TurnChange.TheVariants as turns
use Rattle.core_change.specs.Changed.{word_addition, turned_view, tabs_changed, FitsTabs}
use Rattle.core_table.specs.Inside.{setting}
use Rattle.core_change.specs.Inside.{state}
use Rattle.core_change.specs.Planned.{IsScene, Plans}
use Rattle.core_change.specs.Tabs.{changed_tab}
use Rattle.core_slots.specs.Trying.{MayTry, tried_turn, tried_tabs, ended_tabs, ended_sight}
use Rattle.core_change.specs.Turns.{with_turn, turned, places_changed, FitsTurn}
use Rattle.core_change.proofs.Facts.{below, tab_is}
use Rattle.core_slots.proofs.LinkSteps.{slot_inside}
use Rattle.core_table.proofs.Lists.{at_slice, set_twice}
use Rattle.core_slots.proofs.Reserved.{slot_there}
use Rattle.core_change.proofs.Slots.{place_few}

-- A tab that changes in its turn, and then in part.

turned_then : (tabs : List (Tab Content)) (t : ℕ) (y : Tab Content) (c : TabChange) → t < length tabs → set (set tabs t y) t (changed_tab (get_or (set tabs t y) t Free) c) ≡ set tabs t (changed_tab y c)
turned_then tabs t y c lt = set_twice tabs t y _ ∙ ap (λ (z : Tab Content). set tabs t (changed_tab z c)) (get_or-set_same tabs t y Free lt)

same_length : (tabs : List (Tab Content)) (places : List (Option (Cell Content))) (c : TurnChange) → length (turned tabs places c) ≡ length tabs
same_length tabs places turns.Same = refl
same_length tabs places (turns.Taken t slot) = length-set tabs t _
same_length tabs places (turns.Ended t slot) = length-set tabs t _

-- A tab that tries. Its turn word told 0, or not.

module _ (v : View Content) (places : List (Option (Cell Content))) (t slot : ℕ) (lt : t < length v.tabs) where
  abbrev cell : Option (Cell Content)
  cell = get_or places slot None

  abbrev turn : Bool → TurnChange
  turn won = cond won (turns.Taken t slot) turns.Same

  tried_places : (won : Bool) → places_changed v.tabs places (turn won) ≡ cond won (set places slot None) places
  tried_places true = refl
  tried_places false = refl

  tried_fits : slot < length places → (won : Bool) → FitsTurn (length v.tabs) (length places) (turn won)
  tried_fits inside true = (lt, inside)
  tried_fits inside false = tt

  tried_reader : (r : Reader Content) → tab_at v t ≡ Reading r → (won : Bool) → turned v.tabs places (turn won) ≡ set v.tabs t (Reading record r { turn = cond won (turn_with slot cell) r.turn })
  tried_reader r is true = ap (λ (y : Tab Content). set v.tabs t (with_turn y (turn_with slot cell))) is
  tried_reader r is false = sym (set-get_or v.tabs t Free) ∙ ap (λ (y : Tab Content). set v.tabs t y) is

  tried_freer : (f : Freer Content) → tab_at v t ≡ Freeing f → (won : Bool) → turned v.tabs places (turn won) ≡ set v.tabs t (Freeing record f { turn = cond won (turn_with slot cell) f.turn })
  tried_freer f is true = ap (λ (y : Tab Content). set v.tabs t (with_turn y (turn_with slot cell))) is
  tried_freer f is false = sym (set-get_or v.tabs t Free) ∙ ap (λ (y : Tab Content). set v.tabs t y) is

  tried_writer : (w : Writer Content) → tab_at v t ≡ Writing w → (won : Bool)
      → tabs_changed (turned_view v places (turn won)) (tabs.Becomes t (Leaves (cond won false w.is_written) (cond won false w.is_settled)))
      ≡ set v.tabs t (Writing record w { is_written = cond won false w.is_written; is_settled = cond won false w.is_settled; turn = cond won (turn_with slot cell) w.turn })
  tried_writer w is true =
      turned_then v.tabs t (with_turn (tab_at v t) (turn_with slot cell)) (Leaves false false) lt
      ∙ ap (λ (y : Tab Content). set v.tabs t (changed_tab (with_turn y (turn_with slot cell)) (Leaves false false))) is
  tried_writer w is false = ap (λ (y : Tab Content). set v.tabs t (changed_tab y (Leaves w.is_written w.is_settled))) is

  tried_by : (s : _) (x : Tab Content) (n : ℕ) → tab_at v t ≡ x → MayTry s slot x → tabs_changed (turned_view v places (turn (n == 0))) (tried_tabs t x n) ≡ set v.tabs t (tries x slot n cell)
  tried_by s (Reading r) n is may = tried_reader r is (n == 0)
  tried_by s (Writing w) n is may = tried_writer w is (n == 0)
  tried_by s Free n is may = absurd (⊎_elim (λ (z : ⊥). z) (⊎_elim (λ (z : ⊥). z) (λ (z : ⊥). z)) may.1)
  tried_by s (Retreating a) n is may = absurd (⊎_elim (λ (z : ⊥). z) (⊎_elim (λ (z : ⊥). z) (λ (z : ⊥). z)) may.1)
  tried_by s (Last a) n is may = absurd (⊎_elim (λ (z : ⊥). z) (⊎_elim (λ (z : ⊥). z) (λ (z : ⊥). z)) may.1)
  tried_by s (Freeing f) n is may = tried_freer f is (n == 0)

  tabs_fit : (x : Tab Content) (n : ℕ) (c : TurnChange) → FitsTabs (turned_view v places c) (tried_tabs t x n)
  tabs_fit (Writing w) n c = let same = same_length v.tabs places c in omega (arith, same, lt)
  tabs_fit Free n c = tt
  tabs_fit (Retreating a) n c = tt
  tabs_fit (Reading r) n c = tt
  tabs_fit (Last a) n c = tt
  tabs_fit (Freeing f) n c = tt

  -- A tab that ends its turn.

  then_changed : (x : Tab Content) (c : TabChange) → tab_at v t ≡ x → tabs_changed (turned_view v places (turns.Ended t slot)) (tabs.Becomes t c) ≡ set v.tabs t (changed_tab (with_turn x NoTurn) c)
  then_changed x c is = turned_then v.tabs t (with_turn (tab_at v t) NoTurn) c lt ∙ ap (λ (y : Tab Content). set v.tabs t (changed_tab (with_turn y NoTurn) c)) is

  then_same : (x : Tab Content) → tab_at v t ≡ x → set v.tabs t (with_turn (tab_at v t) NoTurn) ≡ set v.tabs t (with_turn x NoTurn)
  then_same x is = ap (λ (y : Tab Content). set v.tabs t (with_turn y NoTurn)) is

  ended_by : (x : Tab Content) (then : Then) → tab_at v t ≡ x → tabs_changed (turned_view v places (turns.Ended t slot)) (ended_tabs t x then) ≡ set v.tabs t (ends x then)
  ended_by (Reading r) GoesOn is = then_changed (Reading r) _ is
  ended_by (Reading r) Stays is = then_same (Reading r) is
  ended_by (Reading r) Wiped is = then_same (Reading r) is
  ended_by (Writing w) then is = then_changed (Writing w) _ is
  ended_by Free then is = then_same Free is
  ended_by (Retreating a) then is = then_same (Retreating a) is
  ended_by (Last a) then is = then_same (Last a) is
  ended_by (Freeing f) then is = then_same (Freeing f) is

  ended_fit : (x : Tab Content) (then : Then) → FitsTabs (turned_view v places (turns.Ended t slot)) (ended_tabs t x then)
  ended_fit (Reading r) GoesOn = let same = same_length v.tabs places (turns.Ended t slot) in omega (arith, same, lt)
  ended_fit (Reading r) Stays = tt
  ended_fit (Reading r) Wiped = tt
  ended_fit (Writing w) then = let same = same_length v.tabs places (turns.Ended t slot) in omega (arith, same, lt)
  ended_fit Free then = tt
  ended_fit (Retreating a) then = tt
  ended_fit (Last a) then = tt
  ended_fit (Freeing f) then = tt

module _ (o : Opening) (t : Table) (v : View Content) (scene : IsScene o t v) (at slot : ℕ) (x : Tab Content) (there : slice_get v.tabs at ≡ Some x) where
  lt : at < length v.tabs
  lt = slice_get_within v.tabs at x there

  is : tab_at v at ≡ x
  is = tab_is o t v scene at x there

  -- the number that the turn word of the slot has
  abbrev turn_found : ℕ
  turn_found = slice_index t.words.items (index (setting o) (Turn slot))

  abbrev turn_change : ℕ → ℕ → ℕ → TurnChange → TabsChange → Addition → Change
  turn_change n word left turn change base = record {
    answer = n;
    word = Some record { index = word; left = left };
    turn = turn;
    tabs = change;
    chain = chains.Same;
    used = None;
    addition = base;
    notes = notes.Same;
  }

  -- what the pass learns, where the turn word told this number, and an addition with that
  abbrev news : ℕ → List Sight
  news n = cond (n == 0) (news_of slot v.seen (all_seen t.views.items)) []

  abbrev learning : Addition → List Sight → Addition
  learning base learned = record base { learned = Some learned }

  turn_there : slot < o.slots → index (setting o) (Turn slot) < length t.words.items
  turn_there inside = let n = scene.sound.shaped.words in omega arith

  place_there : slot < o.slots → slot < length t.places.items
  place_there inside = let many = scene.sound.shaped.places in omega arith

  module _ (may : MayTry (state t) slot x) where
    -- the slot is one of the table
    pub try_inside : slot < o.slots
    try_inside = by_tab x there may.1
      where
        by_tab : (y : Tab Content) → slice_get v.tabs at ≡ Some y → OfReader (MayRead (state t) slot) y ⊎ OfWriter (MayWrite slot) y ⊎ OfFreer (MayWipe slot) y → slot < o.slots
        by_tab (Reading r) was (inl read) = slot_inside o t v scene at (Reading r) was slot (inl read.0)
        by_tab (Reading r) was (inr h) = absurd (⊎_elim (λ (z : ⊥). z) (λ (z : ⊥). z) h)
        by_tab (Writing w) was (inl h) = absurd h
        by_tab (Writing w) was (inr (inl write)) = slot_there o t v scene at slot w was write.first
        by_tab (Writing w) was (inr (inr h)) = absurd h
        by_tab (Freeing f) was (inl h) = absurd h
        by_tab (Freeing f) was (inr (inl h)) = absurd h
        by_tab (Freeing f) was (inr (inr wipe)) = slot_inside o t v scene at (Freeing f) was slot (inr wipe.front)
        by_tab Free was h = absurd (⊎_elim (λ (z : ⊥). z) (⊎_elim (λ (z : ⊥). z) (λ (z : ⊥). z)) h)
        by_tab (Retreating a) was h = absurd (⊎_elim (λ (z : ⊥). z) (⊎_elim (λ (z : ⊥). z) (λ (z : ⊥). z)) h)
        by_tab (Last a) was h = absurd (⊎_elim (λ (z : ⊥). z) (⊎_elim (λ (z : ⊥). z) (λ (z : ⊥). z)) h)

    tried : Plans o t v (move.TryTurn at slot)
        (turn_change turn_found (index (setting o) (Turn slot)) (cond (turn_found == 0) 1 turn_found) (tried_turn at slot turn_found) (tried_tabs at x turn_found)
        (learning (word_addition kind.Tried (Turn slot) slot turn_found (cond (turn_found == 0) 1 turn_found) None) (news turn_found)))
    tried = record {
      allowed = (below o t v scene at x there, subst (λ (y : Tab Content). holds_turn y ≡ false) (sym is) may.0, subst (λ (y : Tab Content). OfReader (MayRead (state t) slot) y ⊎ OfWriter (MayWrite slot) y ⊎ OfFreer (MayWipe slot) y) (sym is) may.1);
      answers = refl;
      matches = record {
        words = refl;
        places = tried_places v t.places.items at slot lt (turn_found == 0);
        views = λ i. refl;
        tabs = tried_by v t.places.items at slot lt (state t) x turn_found is may ∙ sym (ap (λ (y : Tab Content). set v.tabs at (tries y slot turn_found (get_or t.places.items slot None))) is);
        held = refl;
        seen = refl;
        trail = refl;
        mirror = refl;
        deeds = refl;
        met = refl;
        chains = refl;
      };
      word = turn_there try_inside;
      turn = tried_fits v t.places.items at slot lt (place_there try_inside) (turn_found == 0);
      tabs = tabs_fit v t.places.items at slot lt x turn_found (tried_turn at slot turn_found);
      chain = tt;
    }

    module _ (word n : ℕ) (word_is : word ≡ index (setting o) (Turn slot)) where
      pub try_there : word < length t.words.items
      try_there = let h = turn_there try_inside in omega (arith, h, word_is)

      pub try_planned : (left : ℕ) (learned : List Sight) (turn : TurnChange) (change : TabsChange) (base : Addition) → n ≡ slice_index t.words.items word → left ≡ cond (n == 0) 1 n → learned ≡ news n
          → turn ≡ tried_turn at slot n → change ≡ tried_tabs at x n → base ≡ word_addition kind.Tried (Turn slot) slot n left None
          → Plans o t v (move.TryTurn at slot) (turn_change n word left turn change (learning base learned))
      try_planned left learned turn change base n_is left_is learned_is turn_is change_is base_is =
          let found : n ≡ turn_found = n_is ∙ ap (λ i. slice_index t.words.items i) word_is in
          let lefts : left ≡ cond (turn_found == 0) 1 turn_found = left_is ∙ ap (λ i. cond (i == 0) 1 i) found in
          subst (λ (c : Change). Plans o t v (move.TryTurn at slot) c)
          (sym (λ j. turn_change (found j) (word_is j) (lefts j) ((turn_is ∙ ap (tried_turn at slot) found) j) ((change_is ∙ ap (tried_tabs at x) found) j)
          (learning ((base_is ∙ (λ k. word_addition kind.Tried (Turn slot) slot (found k) (lefts k) None)) j) ((learned_is ∙ ap news found) j))))
          tried

  module _ (cells : CellsSound (setting o) (state t)) (out : Bool) (holds : Holds slot out x) where
    fits : TurnFits (setting o) (state t) x
    fits = cells.turns scene.number v scene.at at x (at_slice v.tabs at x there)

    -- the slot is one of the table
    pub end_inside : slot < o.slots
    end_inside = by_tab x fits holds
      where
        by_tab : (y : Tab Content) → TurnFits (setting o) (state t) y → Holds slot out y → slot < o.slots
        by_tab (Reading r) fit (h, turn, same, out_is) = let inside = (fit h turn).0 in omega (arith, inside, same)
        by_tab (Writing w) fit (h, turn, same, out_is) = let inside = (fit h turn).0 in omega (arith, inside, same)
        by_tab Free fit (h, turn, same, out_is) = cc
        by_tab (Retreating a) fit (h, turn, same, out_is) = cc
        by_tab (Last a) fit (h, turn, same, out_is) = cc
        by_tab (Freeing f) fit (h, turn, same, out_is) = let inside = (fit h turn).0 in omega (arith, inside, same)

    -- a reading tab is at a published slot
    pub end_few : (r : Reader Content) → x ≡ Reading r → r.place < o.slots
    end_few r e = by r (subst (λ (y : Tab Content). TurnFits (setting o) (state t) y) e fits) (subst (λ (y : Tab Content). Holds slot out y) e holds) (there ∙ ap (λ (y : Tab Content). Some y) e)
      where
        by : (r : Reader Content) → TurnFits (setting o) (state t) (Reading r) → Holds slot out (Reading r) → slice_get v.tabs at ≡ Some (Reading r) → r.place < o.slots
        by r fit (h, turn, same, out_is) was =
            place_few o t v scene at r was ((scene.slots.tabs scene.number v scene.at at (Reading r) (at_slice v.tabs at (Reading r) was)).found (fit h turn).2).0

  module _ (cells : CellsSound (setting o) (state t)) (holds : Holds slot false x) (then : Then) (so : EndsSo (setting o) then x) where
    ended_sees : (y : Tab Content) (z : Then) → option_to_list (ended_sight y slot z) ++ [] ≡ wiped_by y slot z
    ended_sees (Freeing f) Wiped = refl
    ended_sees (Freeing f) Stays = refl
    ended_sees (Freeing f) GoesOn = refl
    ended_sees (Reading r) z = refl
    ended_sees (Writing w) z = refl
    ended_sees Free z = refl
    ended_sees (Retreating a) z = refl
    ended_sees (Last a) z = refl

    ended : Plans o t v (move.EndTurn at slot then)
        (turn_change turn_found (index (setting o) (Turn slot)) 0 (turns.Ended at slot) (ended_tabs at x then) (word_addition kind.Ended (Turn slot) slot turn_found 0 (ended_sight x slot then)))
    ended = record {
      allowed = (below o t v scene at x there, subst (λ (y : Tab Content). Holds slot false y) (sym is) holds, subst (λ (y : Tab Content). EndsSo (setting o) then y) (sym is) so);
      answers = refl;
      matches = record {
        words = refl;
        places = refl;
        views = λ i. refl;
        tabs = ended_by v t.places.items at slot lt x then is ∙ sym (ap (λ (y : Tab Content). set v.tabs at (ends y then)) is);
        held = refl;
        seen = ended_sees x then ∙ sym (ap (λ (y : Tab Content). wiped_by y slot then) is);
        trail = refl;
        mirror = refl;
        deeds = refl;
        met = refl;
        chains = refl;
      };
      word = turn_there (end_inside cells false holds);
      turn = (lt, place_there (end_inside cells false holds));
      tabs = ended_fit v t.places.items at slot lt x then;
      chain = tt;
    }

    module _ (word n : ℕ) (word_is : word ≡ index (setting o) (Turn slot)) where
      pub end_there : word < length t.words.items
      end_there = let h = turn_there (end_inside cells false holds) in omega (arith, h, word_is)

      pub end_planned : (change : TabsChange) (sight : Option Sight) (base : Addition) → n ≡ slice_index t.words.items word → change ≡ ended_tabs at x then → sight ≡ ended_sight x slot then
          → base ≡ word_addition kind.Ended (Turn slot) slot n 0 sight
          → Plans o t v (move.EndTurn at slot then) (turn_change n word 0 (turns.Ended at slot) change base)
      end_planned change sight base n_is change_is sight_is base_is =
          let found : n ≡ turn_found = n_is ∙ ap (λ i. slice_index t.words.items i) word_is in
          subst (λ (c : Change). Plans o t v (move.EndTurn at slot then) c)
          (sym (λ j. turn_change (found j) (word_is j) 0 (turns.Ended at slot) (change_is j) ((base_is ∙ (λ k. word_addition kind.Ended (Turn slot) slot (found k) 0 (sight_is k))) j)))
          ended
