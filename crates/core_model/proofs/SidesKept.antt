-- To load and to store a word beside an anchor keeps a state sound.
use Rattle.std.proofs.Common.{◌≡◌, ◌≢◌, ⊎_elim, ℕ, ◌-◌, ◌<◌, ◌≤◌, List, [], ◌∷◌, ◌++◌, length, get_or, set, sym, refl, ap, ◌∙◌, subst, arith, Bool, true, false, cond, ◌==◌, Some, None, get_or-set_other, ne_eqb, Contains}
use mathlib.Core.Option.{some, some-injective}
use mathlib.Core.Logic.{dite}
use native.Mathlib.Decide.{ℕ_discrete}
use lib.ListN.{get_elem?}
use Rattle.std.specs.Prelude.{unwrap_or}
use Rattle.lock_word.specs.Words.{readers_of, epoch_of, version_of, stage_of}
use Rattle.core_model.specs.declared.moves.Side.{Side}
use Rattle.core_model.specs.declared.moves.Side.TheVariants.{Key0, Key1, Offer, Start}
use Rattle.core_model.specs.declared.tab.Reader.{Reader}
use Rattle.core_model.specs.declared.tab.Writer.{Writer}
use Rattle.core_model.specs.declared.tab.Freer.{Freer}
use Rattle.core_model.specs.declared.tab.Tab.{Tab}
use Rattle.core_model.specs.declared.tab.Tab.TheVariants.{Free, Retreating, Reading, Writing, Last, Freeing}
use Rattle.core_model.specs.declared.moves.Move.TheVariants.{LoadSide, StoreSide}
use Rattle.core_model.specs.declared.view.Sight.TheVariants.{Named}
use Rattle.core_model.specs.declared.view.Place.TheVariants.{Beside}
use Rattle.core_model.specs.declared.view.View.{View}
use Rattle.core_model.specs.declared.chain.Chain.{Chain}
use Rattle.core_model.specs.Layout.{Setting, index}
use Rattle.core_model.specs.State.{State, word, chain_of}
use Rattle.core_model.specs.Chains.{start_number, slots_of_link}
use Rattle.core_model.specs.Tabs.{tab_at, is_using, anchor_of, stage_written, IsPass, InnerIsFree}
use Rattle.core_model.specs.Steps.{finding, view_after, after}
use Rattle.core_model.specs.Slots.{SlotWords, slot_words, held_in, resting_in, writes_at, Replaces, ReaderHolds, TabHolds, SlotsHold, SlotsSound}
use Rattle.core_model.specs.Sound.{AnchorsSound, WordsSound}
use Rattle.core_model.proofs.Lists.{sum_some, by_eq}
use Rattle.core_model.proofs.Telling.{set_again, told_in, stage_told, stored_told, stored_here, stored_else, sides_apart, sides_differ, side_in}
use Rattle.core_model.proofs.SlotTabs.{SameWriters, tab_later}
use Rattle.core_model.proofs.SlotKinds.{OneTab, recounted, each_tab, same_by_one, quiet}
use Rattle.core_model.proofs.SlotAnchors.{writer_is, writer_stage, sole_writer, replaces_at, freer_stage, reader_stage}
use Rattle.core_model.proofs.SlotsStored.{store_keeps}
use Rattle.core_model.proofs.BesideKept.{SightsOwe, beside, besides}
use Rattle.core_model.proofs.BesideKinds.{Likens, tabs_as_before, tab_as_before, sees_nothing, quiet_loaded, quiet_stored, at_side}
use Rattle.core_model.proofs.SightsKept.{IsSo, sees_so}
use Rattle.core_model.proofs.ReservesKept.{of_writer, tab_was, none_frees}
use Rattle.core_model.specs.Table.{Allowed, item_of}
use Rattle.core_model.specs.SlotMoves.{MayStore, stored, stores, loaded, loads}

module _ {X : Type 0} (k : Setting X) (s : State X) (i : ℕ) (v : View X) (so : AnchorsSound k s) (sl : SlotsSound k s) (at : get_elem? s.views i ≡ some v) (pass : IsPass v) where
  abbrev w : SlotWords
  w = slot_words k s.words

  -- A writing tab stores a word.
  module _ (t : ℕ) (side : Side) (value : ℕ) (free : InnerIsFree v) (x : Writer X) (was : get_elem? v.tabs t ≡ some (Writing x)) (fresh : x.is_appending ≡ false) (may : MayStore k x side value) where
    abbrev a : ℕ
    a = x.anchor

    abbrev p₀ : ℕ
    p₀ = index k (Beside side a)

    abbrev words' : List ℕ
    words' = set s.words p₀ value

    there : (a < k.anchors) × (stage_of (epoch_of (word s a)) ≡ stage_written x) × (1 ≤ stage_of (epoch_of (word s a))) × (stage_of (epoch_of (word s a)) ≤ 2)
    there = writer_stage k s so sl i v at t x was

    taken : stage_of (epoch_of (word s a)) ≡ 1
    taken = there.1 ∙ ap (λ (b : Bool). cond b 2 1) fresh

    -- no name was seen that is stored anew
    not_named : (side : Side) → MayStore k x side value → (j : ℕ) (u : View X) → get_elem? s.views j ≡ some u → (version : ℕ) (other : Side) (n : ℕ) → Contains u.seen (Named a version other n) → version_of (epoch_of (word s a)) ≡ version
        → index k (Beside other a) ≡ index k (Beside side a) → ⊥
    not_named side may j u ut version other n c is same = by_side side other may same c
      where
        no_slot : x.published ≡ [] → (other : Side) → Contains u.seen (Named a version other n) → ⊥
        no_slot e other c = let h = (so.seen.named j u ut a version other n c is).1 (let z = taken in omega arith) in let ch = ap (λ (d : Chain). length d.slots) (sl.tabs i v at t (Writing x) was).chain in let q = ap length e in omega arith

        by_side : (side other : Side) → MayStore k x side value → index k (Beside other a) ≡ index k (Beside side a) → Contains u.seen (Named a version other n) → ⊥
        by_side Key0 other may same c = no_slot may.1 other c
        by_side Key1 other may same c = no_slot may.1 other c
        by_side Offer other may same c = no_slot may.1 other c
        by_side Start Key0 may same c = sides_differ k s.words Start Key0 a there.0 (λ q. cc) same
        by_side Start Key1 may same c = sides_differ k s.words Start Key1 a there.0 (λ q. cc) same
        by_side Start Offer may same c = sides_differ k s.words Start Offer a there.0 (λ q. cc) same
        by_side Start Start may same c = so.seen.no_start j u ut a version n c

    sides_kept : (j : ℕ) (u : View X) → get_elem? s.views j ≡ some u → (b version : ℕ) (other : Side) (n : ℕ) → Contains u.seen (Named b version other n) → version_of (epoch_of (word s b)) ≡ version
        → get_or words' (index k (Beside other b)) 0 ≡ get_or s.words (index k (Beside other b)) 0
    sides_kept j u ut b version other n c is = get_or-set_other s.words p₀ (index k (Beside other b)) value 0
        (λ same. dite (ℕ_discrete b a)
        (λ e. not_named side may j u ut version other n (subst (λ (z : ℕ). Contains u.seen (Named z version other n)) e c) (subst (λ (z : ℕ). version_of (epoch_of (word s z)) ≡ version) e is) (subst (λ (z : ℕ). index k (Beside other z) ≡ p₀) e same))
        (λ ne. sides_apart k s.words side other a b there.0 ne (so.seen.inside j u ut (Named b version other n) c) same))

    abbrev new : Tab X
    new = Writing (stored x side value)

    likens_stored : (side : Side) → Likens k s v t (Writing x) (Writing (stored x side value))
    likens_stored Key0 = record { counts = λ b. refl; writes = λ b u g. refl; frees = λ b u d. refl; stands = λ h. h; not_last = λ b e. cc }
    likens_stored Key1 = record { counts = λ b. refl; writes = λ b u g. refl; frees = λ b u d. refl; stands = λ h. h; not_last = λ b e. cc }
    likens_stored Offer = record { counts = λ b. refl; writes = λ b u g. refl; frees = λ b u d. refl; stands = λ h. h; not_last = λ b e. cc }
    likens_stored Start = record { counts = λ b. refl; writes = λ b u g. refl; frees = λ b u d. refl; stands = λ h. h; not_last = λ b e. cc }

    store_anchors : (found : ℕ) → AnchorsSound k (besides k s i (beside v (set v.tabs t new) [] (item_of v (StoreSide t side value) found) (Beside side a) value) (Beside side a) value s.chains)
    store_anchors found = let q = side_in k s.words side a there.0 in at_side k s i v so at pass (item_of v (StoreSide t side value) found) quiet_stored (set v.tabs t new)
        (tab_as_before k s i v so at pass v.tabs (tabs_as_before k s i v so at pass) t (Writing x) new was (likens_stored side)) [] (Beside side a) value (let z = q.0 in omega arith) (let z = q.1 in omega arith)
        sides_kept (sees_nothing k s i v so at pass _)

    no_rest : (j : ℕ) (u : View X) → get_elem? s.views j ≡ some u → (p : ℕ) (f : Freer X) → get_elem? u.tabs p ≡ some (Freeing f) → f.anchor ≢ a
    no_rest j u ut p f is on = ⊎_elim
        (λ (q : (f.is_freeing ≡ true) × (stage_of (epoch_of (word s f.anchor)) ≡ 5)). let z = ap (λ (b : ℕ). stage_of (epoch_of (word s b))) on in let h = taken in let g = q.1 in omega arith)
        (λ (q : (f.is_freeing ≡ false) × (stage_of (epoch_of (word s f.anchor)) ≡ 1)). mine (replaces_at k s so sl j u ut p f is q.0))
        (freer_stage k s so sl j u ut p f is)
      where
        mine : Replaces (stage_of (epoch_of (word s f.anchor))) (w.start f.anchor) u f.anchor → ⊥
        mine r = let c = sum_some (writes_at f.anchor) u.tabs (let m = r.mine in omega arith) in let y = writer_is f.anchor c.item c.some_ in
            let same = sole_writer k s so sl i v at t x was j u ut c.i y.0 (c.at ∙ ap some y.1) (sym on ∙ sym y.2) in
            none_frees k s i v so sl at pass free p f (subst (λ (z : View X). get_elem? z.tabs p ≡ some (Freeing f)) (sym (some-injective v u (sym at ∙ subst (λ (z : ℕ). get_elem? s.views z ≡ some u) (sym same.0) ut))) is)

    store_slots : (v' : View X) → v'.tabs ≡ set v.tabs t new → SlotsHold k.anchors (slot_words k words') s.chains (set s.views i v')
    store_slots v' tabs = subst (λ z. SlotsHold k.anchors z s.chains (set s.views i v')) (sym (stored_told k s.words side a value there.0))
        (store_keeps k k.anchors w s.chains s.views i v sl at v' t x was side value may (slot_words k words').start (slot_words k words').beside
        (stored_here k s.words side a value there.0 so.shaped.words)
        (λ other ne. stored_else k s.words side a value other a there.0 (λ _. sides_differ k s.words side other a there.0 ne))
        (λ b ne. stored_else k s.words side a value Start b there.0 (λ lt. sides_apart k s.words side Start a b there.0 ne lt))
        (λ b ne. λ t other. stored_else k s.words side a value other b there.0 (λ lt. sides_apart k s.words side other a b there.0 ne lt) t)
        (stage_told k s.words a there.0 ∙ taken)
        (λ j u ut p y is same. sole_writer k s so sl j u ut p y is i v at t x was same)
        no_rest record { was = was; becomes = tabs })

  pub store_both : (t : ℕ) (side : Side) (value : ℕ) → Allowed k s v (StoreSide t side value) → WordsSound k (after k s i v (StoreSide t side value))
  store_both t side value may = let q = of_writer (λ x. (x.is_appending ≡ false) × MayStore k x side value) (tab_at v t) may.2 in let v' : View X = view_after v (StoreSide t side value) (finding k s v (StoreSide t side value)) in
      let was = tab_was k s i v so sl at pass t (Writing q.0) (let z = may.0 in omega arith) q.1 in record {
        anchors = subst (λ (z : Tab X). AnchorsSound k (besides k s i (beside v (set v.tabs t (stores z side value)) [] (item_of v (StoreSide t side value) (get_or s.words (index k (Beside side (anchor_of z))) 0)) (Beside side (anchor_of z)) value) (Beside side (anchor_of z)) value s.chains)) (sym q.1)
            (store_anchors t side value may.1 q.0 was q.2.0 q.2.1 (get_or s.words (index k (Beside side q.0.anchor)) 0));
        slots = subst (λ (z : Tab X). SlotsHold k.anchors (slot_words k (set s.words (index k (Beside side (anchor_of z))) value)) s.chains (set s.views i v')) (sym q.1)
            (store_slots t side value may.1 q.0 was q.2.0 q.2.1 v' (ap (λ (z : Tab X). set v.tabs t (stores z side value)) q.1));
      }

  -- A tab loads a word.
  module _ (t : ℕ) (side : Side) where
    abbrev found : Tab X → ℕ
    found x = get_or s.words (index k (Beside side (anchor_of x))) 0

    abbrev after_load : Tab X → View X → State X
    after_load x v' = besides k s i v' (Beside side (anchor_of x)) (found x) s.chains

    -- what a load owes, of a tab
    record Loads (x : Tab X) : Type 0 where
      inside : anchor_of x < k.anchors
      likens : Likens k s v t x (loaded x side (found x))
      sees : (v' : View X) → SightsOwe k s (after_load x v') v (loads x side (found x))
      held : (j : ℕ) → held_in j (loaded x side (found x)) ≡ held_in j x
      rests : (j : ℕ) → resting_in j (loaded x side (found x)) ≡ resting_in j x
      writers : (v' : View X) → OneTab v v' t x (loaded x side (found x)) → (b : ℕ) → SameWriters v v' b
      holds : (v' : View X) → OneTab v v' t x (loaded x side (found x)) → TabHolds w s.chains v' (loaded x side (found x))

    -- one that stays as it was
    stays_loaded : (x : Tab X) → get_elem? v.tabs t ≡ some x → anchor_of x < k.anchors → ((b : ℕ) → x ≢ Last b) → loaded x side (found x) ≡ x → ((v' : View X) → SightsOwe k s (after_load x v') v (loads x side (found x))) → Loads x
    stays_loaded x was lt not_last same sees = record {
      inside = lt;
      likens = subst (Likens k s v t x) (sym same) record { counts = λ b. refl; writes = λ b u g. refl; frees = λ b u d. refl; stands = λ h. h; not_last = not_last };
      sees = sees;
      held = λ j. ap (held_in j) same;
      rests = λ j. ap (resting_in j) same;
      writers = writers;
      holds = λ v' one. subst (TabHolds w s.chains v') (sym same) (tab_later w s.chains v v' (writers v' one) x (sl.tabs i v at t x was));
    }
      where
        writers : (v' : View X) → OneTab v v' t x (loaded x side (found x)) → (b : ℕ) → SameWriters v v' b
        writers v' one b = record {
          as_many = let e = recounted v v' t x (loaded x side (found x)) one (writes_at b) in let z = ap (writes_at b) same in omega arith;
          each = λ m y e on. ⊎_elim
              (λ (q : (m ≡ t) × (loaded x side (found x) ≡ Writing y)). (t, y, was ∙ ap some (sym same ∙ q.1), on, (λ z. z)))
              (λ (q : (m ≢ t) × (get_elem? v.tabs m ≡ some (Writing y))). (m, y, q.1, on, (λ z. z)))
              (each_tab v v' t x (loaded x side (found x)) one m (Writing y) e);
        }

  words_again : (p : ℕ) → set s.words p (get_or s.words p 0) ≡ s.words
  words_again p = set_again s.words p

  -- a name is seen
  name_seen : (t : ℕ) (r : Reader X) → get_elem? v.tabs t ≡ some (Reading r) → (side : Side) (v' : View X) → (side ≡ Start → ⊥)
      → SightsOwe k s (besides k s i v' (Beside side r.anchor) (get_or s.words (index k (Beside side r.anchor)) 0) s.chains) v (Named r.anchor r.version side (get_or s.words (index k (Beside side r.anchor)) 0) ∷ [])
  name_seen t r was side v' not_start = let st = so.tabs i v at t (Reading r) was in sees_so k s (besides k s i v' (Beside side r.anchor) n s.chains) v so (Named r.anchor r.version side n ∷ [])
      ((st.0, st.1.version_is, st.2), tt) (so_now side not_start same, tt)
    where
      n : ℕ
      n = get_or s.words (index k (Beside side r.anchor)) 0

      same : get_or (set s.words (index k (Beside side r.anchor)) (get_or s.words (index k (Beside side r.anchor)) 0)) (index k (Beside side r.anchor)) 0 ≡ get_or s.words (index k (Beside side r.anchor)) 0
      same = ap (λ (ws : List ℕ). get_or ws (index k (Beside side r.anchor)) 0) (words_again (index k (Beside side r.anchor)))

      has_slot : 0 < length (chain_of s r.anchor).slots
      has_slot = (sl.tabs i v at t (Reading r) was).some_slot

      so_now : (side : Side) → (side ≡ Start → ⊥) → get_or (set s.words (index k (Beside side r.anchor)) (get_or s.words (index k (Beside side r.anchor)) 0)) (index k (Beside side r.anchor)) 0 ≡ get_or s.words (index k (Beside side r.anchor)) 0
          → IsSo k s (besides k s i v' (Beside side r.anchor) (get_or s.words (index k (Beside side r.anchor)) 0) s.chains) v (Named r.anchor r.version side (get_or s.words (index k (Beside side r.anchor)) 0))
      so_now Key0 ne e = (e, (λ _. has_slot), e)
      so_now Key1 ne e = (e, (λ _. has_slot), e)
      so_now Offer ne e = (e, (λ _. has_slot), e)
      so_now Start ne e = absurd (ne refl)

  -- a reading tab learns where it begins
  begins : (t : ℕ) (r : Reader X) → get_elem? v.tabs t ≡ some (Reading r) → Loads t Start (Reading r)
  begins t r was = record {
    inside = there.0;
    likens = record { counts = λ b. refl; writes = λ b u g. refl; frees = λ b u d. refl; stands = λ h. h; not_last = λ b e. cc };
    sees = λ v'. sees_nothing k s i v so at pass _;
    held = λ j. refl;
    rests = λ j. refl;
    writers = λ v' one b. same_by_one v v' t (Reading r) (loaded (Reading r) Start n) one b refl refl (λ x h on. cc);
    holds = λ v' one. record { some_slot = holds.some_slot; inside = holds.inside; found = holds.found; at = at_first };
  }
    where
      n : ℕ
      n = found t Start (Reading r)

      there : (r.anchor < k.anchors) × (2 ≤ stage_of (epoch_of (word s r.anchor))) × (stage_of (epoch_of (word s r.anchor)) ≤ 4) × (0 < readers_of (word s r.anchor))
      there = reader_stage k s so sl i v at t r was

      holds : ReaderHolds (chain_of s r.anchor) r
      holds = sl.tabs i v at t (Reading r) was

      start_is : get_or s.words (index k (Beside Start r.anchor)) 0 ≡ start_number (chain_of s r.anchor).slots
      start_is = sym (told_in k.anchors r.anchor (get_or s.words (index k (Beside Start r.anchor)) 0) there.0)
          ∙ (sl.stand r.anchor there.0).starts (let e = stage_told k s.words r.anchor there.0 in let z = there.1 in omega arith) (let e = stage_told k s.words r.anchor there.0 in let z = there.2 in omega arith)

      first_slot : (xs ys : List ℕ) (m slot : ℕ) → 0 < length xs → m ≡ start_number xs → cond (m == 0) None (Some (m - 1)) ≡ Some slot → get_elem? (xs ++ ys) 0 ≡ some slot
      first_slot [] ys m slot some_slot e q = absurd (omega arith)
      first_slot (x ∷ xs) ys m slot some_slot e q = ap some (first_is (ne_eqb m 0 (λ z. omega arith)) q)
        where
          first_is : (m == 0) ≡ false → cond (m == 0) None (Some (m - 1)) ≡ Some slot → x ≡ slot
          first_is z = rw z (λ q. let y = ap (λ o. unwrap_or o 0) q in omega arith)

      at_first : (slot : ℕ) → cond (r.place == 0) (cond (get_or s.words (index k (Beside Start r.anchor)) 0 == 0) None (Some (get_or s.words (index k (Beside Start r.anchor)) 0 - 1))) r.slot ≡ Some slot
          → get_elem? ((chain_of s r.anchor).slots ++ slots_of_link (chain_of s r.anchor).end) r.place ≡ some slot
      at_first slot = by_eq
          (λ z. cond z (cond (get_or s.words (index k (Beside Start r.anchor)) 0 == 0) None (Some (get_or s.words (index k (Beside Start r.anchor)) 0 - 1))) r.slot ≡ Some slot → get_elem? ((chain_of s r.anchor).slots ++ slots_of_link (chain_of s r.anchor).end) r.place ≡ some slot)
          r.place 0
          (λ e q. subst (λ (z : ℕ). get_elem? ((chain_of s r.anchor).slots ++ slots_of_link (chain_of s r.anchor).end) z ≡ some slot) (sym e)
          (first_slot (chain_of s r.anchor).slots (slots_of_link (chain_of s r.anchor).end) (get_or s.words (index k (Beside Start r.anchor)) 0) slot holds.some_slot start_is q))
          (λ ne q. holds.at slot q)

  loads_of : (t : ℕ) (side : Side) (x : Tab X) → get_elem? v.tabs t ≡ some x → is_using x ≡ true → Loads t side x
  loads_of t Key0 (Reading r) was h = stays_loaded t Key0 (Reading r) was (so.tabs i v at t (Reading r) was).0 (λ b e. cc) refl (λ v'. name_seen t r was Key0 v' (λ e. cc))
  loads_of t Key1 (Reading r) was h = stays_loaded t Key1 (Reading r) was (so.tabs i v at t (Reading r) was).0 (λ b e. cc) refl (λ v'. name_seen t r was Key1 v' (λ e. cc))
  loads_of t Offer (Reading r) was h = stays_loaded t Offer (Reading r) was (so.tabs i v at t (Reading r) was).0 (λ b e. cc) refl (λ v'. name_seen t r was Offer v' (λ e. cc))
  loads_of t Start (Reading r) was h = begins t r was
  loads_of t side (Writing x) was h = stays_loaded t side (Writing x) was (so.tabs i v at t (Writing x) was).0 (λ b e. cc) refl (λ v'. sees_nothing k s i v so at pass _)
  loads_of t side (Freeing f) was h = stays_loaded t side (Freeing f) was (so.tabs i v at t (Freeing f) was).0 (λ b e. cc) refl (λ v'. sees_nothing k s i v so at pass _)
  loads_of t side Free was h = cc
  loads_of t side (Retreating b) was h = cc
  loads_of t side (Last b) was h = cc

  pub load_both : (t : ℕ) (side : Side) → Allowed k s v (LoadSide t side) → WordsSound k (after k s i v (LoadSide t side))
  load_both t side may = let x : Tab X = tab_at v t in let was = tab_was k s i v so sl at pass t x may.0 refl in let l = loads_of t side x was may.1 in let n : ℕ = found t side x in let new : Tab X = loaded x side n in
      let v' : View X = view_after v (LoadSide t side) (finding k s v (LoadSide t side)) in let one : OneTab v v' t x new = record { was = was; becomes = refl } in let q = side_in k s.words side (anchor_of x) l.inside in record {
        anchors = at_side k s i v so at pass (item_of v (LoadSide t side) n) quiet_loaded (set v.tabs t new) (tab_as_before k s i v so at pass v.tabs (tabs_as_before k s i v so at pass) t x new was l.likens)
            (loads x side n) (Beside side (anchor_of x)) n (let z = q.0 in omega arith) (let z = q.1 in omega arith)
            (λ j u ut b version other m c is. ap (λ (ws : List ℕ). get_or ws (index k (Beside other b)) 0) (words_again (index k (Beside side (anchor_of x))))) (l.sees v');
        slots = subst (λ ws. SlotsHold k.anchors (slot_words k ws) s.chains (set s.views i v')) (sym (words_again (index k (Beside side (anchor_of x)))))
            (quiet k.anchors w s.chains s.views i v sl at v' (λ j. let e = recounted v v' t x new one (held_in j) in let h = l.held j in omega arith) (λ j. let e = recounted v v' t x new one (resting_in j) in let h = l.rests j in omega arith)
            (λ m tab e. ⊎_elim (λ (q : (m ≡ t) × (new ≡ tab)). subst (TabHolds w s.chains v') q.1 (l.holds v' one))
            (λ (q : (m ≢ t) × (get_elem? v.tabs m ≡ some tab)). tab_later w s.chains v v' (l.writers v' one) tab (sl.tabs i v at m tab q.1))
            (each_tab v v' t x new one m tab e)));
      }
