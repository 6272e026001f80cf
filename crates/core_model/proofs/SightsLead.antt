-- Stages lead on, names that were seen are of shown entries, and versions were drawn late enough: a step keeps it, judged by what it
-- leaves of the words of anchors and by what its pass has seen and holds then.
use Rattle.std.proofs.Common.{◌≡◌, ◌≢◌, ◌⊎◌, inl, inr, ⊎_elim, ℕ, ◌+◌, ◌-◌, ◌<◌, ◌≤◌, List, [], ◌∷◌, ◌++◌, length, get_or, set, sym, refl, ap, ◌∙◌, subst, arith, Bool, true, false, cond, ◌==◌, get_or-set_same, get_or-set_other, Contains, ◌/◌}
use Rattle.std.specs.Prelude.{unwrap_or, nat_le}
use Rattle.std.proofs.lemmas.Bool.{eqb-true}
use Rattle.std.proofs.lemmas.List.Elements.{Contains-append_cases, Contains-append_right}
use mathlib.Core.Option.{some, some-injective}
use mathlib.Core.Logic.{dite}
use native.Mathlib.Decide.{ℕ_discrete}
use lib.ListN.{get_elem?}
use Rattle.lock_word.specs.declared.stage.Stage.{Stage}
use Rattle.lock_word.specs.declared.stage.Stage.TheVariants.{Empty, Taken, Appending, Closed, Halted, Freeing as FreeingStage, Gone}
use Rattle.lock_word.specs.Words.{stage_number, epoch_of, version_of, stage_of, word_at, raised, doomed, version_limit, evicted}
use Rattle.lock_word.proofs.Readers.{epoch_of-more, epoch_of-less}
use Rattle.lock_word.proofs.Taking.{epoch_of-word_at, version_of-epoch_at}
use Rattle.lock_word.proofs.Raising.{version_of-raised, stage_of-raised}
use Rattle.lock_word.proofs.Dooming.{version_of-doomed, stage_of-doomed}
use Rattle.lock_word.proofs.Testing.{mode_of-idle, stage_of-left_over}
use Rattle.link_word.specs.Words.{link_number}
use Rattle.core_model.specs.declared.moves.Then.TheVariants.{GoesOn, Stays, Wiped as WipedThen}
use Rattle.core_model.specs.declared.moves.Then.{Then}
use Rattle.core_model.specs.declared.moves.Side.{Side}
use Rattle.core_model.specs.declared.moves.Side.TheVariants.{Key0, Key1, Offer, Start}
use Rattle.core_model.specs.declared.moves.Move.{Move}
use Rattle.link_word.specs.Map.{with_slot, without_slot}
use Rattle.core_model.specs.declared.moves.Move.TheVariants.{Look, Enter, Leave, Count, Draw, Take, Evict, Raise, Doom, LoadSide, StoreSide, Own, Disown, Publish, Loosen, GetLink, TryTurn, EndTurn, CellOut, CellIn, Note, Learn, Write, Sync, LookMap, LogPiece}
use Rattle.core_model.specs.declared.tab.Reader.{Reader}
use Rattle.core_model.specs.declared.tab.Writer.{Writer}
use Rattle.core_model.specs.declared.tab.Tab.{Tab}
use Rattle.core_model.specs.declared.tab.Tab.TheVariants.{Free, Retreating, Reading, Writing, Last, Freeing}
use Rattle.core_model.specs.declared.view.Kind.TheVariants.{Drew}
use Rattle.core_model.specs.declared.view.Item.{Item}
use Rattle.core_model.specs.declared.view.Sight.{Sight}
use Rattle.core_model.specs.declared.view.Sight.TheVariants.{Stood, Named, Published, Logged, Wiped}
use Rattle.core_model.specs.declared.view.Place.TheVariants.{Beside}
use Rattle.core_model.specs.declared.view.View.{View}
use Rattle.core_model.specs.Layout.{Setting, anchor_index, index, link_index, turn_index, map_index, counter_index, word_in, log_index}
use Rattle.core_model.specs.State.{State, word, counter, side_word}
use Rattle.core_model.specs.Trails.{last_find, find_before}
use Rattle.core_model.specs.Tabs.{tab_at, anchor_of, OfWriter, OfFreer, stage_held, IsPass}
use Rattle.core_model.specs.Steps.{number_found, finding, view_after, after}
use Rattle.core_model.specs.Anchors.{opening_counter}
use Rattle.core_model.specs.Sound.{Sound}
use Rattle.core_model.proofs.Lists.{by_eq, at_set, at_length, set_here, set_else, cons_contains, contains_none}
use Rattle.core_model.proofs.Places.{beside_far}
use Rattle.core_model.proofs.EntersKept.{few_readers}
use Rattle.core_model.proofs.ReservesKept.{tab_was}
use Rattle.core_model.proofs.Knowing.{knows}
use Rattle.core_model.proofs.NotesFrame.{IsSeen}
use Rattle.core_model.proofs.NotesKept.{note_keeps, learn_keeps}
use Rattle.core_model.proofs.StepPlaces.{counted_inside, reading_inside, either_inside}
use Rattle.core_model.specs.Chains.{without}
use Rattle.core_model.specs.Table.{sights_of, held_after, item_of, Allowed}
use Rattle.core_model.specs.SlotMoves.{loads, shows, follows}
use Rattle.core_model.specs.AnchorMoves.{MayRaise, StartsRight, MayEnd, MayEvict}
use Rattle.core_model.specs.Versions.{Leads, IsShown, SightsLead}
use Rattle.core_model.proofs.BesideKept.{one_of}
use Rattle.core_model.specs.CellMoves.{all_seen, logged_by, news_of, wiped_by}
use Rattle.core_model.proofs.TurnsBring.{brought}

pub leads_on : (f g h : ℕ) → Leads f g → Leads g h → Leads f h
leads_on f g h (inl p) q = subst (λ (z : ℕ). Leads z h) (sym p) q
leads_on f g h (inr p) (inl q) = subst (λ (z : ℕ). Leads f z) q (inr p)
leads_on f g h (inr p) (inr q) = inr (p.0, (let x = p.1 in let y = q.1 in omega arith), q.2, ⊎_elim (λ (x : f < 3). inl x) (λ (x : 4 < g). inr (let y = q.1 in omega arith)) p.3)

-- raises lead on
raises_writer : (g : ℕ) (b : Bool) → g ≡ cond b 2 1 → (to : ℕ) → 3 ≤ to → to ≤ 4 → (g < to) × Leads g to
raises_writer g true e to low high = (omega arith, inr (omega arith, omega arith, omega arith, inl (omega arith)))
raises_writer g false e to low high = (omega arith, inr (omega arith, omega arith, omega arith, inl (omega arith)))

number_few : (to : Stage) → stage_number to < 7
number_few Empty = omega arith
number_few Taken = omega arith
number_few Appending = omega arith
number_few Closed = omega arith
number_few Halted = omega arith
number_few FreeingStage = omega arith
number_few Gone = omega arith

module _ {X : Type 0} where
  may_lead : (P : Writer X → Type 0) (to : Stage) (x : Tab X) → (OfWriter (λ w. MayRaise w to × P w) x ⊎ OfFreer (λ f. MayEnd f to) x) → (stage_held x < stage_number to) × Leads (stage_held x) (stage_number to)
  may_lead P to (Writing w) (inl h) = raising to h.0
    where
      raising : (to : Stage) → MayRaise w to → (stage_held (Writing w) < stage_number to) × Leads (stage_held (Writing w)) (stage_number to)
      raising Appending h = let e : stage_held (Writing w) ≡ 1 = ap (λ (b : Bool). cond b 2 1) h.0 in (omega arith, inr (omega arith, omega arith, omega arith, inl (omega arith)))
      raising Closed h = raises_writer (stage_held (Writing w)) w.is_appending refl 3 (omega arith) (omega arith)
      raising Halted h = raises_writer (stage_held (Writing w)) w.is_appending refl 4 (omega arith) (omega arith)
      raising Empty h = absurd h
      raising Taken h = absurd h
      raising FreeingStage h = absurd h
      raising Gone h = absurd h
  may_lead P to (Writing w) (inr h) = absurd h
  may_lead P to (Freeing f) (inl h) = absurd h
  may_lead P to (Freeing f) (inr h) = ending to h
    where
      ending : (to : Stage) → MayEnd f to → (5 < stage_number to) × Leads 5 (stage_number to)
      ending Gone h = (omega arith, inr (omega arith, omega arith, omega arith, inr (omega arith)))
      ending Empty h = absurd h
      ending Taken h = absurd h
      ending Appending h = absurd h
      ending Closed h = absurd h
      ending Halted h = absurd h
      ending FreeingStage h = absurd h
  may_lead P to Free h = absurd (⊎_elim (λ (z : ⊥). z) (λ (z : ⊥). z) h)
  may_lead P to (Retreating a) h = absurd (⊎_elim (λ (z : ⊥). z) (λ (z : ⊥). z) h)
  may_lead P to (Reading r) h = absurd (⊎_elim (λ (z : ⊥). z) (λ (z : ⊥). z) h)
  may_lead P to (Last a) h = absurd (⊎_elim (λ (z : ⊥). z) (λ (z : ⊥). z) h)

without_contains : (u x : ℕ) (xs : List ℕ) → Contains (without u xs) x → Contains xs x
without_contains u x [] = λ h. h
without_contains u x (y ∷ ys) = by_eq (λ z. Contains (cond z (without u ys) (y ∷ without u ys)) x → Contains (y ∷ ys) x) y u
    (λ e h. later (without_contains u x ys h))
    (λ ne h. ⊎_elim (λ (q : y ≡ x). (0, omega arith, q)) (λ (q : Contains (without u ys) x). later (without_contains u x ys q)) (cons_contains y x (without u ys) h))
  where
    later : Contains ys x → Contains (y ∷ ys) x
    later h = Contains-append_right (y ∷ []) ys x h

module _ {X : Type 0} (k : Setting X) (s : State X) (i : ℕ) (v : View X) (so : Sound k s) (at : get_elem? s.views i ≡ some v) (pass : IsPass v) where
  -- The words of anchors.

  -- the epoch x becomes y, in the life of its version, or with a version that the pass held
  abbrev Onward : ℕ → ℕ → Type 0
  Onward x y = ((version_of y ≡ version_of x) × Leads (stage_of x) (stage_of y)) ⊎ Contains v.held (version_of y)

  same_onward : (x y : ℕ) → y ≡ x → Onward x y
  same_onward x y e = inl (ap version_of e, inl (sym (ap stage_of e)))

  wide : (b : ℕ) → b < k.anchors → anchor_index b < length s.words
  wide b lt = let m = so.anchors.shaped.words in omega arith

  set_anchor : (b n a : ℕ) → b < k.anchors → Onward (epoch_of (word s b)) (epoch_of n) → Onward (epoch_of (word s a)) (epoch_of (get_or (set s.words (anchor_index b) n) (anchor_index a) 0))
  set_anchor b n a lt h = dite (ℕ_discrete a b)
      (λ e. subst (λ (z : ℕ). Onward (epoch_of (word s z)) (epoch_of (get_or (set s.words (anchor_index b) n) (anchor_index z) 0))) (sym e)
      (subst (λ (z : ℕ). Onward (epoch_of (word s b)) (epoch_of z)) (sym (get_or-set_same s.words (anchor_index b) n 0 (wide b lt))) h))
      (λ ne. same_onward _ _ (ap epoch_of (get_or-set_other s.words (anchor_index b) (anchor_index a) n 0 (λ e. ne (omega arith)))))

  set_far : (p n a : ℕ) → p ≢ anchor_index a → Onward (epoch_of (word s a)) (epoch_of (get_or (set s.words p n) (anchor_index a) 0))
  set_far p n a far = same_onward _ _ (ap epoch_of (get_or-set_other s.words p (anchor_index a) n 0 (λ e. far (sym e))))

  entered_epoch : (b : ℕ) → b < k.anchors → epoch_of (word s b + 1) ≡ epoch_of (word s b)
  entered_epoch b lt = epoch_of-more (word s b) (let f = few_readers k s i v so.anchors at pass b lt in omega arith)

  left_epoch : (t : ℕ) → Allowed k s v (Leave t) → epoch_of (word s (anchor_of (tab_at v t)) - 1) ≡ epoch_of (word s (anchor_of (tab_at v t)))
  left_epoch t may = epoch_of-less (word s (anchor_of (tab_at v t))) (knows k s i v (Leave t) so.anchors at record { pass = pass; allowed = may }).1

  tried : (hit : Bool) (b n a : ℕ) → b < k.anchors → (hit ≡ true → Onward (epoch_of (word s b)) (epoch_of n)) → Onward (epoch_of (word s a)) (epoch_of (get_or (set s.words (anchor_index b) (cond hit n (word s b))) (anchor_index a) 0))
  tried true b n a lt h = set_anchor b n a lt (h refl)
  tried false b n a lt h = set_anchor b (word s b) a lt (same_onward _ _ refl)

  evict_from : (t b : ℕ) → MayEvict v t b → (stage_of (epoch_of (last_find b v.trail)) ≡ 3) ⊎ (stage_of (epoch_of (last_find b v.trail)) ≡ 4)
  evict_from t b (inl h) = inl (let z = mode_of-idle (last_find b v.trail) h.2 in omega arith)
  evict_from t b (inr h) = ⊎_elim (λ q. inr q) (λ q. inl (let z = q in omega arith)) (stage_of-left_over (last_find b v.trail) h.2)

  evicts : (n m : ℕ) → n ≡ m → (stage_of (epoch_of m) ≡ 3) ⊎ (stage_of (epoch_of m) ≡ 4) → Onward (epoch_of n) (epoch_of (evicted n))
  evicts n m e from = let g = ap (λ (z : ℕ). stage_of (epoch_of z)) e in let low : stage_of (epoch_of n) ≤ 4 = omega arith in let high : 3 ≤ stage_of (epoch_of n) = omega arith in
      let st : stage_of (epoch_of (evicted n)) ≡ 5 = stage_of-raised n (5 - stage_of (epoch_of n)) (omega arith) ∙ omega arith in
      inl (version_of-raised n (5 - stage_of (epoch_of n)) (omega arith), inr (omega arith, omega arith, omega arith, inr (omega arith)))

  raises : (n held to : ℕ) → stage_of (epoch_of n) ≡ held → held < to → to < 7 → Leads held to → Onward (epoch_of n) (epoch_of (raised n (to - held)))
  raises n held to is up few lead = let st : stage_of (epoch_of (raised n (to - held))) ≡ to = stage_of-raised n (to - held) (omega arith) ∙ omega arith in
      inl (version_of-raised n (to - held) (omega arith), subst (λ (z : ℕ). Leads z (stage_of (epoch_of (raised n (to - held))))) (sym is) (subst (λ (z : ℕ). Leads held z) (sym st) lead))

  raise_onward : (t : ℕ) (to : Stage) → Allowed k s v (Raise t to) → Onward (epoch_of (word s (anchor_of (tab_at v t)))) (epoch_of (raised (word s (anchor_of (tab_at v t))) (stage_number to - stage_held (tab_at v t))))
  raise_onward t to may = let q = knows k s i v (Raise t to) so.anchors at record { pass = pass; allowed = may } in let l = may_lead (StartsRight k s) to (tab_at v t) may.1 in
      raises (word s (anchor_of (tab_at v t))) (stage_held (tab_at v t)) (stage_number to) q.1 l.0 (number_few to) l.1

  raise_inside : (t : ℕ) (to : Stage) → Allowed k s v (Raise t to) → anchor_of (tab_at v t) < k.anchors
  raise_inside t to may = either_inside k s i v so at pass t (λ w. MayRaise w to × StartsRight k s w) (λ f. MayEnd f to) may.0 may.1

  onward : (m : Move) → Allowed k s v m → (a : ℕ) → a < k.anchors → Onward (epoch_of (word s a)) (epoch_of (word (after k s i v m) a))
  onward (Look b) may a lt = set_anchor b (word s b) a may (same_onward _ _ refl)
  onward (Enter t b) may a lt = set_anchor b (word s b + 1) a may.0 (same_onward _ _ (entered_epoch b may.0))
  onward (Leave t) may a lt = set_anchor (anchor_of (tab_at v t)) (word s (anchor_of (tab_at v t)) - 1) a (counted_inside k s i v so at pass t may.0 may.1) (same_onward _ _ (left_epoch t may))
  onward Count may a lt = set_far (counter_index k) (get_or s.words (counter_index k) 0) a (λ e. omega arith)
  onward Draw may a lt = set_far (counter_index k) (get_or s.words (counter_index k) 0 + 1) a (λ e. omega arith)
  onward (Take t b u) may a lt = tried (word s b == last_find b v.trail) b (word_at u 1) a may.0
      (λ hit. inr (subst (λ (z : ℕ). Contains v.held z) (sym (ap version_of (epoch_of-word_at u 1) ∙ version_of-epoch_at u 1 (omega arith))) may.1.held))
  onward (Evict t b) may a lt = tried (word s b == last_find b v.trail) b (evicted (word s b)) a may.0 (λ hit. evicts (word s b) (last_find b v.trail) (eqb-true (word s b) (last_find b v.trail) hit) (evict_from t b may.1))
  onward (Raise t to) may a lt = set_anchor (anchor_of (tab_at v t)) (raised (word s (anchor_of (tab_at v t))) (stage_number to - stage_held (tab_at v t))) a (raise_inside t to may) (raise_onward t to may)
  onward (Doom t) may a lt = let n : ℕ = word s (anchor_of (tab_at v t)) in set_anchor (anchor_of (tab_at v t)) (doomed n) a (reading_inside k s i v so at pass t may.0 may.1) (inl (version_of-doomed n, inl (sym (stage_of-doomed n))))
  onward (LoadSide t side) may a lt = set_far (index k (Beside side (anchor_of (tab_at v t)))) (get_or s.words (index k (Beside side (anchor_of (tab_at v t)))) 0) a (beside_far k side a (anchor_of (tab_at v t)))
  onward (StoreSide t side value) may a lt = set_far (index k (Beside side (anchor_of (tab_at v t)))) value a (beside_far k side a (anchor_of (tab_at v t)))
  onward (LookMap t word) may a lt = set_far (map_index k word) (get_or s.words (map_index k word) 0) a (λ e. omega arith)
  onward (LogPiece t slot durable) may a lt = set_far (log_index k) _ a (λ e. omega arith)
  onward (Own t slot) may a lt = set_far (map_index k (slot / 64)) (with_slot (get_or s.words (map_index k (slot / 64)) 0) slot) a (λ e. omega arith)
  onward (Disown t slot) may a lt = set_far (map_index k (slot / 64)) (without_slot (get_or s.words (map_index k (slot / 64)) 0) slot) a (λ e. omega arith)
  onward (Publish t slot link) may a lt = set_far (link_index k slot) (link_number link) a (λ e. omega arith)
  onward (Loosen t slot) may a lt = set_far (link_index k slot) 0 a (λ e. omega arith)
  onward (GetLink t slot) may a lt = set_far (link_index k slot) (get_or s.words (link_index k slot) 0) a (λ e. omega arith)
  onward (TryTurn t slot) may a lt = set_far (turn_index k slot) (cond (get_or s.words (turn_index k slot) 0 == 0) 1 (get_or s.words (turn_index k slot) 0)) a (λ e. omega arith)
  onward (EndTurn t slot then) may a lt = set_far (turn_index k slot) 0 a (λ e. omega arith)
  onward (CellOut t slot) may a lt = same_onward _ _ refl
  onward (CellIn t slot) may a lt = same_onward _ _ refl
  onward Note may a lt = same_onward _ _ refl
  onward (Learn note) may a lt = same_onward _ _ refl
  onward (Write t slot outcome) may a lt = same_onward _ _ refl
  onward (Sync t slot kept) may a lt = same_onward _ _ refl

  -- What the pass sees, where w is its view afterwards.

  -- what was shown is
  still_shown : (m : Move) → (after k s i v m).views ≡ set s.views i (view_after v m (finding k s v m)) → (a version : ℕ) → IsShown s a version → IsShown (after k s i v m) a version
  still_shown m views a version h = dite (ℕ_discrete h.i i)
      (λ e. record {
        i = i;
        view = view_after v m (finding k s v m);
        at = ap (λ (vs : List (View X)). get_elem? vs i) views ∙ set_here s.views i (view_after v m (finding k s v m)) (at_length s.views i v at);
        many = h.many;
        seen = Contains-append_right (sights_of v m (finding k s v m)) v.seen (Published a version h.many)
            (subst (λ (u : View X). Contains u.seen (Published a version h.many)) (some-injective h.view v (sym h.at ∙ ap (get_elem? s.views) e ∙ at)) h.seen);
        some_slot = h.some_slot;
      })
      (λ ne. record { i = h.i; view = h.view; at = ap (λ (vs : List (View X)). get_elem? vs h.i) views ∙ set_else s.views i h.i (view_after v m (finding k s v m)) ne ∙ h.at; many = h.many; seen = h.seen; some_slot = h.some_slot })

  -- what a new sight owes
  abbrev Owes : State X → Sight → Type 0
  Owes s' (Stood a e) = a < k.anchors → e ≡ epoch_of (word s' a)
  Owes s' (Named a version side value) = (opening_counter k < version → IsShown s' a version) × (version ≤ opening_counter k → value ≡ word_in k k.words (Beside side a))
  Owes s' (Published a version many) = Unit {0}
  Owes s' (Logged l) = Unit {0}
  Owes s' (Wiped a version slot) = Unit {0}

  owes_one : (s' : State X) (x y : Sight) → Owes s' x → Contains (x ∷ []) y → Owes s' y
  owes_one s' x y h c = subst (Owes s') (one_of x y c) h

  owes_none : (s' : State X) (y : Sight) → Contains [] y → Owes s' y
  owes_none s' y c = absurd (contains_none y c)

  here : (b n : ℕ) → b < k.anchors → get_or (set s.words (anchor_index b) n) (anchor_index b) 0 ≡ n
  here b n lt = get_or-set_same s.words (anchor_index b) n 0 (wide b lt)

  -- a reading tab loads a name of an entry that has a slot
  loads_shown : (t : ℕ) (r : Reader X) → get_elem? v.tabs t ≡ some (Reading r) → opening_counter k < r.version → IsShown s r.anchor r.version
  loads_shown t r was new = let st = so.anchors.tabs i v at t (Reading r) was in let is = st.1.version_is in let some_slot = (so.slots.tabs i v at t (Reading r) was).some_slot in
      let q = so.cells.names.new r.anchor Key0 st.0 (λ e. cc) st.1.to some_slot (omega arith) in
      subst (λ (z : ℕ). IsShown s r.anchor z) is (so.sights.shown q.i q.view q.at r.anchor (version_of (epoch_of (word s r.anchor))) Key0 (side_word k s Key0 r.anchor) q.seen (omega arith))

  -- of an entry of the opening it is what stood there
  loads_old : (t : ℕ) (r : Reader X) → get_elem? v.tabs t ≡ some (Reading r) → (side : Side) → side ≢ Start → r.version ≤ opening_counter k → side_word k s side r.anchor ≡ word_in k k.words (Beside side r.anchor)
  loads_old t r was side ne old = let st = so.anchors.tabs i v at t (Reading r) was in let is = st.1.version_is in
      so.cells.names.old r.anchor side st.0 ne st.1.to (so.slots.tabs i v at t (Reading r) was).some_slot (omega arith)

  loads_owe : (t : ℕ) (side : Side) (x : Tab X) → get_elem? v.tabs t ≡ some x → (y : Sight) → Contains (loads x side (side_word k s side (anchor_of x))) y → Owes (after k s i v (LoadSide t side)) y
  loads_owe t side (Reading r) was y c = by_side side c
    where
      owes : (other : Side) → other ≢ Start → Owes (after k s i v (LoadSide t side)) (Named r.anchor r.version other (side_word k s other r.anchor))
      owes other ne = (λ new. still_shown (LoadSide t side) refl r.anchor r.version (loads_shown t r was new), loads_old t r was other ne)

      by_side : (other : Side) → Contains (loads (Reading r) other (side_word k s other r.anchor)) y → Owes (after k s i v (LoadSide t side)) y
      by_side Key0 c = owes_one (after k s i v (LoadSide t side)) (Named r.anchor r.version Key0 (side_word k s Key0 r.anchor)) y (owes Key0 (λ e. cc)) c
      by_side Key1 c = owes_one (after k s i v (LoadSide t side)) (Named r.anchor r.version Key1 (side_word k s Key1 r.anchor)) y (owes Key1 (λ e. cc)) c
      by_side Offer c = owes_one (after k s i v (LoadSide t side)) (Named r.anchor r.version Offer (side_word k s Offer r.anchor)) y (owes Offer (λ e. cc)) c
      by_side Start c = absurd (contains_none y c)
  loads_owe t side Free was y c = absurd (contains_none y c)
  loads_owe t side (Retreating a) was y c = absurd (contains_none y c)
  loads_owe t side (Writing w) was y c = absurd (contains_none y c)
  loads_owe t side (Last a) was y c = absurd (contains_none y c)
  loads_owe t side (Freeing f) was y c = absurd (contains_none y c)

  -- who publishes a slot has seen it
  shows_owe : (s' : State X) (t : ℕ) (x : Tab X) → get_elem? v.tabs t ≡ some x → (u : View X) → get_elem? s'.views i ≡ some u → u.seen ≡ shows x ++ v.seen → (y : Sight) → Contains (shows x) y → Owes s' y
  shows_owe s' t (Writing w) was u uat seen y c = ⊎_elim (λ (q : Published w.anchor w.version (length w.published + 1) ≡ y). subst (Owes s') q tt)
      (λ (d : Contains names y). ⊎_elim (λ (q : name Key0 (unwrap_or w.key0 0) ≡ y). subst (Owes s') q (owed Key0 (unwrap_or w.key0 0)))
      (λ (e : Contains (name Key1 (unwrap_or w.key1 0) ∷ name Offer (unwrap_or w.offer 0) ∷ []) y). ⊎_elim (λ (q : name Key1 (unwrap_or w.key1 0) ≡ y). subst (Owes s') q (owed Key1 (unwrap_or w.key1 0)))
      (λ (f : Contains (name Offer (unwrap_or w.offer 0) ∷ []) y). subst (Owes s') (one_of (name Offer (unwrap_or w.offer 0)) y f) (owed Offer (unwrap_or w.offer 0)))
      (cons_contains (name Key1 (unwrap_or w.key1 0)) y (name Offer (unwrap_or w.offer 0) ∷ []) e))
      (cons_contains (name Key0 (unwrap_or w.key0 0)) y (name Key1 (unwrap_or w.key1 0) ∷ name Offer (unwrap_or w.offer 0) ∷ []) d))
      (cons_contains (Published w.anchor w.version (length w.published + 1)) y names c)
    where
      name : Side → ℕ → Sight
      name side n = Named w.anchor w.version side n

      names : List Sight
      names = name Key0 (unwrap_or w.key0 0) ∷ name Key1 (unwrap_or w.key1 0) ∷ name Offer (unwrap_or w.offer 0) ∷ []

      shown : IsShown s' w.anchor w.version
      shown = record { i = i; view = u; at = uat; many = length w.published + 1; seen = subst (λ (l : List Sight). Contains l (Published w.anchor w.version (length w.published + 1))) (sym seen) (0, omega arith, refl); some_slot = omega arith }

      -- a version that a tab writes is new
      owed : (side : Side) (n : ℕ) → (opening_counter k < w.version → IsShown s' w.anchor w.version) × (w.version ≤ opening_counter k → n ≡ word_in k k.words (Beside side w.anchor))
      owed side n = (λ new. shown, λ old. absurd (let new = (so.cells.writers i v at t (Writing w) was).drawn in omega arith))
  shows_owe s' t Free was u uat seen y c = absurd (contains_none y c)
  shows_owe s' t (Retreating a) was u uat seen y c = absurd (contains_none y c)
  shows_owe s' t (Reading r) was u uat seen y c = absurd (contains_none y c)
  shows_owe s' t (Last a) was u uat seen y c = absurd (contains_none y c)
  shows_owe s' t (Freeing f) was u uat seen y c = absurd (contains_none y c)

  follows_owe : (s' : State X) (x : Tab X) (n : ℕ) (y : Sight) → Contains (follows x n) y → Owes s' y
  follows_owe s' (Reading r) n y c = by_bool (n == 0) c
    where
      by_bool : (b : Bool) → Contains (cond b [] (Published r.anchor r.version (r.place + 1) ∷ [])) y → Owes s' y
      by_bool true c = absurd (contains_none y c)
      by_bool false c = owes_one s' (Published r.anchor r.version (r.place + 1)) y tt c
  follows_owe s' Free n y c = absurd (contains_none y c)
  follows_owe s' (Retreating a) n y c = absurd (contains_none y c)
  follows_owe s' (Writing w) n y c = absurd (contains_none y c)
  follows_owe s' (Last a) n y c = absurd (contains_none y c)
  follows_owe s' (Freeing f) n y c = absurd (contains_none y c)

  logs_owe : (s' : State X) (slot : ℕ) (durable : Bool) (x : Tab X) (n : ℕ) (y : Sight) → Contains (logged_by x slot durable n) y → Owes s' y
  logs_owe s' slot durable (Writing w) n y c = subst (Owes s') (one_of _ y c) tt
  logs_owe s' slot durable Free n y c = absurd (contains_none y c)
  logs_owe s' slot durable (Retreating a) n y c = absurd (contains_none y c)
  logs_owe s' slot durable (Reading r) n y c = absurd (contains_none y c)
  logs_owe s' slot durable (Last a) n y c = absurd (contains_none y c)
  logs_owe s' slot durable (Freeing f) n y c = absurd (contains_none y c)

  wipes_owe : (s' : State X) (x : Tab X) (slot : ℕ) (then : Then) (y : Sight) → Contains (wiped_by x slot then) y → Owes s' y
  wipes_owe s' (Freeing f) slot Stays y c = absurd (contains_none y c)
  wipes_owe s' (Freeing f) slot GoesOn y c = absurd (contains_none y c)
  wipes_owe s' (Freeing f) slot WipedThen y c = subst (Owes s') (one_of _ y c) tt
  wipes_owe s' Free slot then y c = absurd (contains_none y c)
  wipes_owe s' (Retreating a) slot then y c = absurd (contains_none y c)
  wipes_owe s' (Reading r) slot then y c = absurd (contains_none y c)
  wipes_owe s' (Writing w) slot then y c = absurd (contains_none y c)
  wipes_owe s' (Last a) slot then y c = absurd (contains_none y c)

  brings_owe : (s' : State X) (slot : ℕ) (free : Bool) (y : Sight) → Contains (cond free (news_of slot v.seen (all_seen s.views)) []) y → Owes s' y
  brings_owe s' slot free y c = let q = brought slot v.seen s.views free y c in subst (Owes s') (sym q.is) tt

  abbrev NotLearning : Move → Type 0
  NotLearning (Learn note) = ⊥
  NotLearning _ = Unit {0}

  owes : (m : Move) → NotLearning m → Allowed k s v m → (y : Sight) → Contains (sights_of v m (finding k s v m)) y → Owes (after k s i v m) y
  owes (Look b) on may y c = owes_one (after k s i v (Look b)) (Stood b (epoch_of (word s b))) y (λ lt. ap epoch_of (sym (here b (word s b) lt))) c
  owes (Enter t b) on may y c = owes_one (after k s i v (Enter t b)) (Stood b (epoch_of (word s b))) y (λ lt. sym (ap epoch_of (here b (word s b + 1) lt) ∙ entered_epoch b lt)) c
  owes (Leave t) on may y c = let b : ℕ = anchor_of (tab_at v t) in owes_one (after k s i v (Leave t)) (Stood b (epoch_of (word s b))) y (λ lt. sym (ap epoch_of (here b (word s b - 1) lt) ∙ left_epoch t may)) c
  owes Count on may y c = absurd (contains_none y c)
  owes Draw on may y c = absurd (contains_none y c)
  owes (Take t b u) on may y c = let n : ℕ = cond (word s b == last_find b v.trail) (word_at u 1) (word s b) in owes_one (after k s i v (Take t b u)) (Stood b (epoch_of n)) y (λ lt. ap epoch_of (sym (here b n lt))) c
  owes (Evict t b) on may y c = let n : ℕ = cond (word s b == last_find b v.trail) (evicted (word s b)) (word s b) in owes_one (after k s i v (Evict t b)) (Stood b (epoch_of n)) y (λ lt. ap epoch_of (sym (here b n lt))) c
  owes (Raise t to) on may y c = let b : ℕ = anchor_of (tab_at v t) in let n : ℕ = raised (word s b) (stage_number to - stage_held (tab_at v t)) in owes_one (after k s i v (Raise t to)) (Stood b (epoch_of n)) y (λ lt. ap epoch_of (sym (here b n lt))) c
  owes (Doom t) on may y c = let b : ℕ = anchor_of (tab_at v t) in let n : ℕ = doomed (word s b) in owes_one (after k s i v (Doom t)) (Stood b (epoch_of n)) y (λ lt. ap epoch_of (sym (here b n lt))) c
  owes (LoadSide t side) on may y c = loads_owe t side (tab_at v t) (tab_was k s i v so.anchors so.slots at pass t (tab_at v t) may.0 refl) y c
  owes (StoreSide t side value) on may y c = absurd (contains_none y c)
  owes (LookMap t word) on may y c = absurd (contains_none y c)
  owes (LogPiece t slot durable) on may y c = logs_owe (after k s i v (LogPiece t slot durable)) slot durable (tab_at v t) (get_or s.words (log_index k) 0) y c
  owes (Own t slot) on may y c = absurd (contains_none y c)
  owes (Disown t slot) on may y c = absurd (contains_none y c)
  owes (Publish t slot link) on may y c = let w : View X = view_after v (Publish t slot link) (finding k s v (Publish t slot link)) in
      shows_owe (after k s i v (Publish t slot link)) t (tab_at v t) (tab_was k s i v so.anchors so.slots at pass t (tab_at v t) (let b = may.0 in omega arith) refl) w (set_here s.views i w (at_length s.views i v at)) refl y c
  owes (Loosen t slot) on may y c = absurd (contains_none y c)
  owes (GetLink t slot) on may y c = follows_owe (after k s i v (GetLink t slot)) (tab_at v t) (get_or s.words (link_index k slot) 0) y c
  owes (TryTurn t slot) on may y c = brings_owe (after k s i v (TryTurn t slot)) slot (get_or s.words (turn_index k slot) 0 == 0) y c
  owes (EndTurn t slot then) on may y c = wipes_owe (after k s i v (EndTurn t slot then)) (tab_at v t) slot then y c
  owes (CellOut t slot) on may y c = absurd (contains_none y c)
  owes (CellIn t slot) on may y c = absurd (contains_none y c)
  owes Note on may y c = absurd (contains_none y c)
  owes (Learn note) on may y c = absurd on
  owes (Write t slot outcome) on may y c = absurd (contains_none y c)
  owes (Sync t slot kept) on may y c = absurd (contains_none y c)

  -- What it holds.

  abbrev Late : List ℕ → List Item → Type 0
  Late held trail = (a u : ℕ) → a < k.anchors → Contains held u → version_of (epoch_of (find_before u a trail)) < u

  found_low : (a : ℕ) → a < k.anchors → version_of (epoch_of (last_find a v.trail)) ≤ counter k s
  found_low a lt = let f = so.anchors.held.finds i v at a in let e = so.anchors.seen.epochs i v at a lt in let d = so.anchors.drawn.stand a lt in omega arith

  draws_late : (n : ℕ) → n ≡ counter k s → (b : Bool) → Late (cond b v.held ((n + 1) ∷ v.held)) (record { kind = Drew; at = 0; found = n } ∷ v.trail)
  draws_late n e b a u lt = by_eq (λ z. Contains (cond b v.held ((n + 1) ∷ v.held)) u → version_of (epoch_of (cond z (last_find a v.trail) (find_before u a v.trail))) < u) (n + 1) u
      (λ q h. let z = found_low a lt in omega arith)
      (λ ne h. so.sights.before i v at a u lt (old b ne h))
    where
      old : (b : Bool) → n + 1 ≢ u → Contains (cond b v.held ((n + 1) ∷ v.held)) u → Contains v.held u
      old true ne h = h
      old false ne h = ⊎_elim (λ (q : n + 1 ≡ u). absurd (ne q)) (λ (q : Contains v.held u). q) (cons_contains (n + 1) u v.held h)

  late : (m : Move) → Late (held_after v m (number_found k s v m)) (item_of v m (number_found k s v m) ∷ v.trail)
  late (Look b) a u lt h = so.sights.before i v at a u lt h
  late (Enter t b) a u lt h = so.sights.before i v at a u lt h
  late (Leave t) a u lt h = so.sights.before i v at a u lt h
  late Count a u lt h = so.sights.before i v at a u lt h
  late Draw a u lt h = draws_late (counter k s) refl (nat_le version_limit (counter k s)) a u lt h
  late (Take t b version) a u lt h = so.sights.before i v at a u lt (without_contains version u v.held h)
  late (Evict t b) a u lt h = so.sights.before i v at a u lt h
  late (Raise t to) a u lt h = so.sights.before i v at a u lt h
  late (Doom t) a u lt h = so.sights.before i v at a u lt h
  late (LoadSide t side) a u lt h = so.sights.before i v at a u lt h
  late (StoreSide t side value) a u lt h = so.sights.before i v at a u lt h
  late (LookMap t word) a u lt h = so.sights.before i v at a u lt h
  late (LogPiece t slot durable) a u lt h = so.sights.before i v at a u lt h
  late (Own t slot) a u lt h = so.sights.before i v at a u lt h
  late (Disown t slot) a u lt h = so.sights.before i v at a u lt h
  late (Publish t slot link) a u lt h = so.sights.before i v at a u lt h
  late (Loosen t slot) a u lt h = so.sights.before i v at a u lt h
  late (GetLink t slot) a u lt h = so.sights.before i v at a u lt h
  late (TryTurn t slot) a u lt h = so.sights.before i v at a u lt h
  late (EndTurn t slot then) a u lt h = so.sights.before i v at a u lt h
  late (CellOut t slot) a u lt h = so.sights.before i v at a u lt h
  late (CellIn t slot) a u lt h = so.sights.before i v at a u lt h
  late Note a u lt h = so.sights.before i v at a u lt h
  late (Learn note) a u lt h = so.sights.before i v at a u lt h
  late (Write t slot outcome) a u lt h = so.sights.before i v at a u lt h
  late (Sync t slot kept) a u lt h = so.sights.before i v at a u lt h

  -- A step that changes one view.
  module _ (m : Move) (views : (after k s i v m).views ≡ set s.views i (view_after v m (finding k s v m))) (on : NotLearning m) (may : Allowed k s v m) where
    abbrev s' : State X
    s' = after k s i v m

    abbrev w : View X
    w = view_after v m (finding k s v m)

    was : (j : ℕ) (u : View X) → get_elem? s'.views j ≡ some u → ((j ≡ i) × (w ≡ u)) ⊎ ((j ≢ i) × (get_elem? s.views j ≡ some u))
    was j u uat = at_set s.views i j w u (sym (ap (λ (vs : List (View X)). get_elem? vs j) views) ∙ uat)

    -- a sight of a view was seen before, or it is new
    seen_then : (j : ℕ) (u : View X) → get_elem? s'.views j ≡ some u → (x : Sight) → Contains u.seen x → IsSeen s.views x ⊎ Contains (sights_of v m (finding k s v m)) x
    seen_then j u uat x h = ⊎_elim
        (λ (q : (j ≡ i) × (w ≡ u)). ⊎_elim
        (λ (c : Contains (sights_of v m (finding k s v m)) x). inr c)
        (λ (c : Contains v.seen x). inl record { i = i; view = v; at = at; seen = c })
        (Contains-append_cases (sights_of v m (finding k s v m)) v.seen x (subst (λ (z : View X). Contains z.seen x) (sym q.1) h)))
        (λ (q : (j ≢ i) × (get_elem? s.views j ≡ some u)). inl record { i = j; view = u; at = q.1; seen = h })
        (was j u uat)

    stage_then : (a e : ℕ) → a < k.anchors → IsSeen s.views (Stood a e) → version_of e ≡ version_of (epoch_of (word s' a)) → Leads (stage_of e) (stage_of (epoch_of (word s' a)))
    stage_then a e lt q is = ⊎_elim
        (λ (o : (version_of (epoch_of (word s' a)) ≡ version_of (epoch_of (word s a))) × Leads (stage_of (epoch_of (word s a))) (stage_of (epoch_of (word s' a)))).
        leads_on (stage_of e) (stage_of (epoch_of (word s a))) (stage_of (epoch_of (word s' a))) (so.sights.stages q.i q.view q.at a e lt q.seen (is ∙ o.0)) o.1)
        (λ (o : Contains v.held (version_of (epoch_of (word s' a)))). absurd ((so.anchors.held.fresh i v at (version_of (epoch_of (word s' a))) o).unknown a
        (inr record { i = q.i; view = q.view; at = q.at; sight = Stood a e; seen = q.seen; anchor = refl; version_is = is })))
        (onward m may a lt)

    step : SightsLead k s'
    step = record {
      stages = λ j u uat a e lt h is. ⊎_elim
          (λ (q : IsSeen s.views (Stood a e)). stage_then a e lt q is)
          (λ (c : Contains (sights_of v m (finding k s v m)) (Stood a e)). inl (ap stage_of (owes m on may (Stood a e) c lt)))
          (seen_then j u uat (Stood a e) h);
      shown = λ j u uat a version side value h new. ⊎_elim
          (λ (q : IsSeen s.views (Named a version side value)). still_shown m views a version (so.sights.shown q.i q.view q.at a version side value q.seen new))
          (λ (c : Contains (sights_of v m (finding k s v m)) (Named a version side value)). (owes m on may (Named a version side value) c).0 new)
          (seen_then j u uat (Named a version side value) h);
      old = λ j u uat a version side value h low. ⊎_elim
          (λ (q : IsSeen s.views (Named a version side value)). so.sights.old q.i q.view q.at a version side value q.seen low)
          (λ (c : Contains (sights_of v m (finding k s v m)) (Named a version side value)). (owes m on may (Named a version side value) c).1 low)
          (seen_then j u uat (Named a version side value) h);
      before = λ j u uat a version lt h. ⊎_elim
          (λ (q : (j ≡ i) × (w ≡ u)). subst (λ (z : View X). version_of (epoch_of (find_before version a z.trail)) < version) q.1 (late m a version lt (subst (λ (z : View X). Contains z.held version) (sym q.1) h)))
          (λ (q : (j ≢ i) × (get_elem? s.views j ≡ some u)). so.sights.before j u q.1 a version lt h)
          (was j u uat);
    }

  pub sights_lead : (m : Move) → Allowed k s v m → SightsLead k (after k s i v m)
  sights_lead (Look b) may = step (Look b) refl tt may
  sights_lead (Enter t b) may = step (Enter t b) refl tt may
  sights_lead (Leave t) may = step (Leave t) refl tt may
  sights_lead Count may = step Count refl tt may
  sights_lead Draw may = step Draw refl tt may
  sights_lead (Take t b u) may = step (Take t b u) refl tt may
  sights_lead (Evict t b) may = step (Evict t b) refl tt may
  sights_lead (Raise t to) may = step (Raise t to) refl tt may
  sights_lead (Doom t) may = step (Doom t) refl tt may
  sights_lead (LoadSide t side) may = step (LoadSide t side) refl tt may
  sights_lead (StoreSide t side value) may = step (StoreSide t side value) refl tt may
  sights_lead (LookMap t word) may = step (LookMap t word) refl tt may
  sights_lead (LogPiece t slot durable) may = step (LogPiece t slot durable) refl tt may
  sights_lead (Own t slot) may = step (Own t slot) refl tt may
  sights_lead (Disown t slot) may = step (Disown t slot) refl tt may
  sights_lead (Publish t slot link) may = step (Publish t slot link) refl tt may
  sights_lead (Loosen t slot) may = step (Loosen t slot) refl tt may
  sights_lead (GetLink t slot) may = step (GetLink t slot) refl tt may
  sights_lead (TryTurn t slot) may = step (TryTurn t slot) refl tt may
  sights_lead (EndTurn t slot then) may = step (EndTurn t slot then) refl tt may
  sights_lead (CellOut t slot) may = step (CellOut t slot) refl tt may
  sights_lead (CellIn t slot) may = step (CellIn t slot) refl tt may
  sights_lead Note may = (note_keeps k s i v so at pass may).sights
  sights_lead (Learn note) may = (learn_keeps k s i v so at pass note may).sights
  sights_lead (Write t slot outcome) may = step (Write t slot outcome) refl tt may
  sights_lead (Sync t slot kept) may = step (Sync t slot kept) refl tt may
