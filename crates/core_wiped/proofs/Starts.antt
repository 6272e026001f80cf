-- Where the version of a logged piece stands and is written no more, the Start word names the first slot of that piece: a step keeps it.
use Rattle.std.proofs.Common.{◌≡◌, ◌≢◌, ◌⊎◌, inl, inr, ⊎_elim, ℕ, ◌+◌, ◌-◌, ◌/◌, ◌<◌, ◌≤◌, ◌==◌, List, [], ◌∷◌, ◌++◌, length, get_or, set}
use Rattle.std.proofs.Common.{Bool, true, false, cond, refl, sym, ap, ◌∙◌, subst, arith, Contains, eqb-true, get_or-set_same}
use Rattle.std.proofs.Common.{get_or-set_other}
use mathlib.Core.Option.{some}
use mathlib.Core.Logic.{dite}
use native.Mathlib.Decide.{ℕ_discrete}
use lib.ListN.{get_elem?}
use Rattle.lock_word.specs.Words.{doomed, epoch_of, evicted, raised, stage_number, stage_of, version_of, word_at}
use Rattle.lock_word.proofs.Readers.{epoch_of-more, epoch_of-less}
use Rattle.lock_word.proofs.Taking.{epoch_of-word_at}
use Rattle.lock_word.proofs.Raising.{version_of-raised}
use Rattle.lock_word.proofs.Dooming.{version_of-doomed, stage_of-doomed}
use Rattle.lock_word.proofs.Testing.{mode_of-idle, stage_of-left_over}
use Rattle.lock_word.specs.declared.stage.Stage.{Stage}
use Rattle.lock_word.specs.declared.stage.Stage.TheVariants.{Empty, Taken, Appending, Closed, Halted, Gone, Freeing as FreeingStage}
use Rattle.core_model.specs.declared.moves.Move.{Move}
use Rattle.core_model.specs.declared.moves.Move.TheVariants.{Look, Enter, Leave, Count, Draw, Take, Evict, Raise, Doom, LoadSide}
use Rattle.core_model.specs.declared.moves.Move.TheVariants.{StoreSide, Own, Disown, Publish, Loosen, GetLink, TryTurn, EndTurn, CellOut}
use Rattle.core_model.specs.declared.moves.Move.TheVariants.{CellIn, Note, Learn, Write, Sync, LookMap, LogPiece}
use Rattle.core_model.specs.declared.moves.Side.{Side}
use Rattle.core_model.specs.declared.moves.Side.TheVariants.{Start}
use Rattle.core_model.specs.declared.tab.Tab.TheVariants.{Writing}
use Rattle.core_model.specs.declared.tab.Writer.{Writer}
use Rattle.core_model.specs.declared.view.LoggedPiece.{LoggedPiece}
use Rattle.core_model.specs.declared.view.Place.TheVariants.{Beside}
use Rattle.core_model.specs.declared.view.View.{View}
use Rattle.core_model.specs.AnchorMoves.{MayEnd, MayEvict, MayRaise, StartsRight}
use Rattle.core_model.specs.Chains.{first_of, start_number}
use Rattle.core_model.specs.Layout.{Setting, anchor_index, beside_index, counter_index, index, link_index, log_index, map_index, turn_index}
use Rattle.core_model.specs.SlotMoves.{MayStore}
use Rattle.core_model.specs.Sound.{Sound}
use Rattle.core_model.specs.State.{State, side_word, word}
use Rattle.core_model.specs.Steps.{after}
use Rattle.core_model.specs.Table.{Allowed}
use Rattle.core_model.specs.Tabs.{IsPass, anchor_of, stage_held, stage_written, tab_at}
use Rattle.core_model.specs.Trails.{last_find}
use Rattle.core_model.proofs.EntersKept.{few_readers}
use Rattle.core_model.proofs.Knowing.{knows}
use Rattle.core_model.proofs.Matching.{matches_writer}
use Rattle.core_model.proofs.Places.{beside_far, side_below, within}
use Rattle.core_model.proofs.ReservesKept.{of_writer, of_freer, tab_was}
use Rattle.core_model.proofs.Telling.{stage_told, told_in}
use Rattle.core_model.specs.declared.chain.Chain.{Chain}
use Rattle.core_model.proofs.StepPlaces.{counted_inside, place_inside, reading_inside, either_inside}
use Rattle.core_log.specs.Logged.{LinksStand, logged_now}
use Rattle.core_log.proofs.LinksKept.{my_tab, new_is, split, writes_at}
use Rattle.core_log.proofs.Versions.{version_stands}
use Rattle.core_wiped.specs.Wipes.{StartsNamed}

written_low : (b : Bool) → cond b 2 1 ≤ 2
written_low true = omega arith
written_low false = omega arith

pub number_low : (to : Stage) → stage_number to ≤ 6
number_low Empty = omega arith
number_low Taken = omega arith
number_low Appending = omega arith
number_low Closed = omega arith
number_low Halted = omega arith
number_low FreeingStage = omega arith
number_low Gone = omega arith

-- where nobody writes at a version that stands, its Start word names this slot or none
abbrev Names : ℕ → ℕ → Type 0
Names start first = (start ≡ 0) ⊎ (start ≡ first + 1)

names_first : (xs : List ℕ) (slot : ℕ) → Names (start_number xs) (first_of (xs ++ slot ∷ []))
names_first [] slot = inl refl
names_first (x ∷ xs) slot = inr refl

module _ {X : Type 0} (k : Setting X) (s : State X) (i : ℕ) (v : View X) (so : Sound k s) (at : get_elem? s.views i ≡ some v)
    (pass : IsPass v) where
  -- a writing tab raises the stage of its anchor
  pub record IsRaising (m : Move) (a : ℕ) : Type 0 where
    pub t : ℕ
    pub to : Stage
    pub is : m ≡ Raise t to
    pub writer : Writer X
    pub tab : tab_at v t ≡ Writing writer
    pub anchor_is : writer.anchor ≡ a
    pub right : StartsRight k s writer

  -- the epoch that this word has: its version stood and was written no more, or is written no more by this step
  abbrev Comes : Move → ℕ → ℕ → Type 0
  Comes m a n = 3 ≤ stage_of (epoch_of n) → (version_of (epoch_of n) ≡ version_of (epoch_of (word s a)))
      × ((3 ≤ stage_of (epoch_of (word s a))) ⊎ IsRaising m a)

  -- of words like these the Start word too is as it was
  abbrev Follows : Move → ℕ → List ℕ → Type 0
  Follows m a words = 3 ≤ stage_of (epoch_of (get_or words (anchor_index a) 0))
      → (version_of (epoch_of (get_or words (anchor_index a) 0)) ≡ version_of (epoch_of (word s a)))
      × (get_or words (beside_index Start a) 0 ≡ side_word k s Start a) × ((3 ≤ stage_of (epoch_of (word s a))) ⊎ IsRaising m a)

  same_comes : (m : Move) (a n : ℕ) → epoch_of n ≡ epoch_of (word s a) → Comes m a n
  same_comes m a n e h = (ap version_of e, inl (let z = ap stage_of e in omega arith))

  same_follows : (m : Move) (a : ℕ) → Follows m a s.words
  same_follows m a h = (refl, refl, inl h)

  -- a step on a word that is neither
  far : (m : Move) (p n a : ℕ) → p ≢ anchor_index a → p ≢ beside_index Start a → Follows m a (set s.words p n)
  far m p n a e f h = let w = get_or-set_other s.words p (anchor_index a) n 0 (λ q. e (sym q)) in (
    ap (λ (z : ℕ). version_of (epoch_of z)) w,
    get_or-set_other s.words p (beside_index Start a) n 0
        (λ q. f (sym q)),
    inl (let z = ap (λ (y : ℕ). stage_of (epoch_of y)) w in omega arith),
  )

  wide : (b : ℕ) → b < k.anchors → anchor_index b < length s.words
  wide b lt = let m = so.anchors.shaped.words in omega arith

  -- a step on the word of an anchor
  on_anchor : (m : Move) (b n a : ℕ) → b < k.anchors → Comes m b n → Follows m a (set s.words (anchor_index b) n)
  on_anchor m b n a lt comes h = dite (ℕ_discrete a b) (λ e. here (sym e))
      (λ ne. far m (anchor_index b) n a (λ e. ne (omega arith)) (λ e. omega arith) h)
    where
      here : b ≡ a → (version_of (epoch_of (get_or (set s.words (anchor_index b) n) (anchor_index a) 0)) ≡ version_of (epoch_of (word s a)))
          × (get_or (set s.words (anchor_index b) n) (beside_index Start a) 0 ≡ side_word k s Start a)
          × ((3 ≤ stage_of (epoch_of (word s a))) ⊎ IsRaising m a)
      here e = let w : get_or (set s.words (anchor_index b) n) (anchor_index a) 0 ≡ n = ap
          (λ (z : ℕ). get_or (set s.words (anchor_index b) n) (anchor_index z) 0) (sym e)
          ∙ get_or-set_same s.words (anchor_index b) n 0 (wide b lt) in
          let q = comes (let z = ap (λ (y : ℕ). stage_of (epoch_of y)) w in omega arith) in (
            ap (λ (z : ℕ). version_of (epoch_of z)) w ∙ q.0 ∙ ap (λ (z : ℕ). version_of (epoch_of (word s z))) e,
            get_or-set_other s.words (anchor_index b) (beside_index Start a) n 0 (λ z. omega arith),
            subst (λ (z : ℕ). (3 ≤ stage_of (epoch_of (word s z))) ⊎ IsRaising m z) e q.1,
          )

  tried : (m : Move) (hit : Bool) (b n a : ℕ) → b < k.anchors → (hit ≡ true → Comes m b n)
      → Follows m a (set s.words (anchor_index b) (cond hit n (word s b)))
  tried m true b n a lt comes = on_anchor m b n a lt (comes refl)
  tried m false b n a lt comes = on_anchor m b (word s b) a lt (same_comes m b (word s b) refl)

  -- a word that is left as it was found
  pub put_back : (p q : ℕ) → p < length s.words → get_or (set s.words p (get_or s.words p 0)) q 0 ≡ get_or s.words q 0
  put_back p q lt = dite (ℕ_discrete q p)
      (λ e. ap (λ (z : ℕ). get_or (set s.words p (get_or s.words p 0)) z 0) e ∙ get_or-set_same s.words p (get_or s.words p 0) 0 lt
      ∙ ap (λ (z : ℕ). get_or s.words z 0) (sym e))
      (λ ne. get_or-set_other s.words p q (get_or s.words p 0) 0 ne)

  left_alone : (m : Move) (p a : ℕ) → p < length s.words → Follows m a (set s.words p (get_or s.words p 0))
  left_alone m p a lt h = let w = put_back p (anchor_index a) lt in (
    ap (λ (z : ℕ). version_of (epoch_of z)) w,
    put_back p (beside_index Start a) lt,
    inl
        (let z = ap (λ (y : ℕ). stage_of (epoch_of y)) w in omega arith),
  )

  evict_from : (t b : ℕ) → MayEvict v t b → (stage_of (epoch_of (last_find b v.trail)) ≡ 3)
      ⊎ (stage_of (epoch_of (last_find b v.trail)) ≡ 4)
  evict_from t b (inl h) = inl (let z = mode_of-idle (last_find b v.trail) h.2 in omega arith)
  evict_from t b (inr h) = ⊎_elim (λ q. inr q) (λ q. inl (let z = q in omega arith)) (stage_of-left_over (last_find b v.trail) h.2)

  evicts : (m : Move) (b n : ℕ) → word s b ≡ n → (stage_of (epoch_of n) ≡ 3) ⊎ (stage_of (epoch_of n) ≡ 4) → Comes m b (evicted (word s b))
  evicts m b n e from h = let g = ap (λ (z : ℕ). stage_of (epoch_of z)) e in
      (version_of-raised (word s b) (5 - stage_of (epoch_of (word s b))) (omega arith), inl (omega arith))

  taken_low : (u : ℕ) → stage_of (epoch_of (word_at u 1)) ≡ 1
  taken_low u = ap stage_of (epoch_of-word_at u 1) ∙ omega arith

  raise_comes : (t : ℕ) (to : Stage) → Allowed k s v (Raise t to)
      → Comes (Raise t to) (anchor_of (tab_at v t)) (raised (word s (anchor_of (tab_at v t))) (stage_number to - stage_held (tab_at v t)))
  raise_comes t to may h = ⊎_elim
      (λ (q : Rattle.core_model.specs.Tabs.OfWriter (λ w. MayRaise w to × StartsRight k s w) (tab_at v t)). let w = of_writer
      (λ w. MayRaise w to × StartsRight k s w) (tab_at v t) q in (
        same (stage_low (ap stage_held w.1) (omega_low w.0)),
        inr record
            { t = t; to = to; is = refl; writer = w.0; tab = w.1; anchor_is = ap anchor_of (sym w.1); right = w.2.1 },
      ))
      (λ (q : Rattle.core_model.specs.Tabs.OfFreer (λ f. MayEnd f to) (tab_at v t)). let f = of_freer (λ f. MayEnd f to) (tab_at v t) q in
      (same (stage_low (ap stage_held f.1) (omega arith)), inl (let z = found in let y = ap stage_held f.1 in omega arith)))
      may.1
    where
      found : stage_of (epoch_of (word s (anchor_of (tab_at v t)))) ≡ stage_held (tab_at v t)
      found = (knows k s i v (Raise t to) so.anchors at record { pass = pass; allowed = may }).1

      omega_low : (w : Writer X) → stage_held (Writing w) ≤ 5
      omega_low w = let z = written_low w.is_appending in omega arith

      stage_low : {g h : ℕ} → g ≡ h → h ≤ 5 → g ≤ 5
      stage_low e le = omega arith

      same : stage_held (tab_at v t) ≤ 5 → version_of
          (epoch_of (raised (word s (anchor_of (tab_at v t))) (stage_number to - stage_held (tab_at v t)))) ≡ version_of
          (epoch_of (word s (anchor_of (tab_at v t))))
      same le = version_of-raised (word s (anchor_of (tab_at v t))) (stage_number to - stage_held (tab_at v t)) (let z = found in
          let y = number_low to in omega arith)

  -- To store a word beside an anchor.

  stores : (t : ℕ) (side : Side) (value a : ℕ) → a < k.anchors → Allowed k s v (StoreSide t side value)
      → Follows (StoreSide t side value) a (set s.words (index k (Beside side (anchor_of (tab_at v t)))) value)
  stores t side value a lt may h = dite (ℕ_discrete (index k (Beside side (anchor_of (tab_at v t)))) (beside_index Start a))
      (λ e. absurd (let q = of_writer (λ w. (w.is_appending ≡ false) × MayStore k w side value) (tab_at v t) may.2 in
      let m = (matches_writer k s so.anchors i t q.0 record
      { view = v; at = at; there = tab_was k s i v so.anchors so.slots at pass t (Writing q.0) (let z = may.0 in omega arith) q.1 }).1
      in
      let low = side_below side in let b : anchor_of (tab_at v t) ≡ a = omega arith in
      let here : q.0.anchor ≡ a = ap anchor_of (sym q.1) ∙ b in
      let w = get_or-set_other s.words (index k (Beside side (anchor_of (tab_at v t)))) (anchor_index a) value 0
      (λ z. beside_far k side a (anchor_of (tab_at v t)) (sym z)) in
      let g = m.stage_is in let y = written_low q.0.is_appending in let z = ap (λ (c : ℕ). stage_of (epoch_of (word s c))) here in
      let x = ap (λ (c : ℕ). stage_of (epoch_of c)) w in omega arith))
      (λ ne. far (StoreSide t side value) (index k (Beside side (anchor_of (tab_at v t)))) value a
      (beside_far k side a (anchor_of (tab_at v t))) ne h)

  -- what a step makes of the words of an anchor
  pub follows : (m : Move) → Allowed k s v m → (a : ℕ) → a < k.anchors → Follows m a (after k s i v m).words
  follows (Look b) may a lt = on_anchor (Look b) b (word s b) a may (same_comes (Look b) b (word s b) refl)
  follows (Enter t b) may a lt = on_anchor (Enter t b) b (word s b + 1) a may.0
      (same_comes (Enter t b) b (word s b + 1) (epoch_of-more (word s b) (let f = few_readers k s i v so.anchors at pass b may.0 in
      omega arith)))
  follows (Leave t) may a lt = let b : ℕ = anchor_of (tab_at v t) in
      on_anchor (Leave t) b (word s b - 1) a (counted_inside k s i v so at pass t may.0 may.1)
      (same_comes (Leave t) b (word s b - 1) (epoch_of-less (word s b)
      (knows k s i v (Leave t) so.anchors at record { pass = pass; allowed = may }).1))
  follows Count may a lt = far Count (counter_index k) (get_or s.words (counter_index k) 0) a (λ e. omega arith) (λ e. omega arith)
  follows Draw may a lt = far Draw (counter_index k) (get_or s.words (counter_index k) 0 + 1) a (λ e. omega arith) (λ e. omega arith)
  follows (Take t b u) may a lt = tried (Take t b u) (word s b == last_find b v.trail) b (word_at u 1) a may.0
      (λ hit h. absurd (let z = taken_low u in omega arith))
  follows (Evict t b) may a lt = tried (Evict t b) (word s b == last_find b v.trail) b (evicted (word s b)) a may.0
      (λ hit. evicts (Evict t b) b (last_find b v.trail) (eqb-true (word s b) (last_find b v.trail) hit) (evict_from t b may.1))
  follows (Raise t to) may a lt = on_anchor (Raise t to) (anchor_of (tab_at v t))
      (raised (word s (anchor_of (tab_at v t))) (stage_number to - stage_held (tab_at v t))) a
      (either_inside k s i v so at pass t (λ w. MayRaise w to × StartsRight k s w) (λ f. MayEnd f to) may.0 may.1) (raise_comes t to may)
  follows (Doom t) may a lt = let n : ℕ = word s (anchor_of (tab_at v t)) in
      on_anchor (Doom t) (anchor_of (tab_at v t)) (doomed n) a (reading_inside k s i v so at pass t may.0 may.1)
      (λ h. (version_of-doomed n, inl (let z = stage_of-doomed n in omega arith)))
  follows (LoadSide t side) may a lt = left_alone (LoadSide t side) (index k (Beside side (anchor_of (tab_at v t)))) a
      (let z = within k (Beside side (anchor_of (tab_at v t))) (place_inside k s i v so at pass (LoadSide t side) may) in
      let y = so.anchors.shaped.words in omega arith)
  follows (StoreSide t side value) may a lt = stores t side value a lt may
  follows (LookMap t word) may a lt = far (LookMap t word) (map_index k word) (get_or s.words (map_index k word) 0) a (λ e. omega arith)
      (λ e. omega arith)
  follows (LogPiece t slot durable) may a lt = far (LogPiece t slot durable) (log_index k) _ a (λ e. omega arith) (λ e. omega arith)
  follows (Own t slot) may a lt = far (Own t slot) (map_index k (slot / 64)) _ a (λ e. omega arith) (λ e. omega arith)
  follows (Disown t slot) may a lt = far (Disown t slot) (map_index k (slot / 64)) _ a (λ e. omega arith) (λ e. omega arith)
  follows (Publish t slot link) may a lt = far (Publish t slot link) (link_index k slot) _ a (λ e. omega arith) (λ e. omega arith)
  follows (Loosen t slot) may a lt = far (Loosen t slot) (link_index k slot) 0 a (λ e. omega arith) (λ e. omega arith)
  follows (GetLink t slot) may a lt = far (GetLink t slot) (link_index k slot) (get_or s.words (link_index k slot) 0) a (λ e. omega arith)
      (λ e. omega arith)
  follows (TryTurn t slot) may a lt = far (TryTurn t slot) (turn_index k slot) _ a (λ e. omega arith) (λ e. omega arith)
  follows (EndTurn t slot then) may a lt = far (EndTurn t slot then) (turn_index k slot) 0 a (λ e. omega arith) (λ e. omega arith)
  follows (CellOut t slot) may a lt = same_follows (CellOut t slot) a
  follows (CellIn t slot) may a lt = same_follows (CellIn t slot) a
  follows Note may a lt = same_follows Note a
  follows (Learn note) may a lt = same_follows (Learn note) a
  follows (Write t slot outcome) may a lt = same_follows (Write t slot outcome) a
  follows (Sync t slot kept) may a lt = same_follows (Sync t slot kept) a

not_raising : (t u slot : ℕ) (is_durable : Bool) (to : Stage) → LogPiece u slot is_durable ≡ Raise t to → ⊥
not_raising t u slot is_durable to e = cc

pub starts_kept : {X : Type 0} → (k : Setting X) (s : State X) (log : List LoggedPiece) (i : ℕ) (v : View X) (m : Move) → Sound k s
    → LinksStand k s log → StartsNamed k s log → get_elem? s.views i ≡ some v → IsPass v → Allowed k s v m
    → StartsNamed k (after k s i v m) (logged_now k s v m ++ log)
starts_kept {X} k s log i v m so st starts at pass may l c version late = ⊎_elim new old (split (logged_now k s v m) log l c)
  where
    inside_new : Contains (logged_now k s v m) l → l.anchor < k.anchors
    inside_new q = let n = new_is k s log i v so st at m may l q in
        let w = matches_writer k s so.anchors i n.t n.writer (my_tab k s log i v so st at n.t n.writer n.is) in let e = n.anchor_is in
        omega arith

    -- the version of a piece that the step logs is still written
    new : Contains (logged_now k s v m) l → Names (side_word k (after k s i v m) Start l.anchor) l.piece.first
    new q = let n = new_is k s log i v so st at m may l q in
        let w = (matches_writer k s so.anchors i n.t n.writer (my_tab k s log i v so st at n.t n.writer n.is)).1 in
        let f = follows k s i v so at pass m may l.anchor (inside_new q) late in ⊎_elim
        (λ (z : 3 ≤ stage_of (epoch_of (word s l.anchor))). absurd (let g = w.stage_is in let low = written_low n.writer.is_appending in
        let e = ap (λ (a : ℕ). stage_of (epoch_of (word s a))) n.anchor_is in omega arith))
        (λ (z : IsRaising k s i v so at pass m l.anchor). absurd (not_raising z.t n.t n.slot n.is_durable z.to (sym n.logs_it ∙ z.is)))
        f.2

    -- one that a tab writes which raises the stage begins at the first slot that it published
    raised_names : Contains log l → (z : IsRaising k s i v so at pass m l.anchor)
        → version_of (epoch_of (word s l.anchor)) ≡ l.piece.version → Names (side_word k s Start l.anchor) l.piece.first
    raised_names q z same = let tab = my_tab k s log i v so st at z.t z.writer z.tab in
        let w = matches_writer k s so.anchors i z.t z.writer tab in
        let is = st.writers i z.t z.writer tab l q
        (sym same ∙ ap (λ (a : ℕ). version_of (epoch_of (word s a))) (sym z.anchor_is) ∙ w.1.version_is) in
        subst (λ (n : ℕ). Names n l.piece.first) (sym (ap (side_word k s Start) (sym z.anchor_is) ∙ start z.writer.is_appending refl))
        (subst (Names (start_number z.writer.published)) (sym is.first) (names_first z.writer.published l.slot))
      where
        start : (b : Bool) → z.writer.is_appending ≡ b → side_word k s Start z.writer.anchor ≡ start_number z.writer.published
        start false e = z.right e
        start true e = let tab = my_tab k s log i v so st at z.t z.writer z.tab in
            let w = matches_writer k s so.anchors i z.t z.writer tab in
            let g : stage_of (epoch_of (word s z.writer.anchor)) ≡ 2 = w.1.stage_is ∙ ap (λ (c : Bool). cond c 2 1) e in
            let a : ℕ = z.writer.anchor in
            let holds = so.slots.tabs i v at z.t (Writing z.writer) (writes_at v.tabs z.t z.writer z.tab) in
            let told = stage_told k s.words a w.0 in
            sym (told_in k.anchors a (side_word k s Start a) w.0) ∙ (so.slots.stand a w.0).starts (omega arith) (omega arith)
            ∙ ap (λ (c : Chain). start_number c.slots) holds.chain

    old : Contains log l → Names (side_word k (after k s i v m) Start l.anchor) l.piece.first
    old q = let f = follows k s i v so at pass m may l.anchor (version_stands k s log l so st q).0 late in let same = sym f.0 ∙ version in
        subst (λ (n : ℕ). Names n l.piece.first) (sym f.1) (⊎_elim
        (λ (z : 3 ≤ stage_of (epoch_of (word s l.anchor))). starts l q same z)
        (λ (z : IsRaising k s i v so at pass m l.anchor). raised_names q z same)
        f.2)
