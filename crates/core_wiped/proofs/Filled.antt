-- The Start word beside a doomed entry that is not gone names a slot: a step keeps it. So a tab that frees a doomed entry has its first slot
-- in hand until slots leave the chain.
use Rattle.std.proofs.Common.{◌≡◌, ◌≢◌, ◌⊎◌, inl, inr, ⊎_elim, ℕ, ◌+◌, ◌-◌, ◌/◌, ◌<◌, ◌≤◌, ◌==◌, List, [], ◌∷◌, length, get_or, set}
use Rattle.std.proofs.Common.{Bool, true, false, cond, refl, sym, ap, ◌∙◌, subst, arith, get_or-set_same, get_or-set_other}
use mathlib.Core.Option.{some}
use mathlib.Core.Logic.{dite}
use native.Mathlib.Decide.{ℕ_discrete}
use lib.ListN.{get_elem?}
use Rattle.lock_word.specs.Words.{doom_number, doom_of, doomed, epoch_of, evicted, raised, stage_number, stage_of, word_at}
use Rattle.lock_word.proofs.Readers.{epoch_of-more, epoch_of-less}
use Rattle.lock_word.proofs.Taking.{doom_of-epoch_at, epoch_of-word_at}
use Rattle.lock_word.proofs.Raising.{doom_of-raised, stage_of-raised}
use Rattle.lock_word.specs.declared.stage.Stage.{Stage}
use Rattle.core_model.specs.declared.moves.Move.{Move}
use Rattle.core_model.specs.declared.moves.Move.TheVariants.{Look, Enter, Leave, Count, Draw, Take, Evict, Raise, Doom, LoadSide}
use Rattle.core_model.specs.declared.moves.Move.TheVariants.{StoreSide, Own, Disown, Publish, Loosen, GetLink, TryTurn, EndTurn, CellOut}
use Rattle.core_model.specs.declared.moves.Move.TheVariants.{CellIn, Note, Learn, Write, Sync, LookMap, LogPiece}
use Rattle.core_model.specs.declared.moves.Side.{Side}
use Rattle.core_model.specs.declared.moves.Side.TheVariants.{Start}
use Rattle.core_model.specs.declared.tab.Freer.{Freer}
use Rattle.core_model.specs.declared.tab.Tab.{Tab}
use Rattle.core_model.specs.declared.tab.Tab.TheVariants.{Free, Freeing, Last, Reading, Retreating, Writing}
use Rattle.core_model.specs.declared.view.Place.TheVariants.{Beside}
use Rattle.core_model.specs.declared.view.View.{View}
use Rattle.core_model.specs.AnchorMoves.{MayEnd, MayRaise, StartsRight}
use Rattle.core_model.specs.Anchors.{opening_epoch}
use Rattle.core_model.specs.Chains.{start_number}
use Rattle.core_model.specs.Deeds.{IsDone, LeftEpoch}
use Rattle.core_model.specs.Holders.{IsTab}
use Rattle.core_model.specs.Layout.{Setting, anchor_index, beside_index, counter_index, index, link_index, log_index, map_index, turn_index}
use Rattle.core_model.specs.SlotMoves.{MayStore}
use Rattle.core_model.specs.Slots.{FreerHolds, ReaderHolds}
use Rattle.core_model.specs.Sound.{Sound}
use Rattle.core_model.specs.State.{State, chain_of, side_word, word}
use Rattle.core_model.specs.Steps.{after}
use Rattle.core_model.specs.Table.{Allowed}
use Rattle.core_model.specs.Tabs.{IsPass, anchor_of, is_reading, stage_held, tab_at}
use Rattle.core_model.specs.Trails.{last_find}
use Rattle.core_model.proofs.EntersKept.{few_readers}
use Rattle.core_model.proofs.Knowing.{knows}
use Rattle.core_model.proofs.Matching.{matches_freed, matches_freer, matches_writer}
use Rattle.core_model.proofs.Places.{beside_far, side_below, within}
use Rattle.core_model.proofs.ReservesKept.{of_writer, tab_was}
use Rattle.core_model.proofs.StepPlaces.{counted_inside, place_inside, reading_inside, either_inside}
use Rattle.core_model.proofs.Telling.{stage_told, told_in}
use Rattle.core_wiped.specs.Wipes.{DoomedStart}
use Rattle.core_wiped.proofs.Starts.{number_low, put_back}

start_some : (xs : List ℕ) → 0 < length xs → 0 < start_number xs
start_some [] lt = absurd (omega arith)
start_some (x ∷ xs) lt = omega arith

module _ {X : Type 0} (k : Setting X) (s : State X) (i : ℕ) (v : View X) (so : Sound k s) (at : get_elem? s.views i ≡ some v)
    (pass : IsPass v) (filled : DoomedStart k s) where
  -- where this is the word of the anchor then, and doomed, the Start word there names a slot
  abbrev Comes : ℕ → ℕ → Type 0
  Comes b n = doom_of (epoch_of n) ≡ 1 → stage_of (epoch_of n) ≤ 5 → 0 < side_word k s Start b

  -- so it is of words like these
  abbrev Filled : ℕ → List ℕ → Type 0
  Filled a words = doom_of (epoch_of (get_or words (anchor_index a) 0)) ≡ 1 → stage_of (epoch_of (get_or words (anchor_index a) 0)) ≤ 5
      → 0 < get_or words (beside_index Start a) 0

  wide : (b : ℕ) → b < k.anchors → anchor_index b < length s.words
  wide b lt = let m = so.anchors.shaped.words in omega arith

  -- the word and the Start word are as they were
  as_before : (words : List ℕ) (a : ℕ) → a < k.anchors → get_or words (anchor_index a) 0 ≡ word s a
      → get_or words (beside_index Start a) 0 ≡ side_word k s Start a → Filled a words
  as_before words a lt w f doom low = subst (λ (y : ℕ). 0 < y) (sym f)
      (filled a lt (ap (λ (y : ℕ). doom_of (epoch_of y)) (sym w) ∙ doom) (subst (λ (y : ℕ). stage_of (epoch_of y) ≤ 5) w low))

  far : (p n a : ℕ) → a < k.anchors → p ≢ anchor_index a → p ≢ beside_index Start a → Filled a (set s.words p n)
  far p n a lt e f = as_before (set s.words p n) a lt (get_or-set_other s.words p (anchor_index a) n 0 (λ q. e (sym q)))
      (get_or-set_other s.words p (beside_index Start a) n 0 (λ q. f (sym q)))

  left_alone : (p a : ℕ) → a < k.anchors → p < length s.words → Filled a (set s.words p (get_or s.words p 0))
  left_alone p a lt inside = as_before (set s.words p (get_or s.words p 0)) a lt (put_back k s i v so at pass p (anchor_index a) inside)
      (put_back k s i v so at pass p (beside_index Start a) inside)

  same_comes : (b n : ℕ) → b < k.anchors → epoch_of n ≡ epoch_of (word s b) → Comes b n
  same_comes b n lt e doom low = filled b lt (ap doom_of (sym e) ∙ doom) (subst (λ (y : ℕ). stage_of y ≤ 5) e low)

  raised_comes : (b by : ℕ) → b < k.anchors → stage_of (epoch_of (word s b)) + by < 7 → Comes b (raised (word s b) by)
  raised_comes b by lt room doom low = filled b lt (sym (doom_of-raised (word s b) by room) ∙ doom)
      (let z = stage_of-raised (word s b) by room in omega arith)

  on_anchor : (b n a : ℕ) → b < k.anchors → a < k.anchors → Comes b n → Filled a (set s.words (anchor_index b) n)
  on_anchor b n a lb la comes = dite (ℕ_discrete a b) (λ e. subst (λ (z : ℕ). Filled z (set s.words (anchor_index b) n)) (sym e) here)
      (λ ne. far (anchor_index b) n a la (λ e. ne (omega arith)) (λ e. omega arith))
    where
      here : Filled b (set s.words (anchor_index b) n)
      here doom low = let w = get_or-set_same s.words (anchor_index b) n 0 (wide b lb) in
          subst (λ (y : ℕ). 0 < y) (sym (get_or-set_other s.words (anchor_index b) (beside_index Start b) n 0 (λ z. omega arith)))
          (comes (ap (λ (y : ℕ). doom_of (epoch_of y)) (sym w) ∙ doom) (subst (λ (y : ℕ). stage_of (epoch_of y) ≤ 5) w low))

  tried : (hit : Bool) (b n a : ℕ) → b < k.anchors → a < k.anchors → Comes b n
      → Filled a (set s.words (anchor_index b) (cond hit n (word s b)))
  tried true b n a lb la comes = on_anchor b n a lb la comes
  tried false b n a lb la comes = on_anchor b (word s b) a lb la (same_comes b (word s b) lb refl)

  takes : (b u : ℕ) → Comes b (word_at u 1)
  takes b u doom low = absurd (let z = ap doom_of (epoch_of-word_at u 1) ∙ doom_of-epoch_at u 1 (omega arith) in omega arith)

  evicts : (b : ℕ) → b < k.anchors → Comes b (evicted (word s b))
  evicts b lt = raised_comes b (5 - stage_of (epoch_of (word s b))) lt (let z = (so.anchors.shaped.anchors b lt).stage in omega arith)

  raises : (t : ℕ) (to : Stage) → anchor_of (tab_at v t) < k.anchors → Allowed k s v (Raise t to)
      → Comes (anchor_of (tab_at v t)) (raised (word s (anchor_of (tab_at v t))) (stage_number to - stage_held (tab_at v t)))
  raises t to lt may = let found = (knows k s i v (Raise t to) so.anchors at record { pass = pass; allowed = may }).1 in
      raised_comes (anchor_of (tab_at v t)) (stage_number to - stage_held (tab_at v t)) lt
      (let z = (so.anchors.shaped.anchors (anchor_of (tab_at v t)) lt).stage in let y = number_low to in omega arith)

  -- an entry that a tab reads has a slot
  has_start : (t : ℕ) (x : Tab X) → get_elem? v.tabs t ≡ some x → is_reading x ≡ true → 0 < side_word k s Start (anchor_of x)
  has_start t (Reading r) there e = let st = so.anchors.tabs i v at t (Reading r) there in
      let holds : ReaderHolds (chain_of s r.anchor) r = so.slots.tabs i v at t (Reading r) there in
      let from = st.1.from in let to = st.1.to in let told = stage_told k s.words r.anchor st.0 in
      subst (λ (n : ℕ). 0 < n) (sym (sym (told_in k.anchors r.anchor (side_word k s Start r.anchor) st.0)
      ∙ (so.slots.stand r.anchor st.0).starts (omega arith) (omega arith))) (start_some (chain_of s r.anchor).slots holds.some_slot)
  has_start t Free there e = cc
  has_start t (Retreating b) there e = cc
  has_start t (Writing w) there e = cc
  has_start t (Last b) there e = cc
  has_start t (Freeing f) there e = cc

  -- while a tab stores words beside an anchor at TAKEN, nothing is doomed there
  taken_undoomed : (a : ℕ) → a < k.anchors → stage_of (epoch_of (word s a)) ≡ 1 → doom_of (epoch_of (word s a)) ≡ 1 → ⊥
  taken_undoomed a lt one doom = ⊎_elim
      (λ (q : epoch_of (word s a) ≡ opening_epoch k a). let z = sym doom ∙ ap doom_of q ∙ so.anchors.setting.undoomed a lt in omega arith)
      (λ (q : IsDone s (LeftEpoch a (epoch_of (word s a)))). let z = so.deeds_tell.grown a (epoch_of (word s a)) q doom in omega arith)
      (so.anchors.deeds.left a (epoch_of (word s a)) (inl (lt, refl)))

  stores : (t : ℕ) (side : Side) (value a : ℕ) → a < k.anchors → Allowed k s v (StoreSide t side value)
      → Filled a (set s.words (index k (Beside side (anchor_of (tab_at v t)))) value)
  stores t side value a lt may = dite (ℕ_discrete (index k (Beside side (anchor_of (tab_at v t)))) (beside_index Start a))
      (λ e doom low. absurd (let q = of_writer (λ w. (w.is_appending ≡ false) × MayStore k w side value) (tab_at v t) may.2 in
      let m = (matches_writer k s so.anchors i t q.0 record
      { view = v; at = at; there = tab_was k s i v so.anchors so.slots at pass t (Writing q.0) (let z = may.0 in omega arith) q.1 }).1
      in
      let below = side_below side in let b : anchor_of (tab_at v t) ≡ a = omega arith in
      let here : q.0.anchor ≡ a = ap anchor_of (sym q.1) ∙ b in
      let w = get_or-set_other s.words (index k (Beside side (anchor_of (tab_at v t)))) (anchor_index a) value 0
      (λ z. beside_far k side a (anchor_of (tab_at v t)) (sym z)) in
      taken_undoomed a lt (ap (λ (c : ℕ). stage_of (epoch_of (word s c))) (sym here) ∙ m.stage_is ∙ ap (λ (c : Bool). cond c 2 1) q.2.0)
      (ap (λ (y : ℕ). doom_of (epoch_of y)) (sym w) ∙ doom)))
      (λ ne. far (index k (Beside side (anchor_of (tab_at v t)))) value a lt (beside_far k side a (anchor_of (tab_at v t))) ne)

  -- what a step makes of the words of an anchor
  fills : (m : Move) → Allowed k s v m → (a : ℕ) → a < k.anchors → Filled a (after k s i v m).words
  fills (Look b) may a lt = on_anchor b (word s b) a may lt (same_comes b (word s b) may refl)
  fills (Enter t b) may a lt = on_anchor b (word s b + 1) a may.0 lt
      (same_comes b (word s b + 1) may.0 (epoch_of-more (word s b) (let f = few_readers k s i v so.anchors at pass b may.0 in omega arith)))
  fills (Leave t) may a lt = let b : ℕ = anchor_of (tab_at v t) in let inside = counted_inside k s i v so at pass t may.0 may.1 in
      on_anchor b (word s b - 1) a inside lt
      (same_comes b (word s b - 1) inside (epoch_of-less (word s b)
      (knows k s i v (Leave t) so.anchors at record { pass = pass; allowed = may }).1))
  fills Count may a lt = far (counter_index k) (get_or s.words (counter_index k) 0) a lt (λ e. omega arith) (λ e. omega arith)
  fills Draw may a lt = far (counter_index k) (get_or s.words (counter_index k) 0 + 1) a lt (λ e. omega arith) (λ e. omega arith)
  fills (Take t b u) may a lt = tried (word s b == last_find b v.trail) b (word_at u 1) a may.0 lt (takes b u)
  fills (Evict t b) may a lt = tried (word s b == last_find b v.trail) b (evicted (word s b)) a may.0 lt (evicts b may.0)
  fills (Raise t to) may a lt = let inside = either_inside k s i v so at pass t (λ w. MayRaise w to × StartsRight k s w)
      (λ f. MayEnd f to) may.0 may.1 in
      on_anchor (anchor_of (tab_at v t)) (raised (word s (anchor_of (tab_at v t))) (stage_number to - stage_held (tab_at v t))) a inside lt
      (raises t to inside may)
  fills (Doom t) may a lt = on_anchor (anchor_of (tab_at v t)) (doomed (word s (anchor_of (tab_at v t)))) a
      (reading_inside k s i v so at pass t may.0 may.1) lt
      (λ doom low. has_start t (tab_at v t) (tab_was k s i v so.anchors so.slots at pass t (tab_at v t) may.0 refl) may.1)
  fills (LoadSide t side) may a lt = left_alone (index k (Beside side (anchor_of (tab_at v t)))) a lt
      (let z = within k (Beside side (anchor_of (tab_at v t))) (place_inside k s i v so at pass (LoadSide t side) may) in
      let y = so.anchors.shaped.words in omega arith)
  fills (StoreSide t side value) may a lt = stores t side value a lt may
  fills (LookMap t word) may a lt = far (map_index k word) (get_or s.words (map_index k word) 0) a lt (λ e. omega arith) (λ e. omega arith)
  fills (LogPiece t slot durable) may a lt = far (log_index k) _ a lt (λ e. omega arith) (λ e. omega arith)
  fills (Own t slot) may a lt = far (map_index k (slot / 64)) _ a lt (λ e. omega arith) (λ e. omega arith)
  fills (Disown t slot) may a lt = far (map_index k (slot / 64)) _ a lt (λ e. omega arith) (λ e. omega arith)
  fills (Publish t slot link) may a lt = far (link_index k slot) _ a lt (λ e. omega arith) (λ e. omega arith)
  fills (Loosen t slot) may a lt = far (link_index k slot) 0 a lt (λ e. omega arith) (λ e. omega arith)
  fills (GetLink t slot) may a lt = far (link_index k slot) (get_or s.words (link_index k slot) 0) a lt (λ e. omega arith) (λ e. omega arith)
  fills (TryTurn t slot) may a lt = far (turn_index k slot) _ a lt (λ e. omega arith) (λ e. omega arith)
  fills (EndTurn t slot then) may a lt = far (turn_index k slot) 0 a lt (λ e. omega arith) (λ e. omega arith)
  fills (CellOut t slot) may a lt = filled a lt
  fills (CellIn t slot) may a lt = filled a lt
  fills Note may a lt = filled a lt
  fills (Learn note) may a lt = filled a lt
  fills (Write t slot outcome) may a lt = filled a lt
  fills (Sync t slot kept) may a lt = filled a lt

  pub filled_kept : (m : Move) → Allowed k s v m → DoomedStart k (after k s i v m)
  filled_kept m may a lt = fills m may a lt

-- a tab that frees a doomed entry, of which no slot has left the chain, has a slot of it
pub freed_some : {X : Type 0} → (k : Setting X) (s : State X) (i t : ℕ) (f : Freer X) → Sound k s → DoomedStart k s → IsTab s i t (Freeing f)
    → f.is_freeing ≡ true → f.is_whole ≡ true → f.is_doomed ≡ true → f.rest ≢ []
freed_some {X} k s i t f so filled tab freeing whole doom empty = let lt = (so.anchors.tabs i tab.view tab.at t (Freeing f) tab.there).0 in
    let five = matches_freer k s so.anchors i t f tab freeing in
    let start = filled f.anchor lt ((matches_freed k s so.anchors i t f tab freeing).doom_is ∙ ap doom_number doom) (omega arith) in
    let holds : FreerHolds _ _ _ tab.view f = so.slots.tabs i tab.view tab.at t (Freeing f) tab.there in
    let none = sym (told_in k.anchors f.anchor (side_word k s Start f.anchor) lt) ∙ holds.starts whole ∙ ap start_number empty in
    absurd (omega arith)
