-- Logged pieces have numbers, one after the other, and there are fewer of them than the counter can tell.
use Rattle.std.proofs.Common.{◌≡◌, ◌≢◌, ◌⊎◌, inl, inr, ⊎_elim, ℕ, zero, suc, ◌+◌, ◌*◌, ◌^◌, ◌<◌, ◌≤◌, List, [], ◌∷◌, ◌++◌, get_or, length, sym, refl, ap, ◌∙◌, subst, arith, Bool, cond, ◌==◌, Option, Some, None, Contains, get_or-set_same, get_or-set_other, eq-eqb}
use Rattle.std.proofs.lemmas.Bool.{ne_eqb}
use mathlib.Core.Option.{some}
use mathlib.Core.Logic.{dite}
use native.Mathlib.Decide.{ℕ_discrete}
use lib.ListN.{get_elem?}
use Rattle.lock_word.specs.Words.{version_limit}
use Rattle.core_model.specs.declared.chain.Chain.{Chain}
use Rattle.core_model.specs.declared.moves.Move.{Move}
use Rattle.core_model.specs.declared.moves.Move.TheVariants.{LogPiece}
use Rattle.core_model.specs.declared.tab.Piece.{Piece}
use Rattle.core_model.specs.declared.tab.Tab.{Tab}
use Rattle.core_model.specs.declared.tab.Tab.TheVariants.{Writing}
use Rattle.core_model.specs.declared.tab.Writer.{Writer}
use Rattle.core_model.specs.declared.view.LoggedPiece.{LoggedPiece}
use Rattle.core_model.specs.declared.view.Place.{Place}
use Rattle.core_model.specs.declared.view.Place.TheVariants.{LogCounter}
use Rattle.core_model.specs.declared.view.View.{View}
use Rattle.core_model.specs.Layout.{Setting, index, log_index, word_in}
use Rattle.core_model.specs.State.{State, chain_of}
use Rattle.core_model.specs.Chains.{no_chain}
use Rattle.core_model.specs.Tabs.{tab_at, count, IsPass}
use Rattle.core_model.specs.CellMoves.{MayLog}
use Rattle.core_model.specs.Slots.{slot_words, WriterHolds}
use Rattle.core_model.specs.Spots.{slots_held, slots_chained}
use Rattle.core_model.specs.Steps.{after, words_after}
use Rattle.core_model.specs.Sound.{Sound}
use Rattle.core_model.specs.Table.{Allowed, place}
use Rattle.core_model.proofs.Lists.{cons_contains, contains_none, le_sum_at}
use Rattle.core_model.proofs.Places.{apart}
use Rattle.core_model.proofs.SlotsCounted.{slots_counted}
use Rattle.core_model.proofs.StepPlaces.{IsInside, place_inside}
use Rattle.core_log.specs.Logged.{LinksStand, NumbersStand, log_counter, logged_now, logged_with, piece_logged}
use Rattle.core_log.proofs.Few.{few}
use Rattle.core_log.proofs.LinksKept.{IsNew, new_is, split, writes_at}
use Rattle.core_model.proofs.ReservesKept.{of_writer}
use Rattle.std.proofs.lemmas.List.Elements.{Contains-append_left, Contains-append_right}

-- one number for the version and the place of a piece
abbrev code : LoggedPiece → ℕ
code l = l.piece.place * 4294967296 + l.piece.version

code_of : List LoggedPiece → ℕ → ℕ
code_of [] n = 0
code_of (l ∷ ls) n = cond (l.number == n) (code l) (code_of ls n)

-- it is that of a piece with this number, if there is one
code_found : (log : List LoggedPiece) (l : LoggedPiece) → Contains log l → (m : LoggedPiece) × Contains log m × (m.number ≡ l.number) × (code_of log l.number ≡ code m)
unfolding code_of
code_found [] l c = absurd (contains_none l c)
code_found (x ∷ xs) l c = dite (ℕ_discrete x.number l.number)
    (λ e. (x, (0, omega arith, refl), e, ap (λ (b : Bool). cond b (code x) (code_of xs l.number)) (eq-eqb x.number l.number e)))
    (λ ne. ⊎_elim
    (λ (q : x ≡ l). absurd (ne (ap LoggedPiece.number q)))
    (λ (q : Contains xs l). let r = code_found xs l q in (r.0, (suc r.1.0, (let z = r.1.1 in omega arith), r.1.2), r.2, ap (λ (b : Bool). cond b (code x) (code_of xs l.number)) (ne_eqb x.number l.number ne) ∙ r.3))
    (cons_contains x l xs c))

module _ {X : Type 0} (k : Setting X) (s : State X) (log : List LoggedPiece) (links : LinksStand k s log) (st : NumbersStand k s log) where
  -- there are at most as many as there are versions and places
  pub few_logged : log_counter k s ≤ k.slots * 2 ^ 32
  few_logged = few (k.slots * 2 ^ 32) (log_counter k s) (code_of log)
      (λ n lt. let q = st.each n lt in let c = code_found log q.0 q.1 in let i = st.inside c.0 c.1 in let e = ap (code_of log) (sym q.2) in omega arith)
      (λ a b la lb e. let p = st.each a la in let q = st.each b lb in let c = code_found log p.0 p.1 in let d = code_found log q.0 q.1 in
      let same : code c.0 ≡ code d.0 = sym c.3 ∙ ap (code_of log) p.2 ∙ e ∙ ap (code_of log) (sym q.2) ∙ d.3 in
      let i = st.inside c.0 c.1 in let j = st.inside d.0 d.1 in
      let version : c.0.piece.version ≡ d.0.piece.version = omega arith in
      let places : c.0.piece.place ≡ d.0.piece.place = omega arith in
      sym p.2 ∙ sym c.2 ∙ ap LoggedPiece.number ((links.agree c.0 d.0 c.1 d.1 version).place places) ∙ d.2 ∙ q.2)

-- a step on another word leaves the counter
abbrev IsOther : Move → Type 0
IsOther (LogPiece t slot is_durable) = ⊥
IsOther m = Unit {0}

module _ {X : Type 0} (k : Setting X) (s : State X) (log : List LoggedPiece) (i : ℕ) (v : View X) (so : Sound k s) (links : LinksStand k s log) (st : NumbersStand k s log) (at : get_elem? s.views i ≡ some v) (pass : IsPass v) where
  off_counter : (m : Move) → IsOther m → place v m ≢ Some LogCounter
  off_counter (LogPiece t slot is_durable) other e = other
  off_counter m other e = cc

  word_stays : (o : Option Place) → IsInside k o → o ≢ Some LogCounter → (n : ℕ) → word_in k (words_after k s.words o n) LogCounter ≡ word_in k s.words LogCounter
  word_stays None inside off n = refl
  word_stays (Some p) inside off n = get_or-set_other s.words (index k p) (log_index k) n 0 (λ e. off (ap Some (apart k p LogCounter inside tt (sym e))))

  counter_stays : (m : Move) → IsOther m → Allowed k s v m → log_counter k (after k s i v m) ≡ log_counter k s
  counter_stays m other may = word_stays (place v m) (place_inside k s i v so at pass m may) (off_counter m other) _

  counter_goes_on : (t slot : ℕ) (is_durable : Bool) → log_counter k (after k s i v (LogPiece t slot is_durable)) ≡ log_counter k s + 1
  counter_goes_on t slot is_durable = get_or-set_same s.words (log_index k) _ 0 (let w = so.anchors.shaped.words in omega arith) ∙ (let f = few_logged k s log links st in let g = st.few in omega arith)

  -- a piece that a tab logs is within the limit, and there is a slot for it
  new_inside : (t slot : ℕ) (w : Writer X) → get_elem? v.tabs t ≡ some (Writing w) → MayLog slot w → (w.version ≤ version_limit) × (length w.published < k.slots)
  new_inside t slot w was may = ((so.cells.writers i v at t (Writing w) was).fits, within)
    where
      holds : WriterHolds ((slot_words k s.words).beside w.anchor) (chain_of s w.anchor) w
      holds = so.slots.tabs i v at t (Writing w) was

      item_at : (xs : List Chain) (n : ℕ) → n < length xs → get_elem? xs n ≡ some (get_or xs n no_chain)
      item_at [] n lt = absurd (omega arith)
      item_at (x ∷ xs) zero lt = refl
      item_at (x ∷ xs) (suc n) lt = item_at xs n (omega arith)

      within : length w.published < k.slots
      within = let all = slots_counted k s so.slots in let a = le_sum_at slots_held v.tabs t (Writing w) was in let b = le_sum_at (count slots_held) s.views i v at in
          let c = le_sum_at slots_chained s.chains w.anchor (chain_of s w.anchor) (item_at s.chains w.anchor (let z = so.anchors.shaped.chains in let y = (so.anchors.tabs i v at t (Writing w) was).0 in omega arith)) in
          let d = ap (λ (x : Chain). length x.slots) holds.chain in let e = ap length may.first in omega arith

  stays : (m : Move) → IsOther m → Allowed k s v m → NumbersStand k (after k s i v m) log
  stays m other may = let e = counter_stays m other may in record {
    few = st.few;
    inside = st.inside;
    below = λ l c. subst (λ (n : ℕ). l.number < n) (sym e) (st.below l c);
    once = st.once;
    each = λ n lt. st.each n (subst (λ (z : ℕ). n < z) e lt);
  }

  module _ (t slot : ℕ) (is_durable : Bool) (may : Allowed k s v (LogPiece t slot is_durable)) where
    abbrev m : Move
    m = LogPiece t slot is_durable

    abbrev New : LoggedPiece → Type 0
    New l = IsNew k s log i v so links at m may l

    either : (l : LoggedPiece) → Contains (logged_now k s v m ++ log) l → New l ⊎ Contains log l
    either l c = ⊎_elim (λ (q : Contains (logged_now k s v m) l). inl (new_is k s log i v so links at m may l q)) (λ (q : Contains log l). inr q) (split (logged_now k s v m) log l c)

    old : (l : LoggedPiece) → Contains log l → Contains (logged_now k s v m ++ log) l
    old l c = Contains-append_right (logged_now k s v m) log l c

    -- the piece that the tab logs
    the_new : (l : LoggedPiece) × Contains (logged_now k s v m) l × (l.number ≡ log_counter k s)
    the_new = let q = of_writer (MayLog slot) (tab_at v t) may.1 in let l : LoggedPiece = piece_logged slot is_durable (log_counter k s) q.0 in
        (l, subst (λ (x : Tab X). Contains (logged_with slot is_durable (log_counter k s) x) l) (sym q.1) (0, omega arith, refl), refl)

    goes_on : log_counter k (after k s i v m) ≡ log_counter k s + 1
    goes_on = counter_goes_on t slot is_durable

    inside_now : (l : LoggedPiece) → New l → (l.piece.version ≤ version_limit) × (l.piece.place < k.slots)
    inside_now l n = let q = new_inside n.t n.slot n.writer (writes_at v.tabs n.t n.writer n.is) n.may_log in let a = ap Piece.version n.piece_is in let b = ap Piece.place n.piece_is in (let z = q.0 in omega arith, let z = q.1 in omega arith)

    logs : NumbersStand k (after k s i v m) (logged_now k s v m ++ log)
    logs = record {
      few = st.few;
      inside = λ l c. ⊎_elim (λ (n : New l). inside_now l n) (λ (q : Contains log l). st.inside l q) (either l c);
      below = λ l c. ⊎_elim (λ (n : New l). let e = n.number_is in let g = goes_on in omega arith) (λ (q : Contains log l). let b = st.below l q in let g = goes_on in omega arith) (either l c);
      once = λ l r cl cr e. ⊎_elim
          (λ (n : New l). ⊎_elim
          (λ (q : Contains (logged_now k s v m) r). n.only r q)
          (λ (q : Contains log r). absurd (let a = n.number_is in let b = st.below r q in omega arith))
          (split (logged_now k s v m) log r cr))
          (λ (c : Contains log l). ⊎_elim
          (λ (n : New r). absurd (let a = n.number_is in let b = st.below l c in omega arith))
          (λ (q : Contains log r). st.once l r c q e)
          (either r cr))
          (either l cl);
      each = λ n lt. dite (ℕ_discrete n (log_counter k s))
          (λ e. (the_new.0, Contains-append_left (logged_now k s v m) log the_new.0 the_new.1, the_new.2 ∙ sym e))
          (λ ne. let q = st.each n (let g = goes_on in omega arith) in (q.0, old q.0 q.1, q.2));
    }

  pub numbers_kept : (m : Move) → Allowed k s v m → NumbersStand k (after k s i v m) (logged_now k s v m ++ log)
  numbers_kept (LogPiece t slot is_durable) may = logs t slot is_durable may
  numbers_kept m may = stays m tt may
