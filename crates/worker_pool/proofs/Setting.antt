-- Which worker sets a mark, and what its seat may set.
use Rattle.std.proofs.Common.{◌≡◌, ◌≢◌, ℕ, ◌+◌, ◌<◌, ◌==◌, true, false, List, [], ◌∷◌, ◌++◌, length, get_or, set, sym, ap, ◌∙◌, subst, eq-eqb, below_more, get_or-set_same, get_or-set_other}
use Rattle.std.specs.Prelude.{slice_index}
use Rattle.script_text.specs.declared.line.Line.{Line}
use Rattle.script_text.specs.declared.request.Request.TheVariants.{Mark}
use Rattle.marks.specs.declared.places.Marks.{Marks}
use Rattle.marks.specs.declared.seat.MarkSeat.{MarkSeat}
use Rattle.marks.specs.Seats.{IsSeatOf, Dealt, AreDealt}
use Rattle.worker_pool.specs.declared.notes.Of.{Of}
use Rattle.worker_pool.specs.Courses.{At, sets, sets_by}
use Rattle.worker_pool.specs.Knowing.{HasMarks}
use Rattle.worker_pool.specs.Crews.{Sets}
use Rattle.worker_pool.proofs.Places.{one_at, at_same, at_front, at_last, none_at}

-- the lines before this place are told
abbrev pub AreSetters : List Line → List ℕ → ℕ → Type 0
AreSetters lines setters n = (k m : ℕ) (line : Line) → At lines k line → k < n → line.request ≡ Mark m → slice_index setters m ≡ line.worker

other_mark : (lines : List Line) (j k m n : ℕ) (x y : Line) → HasMarks lines → At lines j x → At lines k y → j < k → x.request ≡ Mark m → y.request ≡ Mark n → m ≢ n
other_mark lines j k m n x y has ax ay lt ex ey same =
    let never : sets n x ≡ false = none_at (sets n) lines j k x ax lt ((has.set k n y ay ey).1) in
    let is : (m == n) ≡ true = eq-eqb m n same in
    let clash : true ≡ false = sym is ∙ (sym (ap (sets_by n) ex) ∙ never) in cc

pub setters_next : (lines : List Line) (setters : List ℕ) (i n : ℕ) (line : Line) → HasMarks lines → At lines i line → line.request ≡ Mark n → n < length setters → AreSetters lines setters i → AreSetters lines (set setters n line.worker) (i + 1)
setters_next lines setters i n line has at e lt before k m other here le q = below_more
    (λ (j : ℕ). (l : ℕ) (x : Line) → At lines j x → x.request ≡ Mark l → slice_index (set setters n line.worker) l ≡ x.worker) i
    (λ j less l x ax r. get_or-set_other setters n l line.worker 0 (other_mark lines j i l n x line has ax at less r e) ∙ before j l x ax less r)
    (λ l x ax r. let one : x ≡ line = one_at lines i x line ax at in
    let mark : l ≡ n = (let both : Mark l ≡ Mark n = sym r ∙ (ap (λ (y : Line). y.request) one ∙ e) in cc) in
    ap (λ (y : ℕ). get_or (set setters n line.worker) y 0) mark ∙ (get_or-set_same setters n line.worker 0 lt ∙ sym (ap (λ (y : Line). y.worker) one)))
    k le m other here q

pub setters_skip : (lines : List Line) (setters : List ℕ) (i : ℕ) (line : Line) → At lines i line → ((m : ℕ) → line.request ≡ Mark m → ⊥) → AreSetters lines setters i → AreSetters lines setters (i + 1)
setters_skip lines setters i line at none before k m other here le q = below_more
    (λ (j : ℕ). (l : ℕ) (x : Line) → At lines j x → x.request ≡ Mark l → slice_index setters l ≡ x.worker) i
    (λ j less l x ax r. before j l x ax less r)
    (λ l x ax r. absurd (none l (sym (ap (λ (y : Line). y.request) (one_at lines i x line ax at)) ∙ r)))
    k le m other here q

module _ {H N : Type 0} where
  dealt_at : (marks : Marks N (Of H) H) (setters : List ℕ) (seats all : List (MarkSeat N (Of H) H)) (w : ℕ) (seat : MarkSeat N (Of H) H) → At all w seat → AreDealt marks setters all → Dealt marks setters (w + 1) seat
  dealt_at marks setters seats all w seat at dealt = subst (Dealt marks setters (w + 1)) at.1 (dealt w seat at.0)

  -- the last seat is kept apart
  pub sets_of : (marks : Marks N (Of H) H) (lines : List Line) (setters : List ℕ) (all seats : List (MarkSeat N (Of H) H)) (last : MarkSeat N (Of H) H) → HasMarks lines
      → ((k m : ℕ) (line : Line) → At lines k line → line.request ≡ Mark m → slice_index setters m ≡ line.worker) → all ≡ seats ++ last ∷ [] → AreDealt marks setters all → Sets marks lines seats
  sets_of marks lines setters all seats last has are e dealt w seat at =
      let d = dealt_at marks setters seats all w seat (at_same (seats ++ last ∷ []) all w seat (sym e) (at_front seats (last ∷ []) w seat at)) dealt in
      (d.own, (λ k m line here mine q. d.may m ((has.set k m line here q).0) (are k m line here q ∙ mine)))

  pub last_of : (marks : Marks N (Of H) H) (setters : List ℕ) (all seats : List (MarkSeat N (Of H) H)) (last : MarkSeat N (Of H) H) → all ≡ seats ++ last ∷ [] → AreDealt marks setters all → IsSeatOf marks last
  last_of marks setters all seats last e dealt = (dealt_at marks setters seats all (length seats) last (at_same (seats ++ last ∷ []) all (length seats) last (sym e) (at_last seats last)) dealt).own
