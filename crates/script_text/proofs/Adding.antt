-- A line is put behind others.
use Rattle.std.proofs.Common.{◌≡◌, ◌≢◌, ◌⊎◌, ℕ, ◌+◌, ◌<◌, ◌≤◌, Bool, true, false, List, [], ◌∷◌, ◌++◌, length, get_or, set, arith, inl, inr, refl, ap, sym, ◌∙◌, subst, zero, suc, zero-add}
use Rattle.std.specs.Prelude.{Contains, IsTrue, ◌↔◌}
use Rattle.std.proofs.lemmas.Bool.{cases_eq}
use Rattle.std.proofs.lemmas.List.{get_or-set_same, get_or-set_other, length-append}
use Rattle.std.proofs.lemmas.List.Elements.{Contains-append_left, Contains-append_right, Contains-append_cases}
use Rattle.std.proofs.lemmas.List.Sums.{sum_by-append}
use Rattle.script_text.specs.Lines.{total_of, IsMarked}
use Rattle.script_text.specs.Reading.{lines_read, IsReading, IsUnbroken}
use Rattle.script_text.specs.Requests.{offered_size}
use Rattle.script_text.specs.declared.reading.Reading.{Reading}
use Rattle.script_text.specs.declared.line.Line.{Line}
use Rattle.script_text.specs.declared.request.Request.TheVariants.{Mark}

pub total_more : (lines : List Line) (line : Line) → total_of (lines ++ line ∷ []) ≡ total_of lines + offered_size line.request
total_more lines line = sum_by-append (λ l. offered_size l.request) lines (line ∷ []) ∙ ap (λ n. total_of lines + n) (zero-add (offered_size line.request))

only : (line other : Line) → Contains (line ∷ []) other → line ≡ other
only line other (zero, within, is) = is
only line other (suc k, within, is) = absurd (omega arith)

pub marked_more : (lines : List Line) (line : Line) (mark : ℕ) → IsMarked (lines ++ line ∷ []) mark → IsMarked lines mark ⊎ (line.request ≡ Mark mark)
marked_more lines line mark (one, among, sets) =
    elim (Contains-append_cases lines (line ∷ []) one among) [
      | inl before ↦ inl (one, before, sets)
      | inr last ↦ inr (ap (λ l. l.request) (only line one last) ∙ sets)
    ]

pub marked_before : (lines : List Line) (line : Line) (mark : ℕ) → IsMarked lines mark → IsMarked (lines ++ line ∷ []) mark
marked_before lines line mark (one, among, sets) = (one, Contains-append_left lines (line ∷ []) one among, sets)

pub marked_now : (lines : List Line) (line : Line) (mark : ℕ) → line.request ≡ Mark mark → IsMarked (lines ++ line ∷ []) mark
marked_now lines line mark sets = (line, Contains-append_right lines (line ∷ []) line (0, omega arith, refl), sets)

-- where the line sets no mark
pub marks_stay : (marks : List Bool) (lines : List Line) (line : Line) → ((mark : ℕ) → line.request ≢ Mark mark)
    → ((mark : ℕ) → mark < 64 → (IsTrue (get_or marks mark false) ↔ IsMarked lines mark))
    → (mark : ℕ) → mark < 64 → (IsTrue (get_or marks mark false) ↔ IsMarked (lines ++ line ∷ []) mark)
marks_stay marks lines line none were mark low = (
  λ is. marked_before lines line mark ((were mark low).0 is),
  λ is. elim (marked_more lines line mark is) [ inl before ↦ (were mark low).1 before | inr now ↦ absurd (none mark now) ],
)

same_mark : (m n : ℕ) → Mark m ≡ Mark n → m ≡ n
same_mark m n is = cc

-- where it sets one
pub marks_grow : (marks : List Bool) (lines : List Line) (line : Line) (new : ℕ) → line.request ≡ Mark new → new < length marks
    → ((mark : ℕ) → mark < 64 → (IsTrue (get_or marks mark false) ↔ IsMarked lines mark))
    → (mark : ℕ) → mark < 64 → (IsTrue (get_or (set marks new true) mark false) ↔ IsMarked (lines ++ line ∷ []) mark)
marks_grow marks lines line new sets within were mark low =
    elim (cases_eq mark new) as (λ _. IsTrue (get_or (set marks new true) mark false) ↔ IsMarked (lines ++ line ∷ []) mark) [
      | inl same ↦ (λ is. subst (λ (m : ℕ). IsMarked (lines ++ line ∷ []) m) (sym same) (marked_now lines line new sets), λ is. subst (λ (m : ℕ). IsTrue (get_or (set marks new true) m false)) (sym same) (get_or-set_same marks new true false within))
      | inr other ↦
          let kept : get_or (set marks new true) mark false ≡ get_or marks mark false = get_or-set_other marks new mark true false other in (
            λ is. marked_before lines line mark ((were mark low).0 (sym kept ∙ is)),
            λ is. kept ∙ elim (marked_more lines line mark is) as (λ _. get_or marks mark false ≡ true) [
              | inl before ↦ (were mark low).1 before
              | inr now ↦ absurd (other (same_mark mark new (sym now ∙ sets)))
            ],
          )
    ]

-- what is known of a reading with one line more
pub reading_more : (after : Reading) (lines : List Line) (line : Line) → lines_read after ≡ lines ++ line ∷ [] → length lines < 4096
    → after.total ≡ total_of lines + offered_size line.request → after.total ≤ 67108864 → length after.begun.items ≤ 8192 → IsUnbroken after.begun.items
    → ((mark : ℕ) → mark < 64 → (IsTrue (get_or after.marked mark false) ↔ IsMarked (lines ++ line ∷ []) mark)) → IsReading after
reading_more after lines line is few total room short unbroken marked = record {
  few = let count : length (lines_read after) ≡ length lines + 1 = ap length is ∙ length-append lines (line ∷ []) in omega arith;
  total = total ∙ sym (total_more lines line) ∙ ap total_of (sym is);
  room = room;
  short = short;
  unbroken = unbroken;
  marked = subst (λ (all : List Line). (mark : ℕ) → mark < 64 → (IsTrue (get_or after.marked mark false) ↔ IsMarked all mark)) (sym is) marked;
}
