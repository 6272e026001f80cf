-- The lines of a script that was read are numbered in order.
use Rattle.std.proofs.Common.{List, [], ap, arith, length, refl, suc, sym, zero, ◌++◌, ◌+◌, ◌∷◌, ◌≡◌, ℕ}
use mathlib.Core.Option.{some, some-injective, some-ne-none}
use lib.ListN.{get_elem?}
use Rattle.script_text.specs.Lines.{AreLines}
use Rattle.script_text.specs.Lines.AreLines.{no_line, one_more}
use Rattle.script_text.specs.declared.line.Line.{Line}
use Rattle.plain_runs.specs.Runs.{Numbered}
use Rattle.run_rules.specs.Plain.{AreInOrder}

numbered_push : (n : ℕ) (lines : List Line) (line : Line) → Numbered n lines → line.number ≡ n + length lines + 1
    → Numbered n (lines ++ line ∷ [])
numbered_push n [] line h is = (omega arith, tt)
numbered_push n (x ∷ lines) line h is = (h.0, numbered_push (n + 1) lines line h.1 (omega arith))

numbered : {workers : ℕ} {texts : List (List ℕ)} {lines : List Line} → AreLines workers texts lines → Numbered 0 lines
numbered no_line = tt
numbered (one_more {lines = lines} {line = line} before is) = numbered_push 0 lines line (numbered before)
    (let n = is.numbered in omega arith)

-- one line after the other, or by their places
by_place : (n : ℕ) (lines : List Line) → Numbered n lines → (k : ℕ) (line : Line) → get_elem? lines k ≡ some line → line.number ≡ n + k + 1
by_place n [] h k line at = absurd (some-ne-none line (sym at))
by_place n (x ∷ lines) h zero line at = let same = ap (λ (l : Line). l.number) (some-injective x line at) in let is = h.0 in
    omega (arith, same, is)
by_place n (x ∷ lines) h (suc k) line at = let is = by_place (n + 1) lines h.1 k line at in omega (arith, is)

in_turn : (n : ℕ) (lines : List Line) → ((k : ℕ) (line : Line) → get_elem? lines k ≡ some line → line.number ≡ n + k + 1) → Numbered n lines
in_turn n [] h = tt
in_turn n (x ∷ lines) h = let first = h 0 x refl in (
  omega (arith, first),
  in_turn (n + 1) lines (λ k line at. let is = h (suc k) line at in omega (arith, is)),
)

pub one_by_one : (lines : List Line) → AreInOrder lines → Numbered 0 lines
one_by_one lines h = in_turn 0 lines (λ k line at. let is = h k line at in omega (arith, is))

pub read_in_order : {workers : ℕ} {texts : List (List ℕ)} {lines : List Line} → AreLines workers texts lines → AreInOrder lines
read_in_order {lines = lines} are k line at = let is = by_place 0 lines (numbered are) k line at in omega (arith, is)
