-- How a script ends.
use Rattle.std.proofs.Common.{◌≡◌, ◌≢◌, ℕ, List, [], ◌∷◌, ◌++◌, length, get_or, replicate, zero, suc, false, arith, refl, ap, sym, ◌∙◌, subst}
use Rattle.std.specs.Prelude.{◌==◌}
use Rattle.std.proofs.lemmas.Bool.{false≢true}
use Rattle.std.proofs.lemmas.List.Elements.{All-nil}
use Rattle.script_text.specs.Words.{lines_of}
use Rattle.script_text.specs.Lines.{IsLine, IsMarked, AreLines, total_of}
use Rattle.script_text.specs.Lines.AreLines.{no_line}
use Rattle.script_text.specs.Reading.{lines_read, IsReading, IsFront, IsUnbroken}
use Rattle.script_text.specs.Script.{IsScript}
use Rattle.script_text.specs.declared.line.Line.{Line}
use Rattle.script_text.specs.declared.reading.Reading.{Reading}
use Rattle.script_text.proofs.Fronts.{last_script}

no_mark : (mark : ℕ) → ¬ IsMarked [] mark
no_mark mark (line, (k, within, is), sets) = omega arith

pub finished : (old : Reading) (after : List Line) → IsUnbroken old.begun.items → old.begun.items ≢ []
    → (line : Line) × IsLine old.workers (lines_read old) old.begun.items line × (after ≡ lines_read old ++ line ∷ [])
    → (front : List ℕ) → IsFront old front → IsScript old.workers front after
finished old after whole some (line, is, lines) front was =
    subst (λ (l : List Line). IsScript old.workers front l) (sym lines) (last_script old front line was whole some is)

pub no_bytes : (bytes : List ℕ) → length bytes ≡ 0 → bytes ≡ []
no_bytes [] none = refl
no_bytes (x ∷ xs) none = absurd (omega arith)

pub some_bytes : (bytes : List ℕ) → length bytes ≢ 0 → bytes ≢ []
some_bytes bytes some none = some (ap length none)

-- at the beginning there is nothing
pub nothing_read : (reading : Reading) → lines_read reading ≡ [] → reading.total ≡ 0 → reading.begun.items ≡ [] → ((mark : ℕ) → get_or reading.marked mark false ≡ false) → IsReading reading
nothing_read reading lines total begun marks = record {
  few = let count : length (lines_read reading) ≡ 0 = ap length lines in omega arith;
  total = total ∙ sym (ap total_of lines);
  room = omega arith;
  short = let count : length reading.begun.items ≡ 0 = ap length begun in omega arith;
  unbroken = subst IsUnbroken (sym begun) (All-nil (λ b. (b == 10) ≡ false));
  marked = λ mark low. (
    λ is. absurd (false≢true (sym (marks mark) ∙ is)),
    λ is. absurd (no_mark mark (subst (λ (l : List Line). IsMarked l mark) lines is)),
  );
}

pub nothing_in_front : (reading : Reading) → lines_read reading ≡ [] → reading.begun.items ≡ [] → IsFront reading []
nothing_in_front reading lines begun = record {
  texts = [];
  lines = subst (λ (l : List Line). AreLines reading.workers [] l) (sym lines) no_line;
  cut = λ rest. ap (λ b. lines_of (b ++ rest)) (sym begun);
}

pub all_false : (n mark : ℕ) → get_or (replicate n false) mark false ≡ false
all_false zero mark = refl
all_false (suc n) zero = refl
all_false (suc n) (suc mark) = all_false n mark
