-- What a call that ends a line leaves of the text.
use Rattle.std.proofs.Common.{◌≡◌, ℕ, ◌+◌, List, [], ◌∷◌, ◌++◌, length, Ok, Err, subst, append_assoc}
use Rattle.std.specs.Prelude.{Result, OnOk, IfErr}
use Rattle.script_text.specs.Lines.{IsLine}
use Rattle.script_text.specs.Causes.{HasCause, IsFirst}
use Rattle.script_text.specs.Reading.{lines_read, IsFront, IsUnbroken}
use Rattle.script_text.specs.Refusals.{ReadOr, IfBad}
use Rattle.script_text.specs.Script.{IsBadScript}
use Rattle.script_text.specs.declared.line.Line.{Line}
use Rattle.script_text.specs.declared.reading.Reading.{Reading}
use Rattle.script_text.specs.declared.refusal.Refusal.{Refusal}
use Rattle.script_text.specs.declared.refusal.Refusal.TheVariants.{Bad, Memory}
use Rattle.script_text.proofs.Fronts.{front_ended, front_grown, bad_ended}

-- the bytes before the line feed were taken, and then the line ended
pub ended_well : {U : Type 0} (old mid new : Reading) (part : List ℕ) (r : Result U Refusal) → lines_read mid ≡ lines_read old → mid.workers ≡ old.workers
    → mid.begun.items ≡ old.begun.items ++ part → IsUnbroken mid.begun.items
    → ReadOr r (λ _. (line : Line) × IsLine mid.workers (lines_read mid) mid.begun.items line × (lines_read new ≡ lines_read mid ++ line ∷ [])) (IsFirst (HasCause mid.workers (lines_read mid) mid.begun.items))
    → OnOk r (new.begun.items ≡ []) → new.workers ≡ mid.workers → OnOk r ((front : List ℕ) → IsFront old front → IsFront new (front ++ (part ++ 10 ∷ [])))
ended_well old mid new part (Ok u) kept same grown whole (line, is, lines) begun workers = λ front was.
    subst (λ (text : List ℕ). IsFront new text) (append_assoc front part (10 ∷ []))
    (front_ended mid new (front ++ part) line (front_grown old mid front part was kept same grown) whole is lines workers begun)
ended_well old mid new part (Err e) kept same grown whole bad begun workers = tt

pub ended_badly : {U : Type 0} (Is : U → Type 0) (old mid : Reading) (part : List ℕ) (r : Result U Refusal) → lines_read mid ≡ lines_read old → mid.workers ≡ old.workers
    → mid.begun.items ≡ old.begun.items ++ part → IsUnbroken mid.begun.items
    → ReadOr r Is (IsFirst (HasCause mid.workers (lines_read mid) mid.begun.items))
    → IfErr r (IfBad (λ cause. (front rest : List ℕ) → IsFront old front → IsBadScript old.workers (front ++ (part ++ 10 ∷ rest)) (length (lines_read old) + 1) cause))
ended_badly Is old mid part (Ok u) kept same grown whole line = tt
ended_badly Is old mid part (Err (Bad cause)) kept same grown whole first = λ front rest was.
    subst (λ (lines : List Line). IsBadScript old.workers (front ++ (part ++ 10 ∷ rest)) (length lines + 1) cause) kept
    (subst (λ (w : ℕ). IsBadScript w (front ++ (part ++ 10 ∷ rest)) (length (lines_read mid) + 1) cause) same
    (subst (λ (text : List ℕ). IsBadScript mid.workers text (length (lines_read mid) + 1) cause) (append_assoc front part (10 ∷ rest))
    (bad_ended mid (front ++ part) rest cause (front_grown old mid front part was kept same grown) whole first)))
ended_badly Is old mid part (Err Memory) kept same grown whole first = tt
