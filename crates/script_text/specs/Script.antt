-- Whole scripts.
use Rattle.std.specs.Prelude.{◌≡◌, ℕ, ◌+◌, Bool, IsTrue, List, [], ◌∷◌, ◌++◌, length}
use Rattle.script_text.specs.Words.{lines_of}
use Rattle.script_text.specs.Lines.{AreLines}
use Rattle.script_text.specs.Causes.{HasCause, IsFirst}
use Rattle.script_text.specs.declared.fault.ScriptFault.{ScriptFault}
use Rattle.script_text.specs.declared.fault.ScriptFault.TheVariants.{BadLine, Failed, Memory}
use Rattle.script_text.specs.declared.line.Line.{Line}

-- the text is a script of these lines
abbrev pub IsScript : ℕ → List ℕ → List Line → Type 0
IsScript workers text lines = AreLines workers (lines_of text) lines

-- the first bad line of the text, and its first cause
pub record IsBadScript (workers : ℕ) (text : List ℕ) (number cause : ℕ) : Type 0 where
  pub texts : List (List ℕ)
  pub lines : List Line
  pub bad : List ℕ
  pub behind : List (List ℕ)
  pub cut : lines_of text ≡ texts ++ bad ∷ behind
  pub good : AreLines workers texts lines
  pub numbered : number ≡ length texts + 1
  pub first : IsFirst (HasCause workers lines bad) cause

-- a source, which had these bytes before and has these after, gave a script of these lines to its end
abbrev pub GivesScript : Bool → ℕ → List ℕ → List ℕ → List Line → Type 0
GivesScript tells workers before after lines = (text : List ℕ) × IsScript workers text lines × (IsTrue tells → (text ≡ before) × (after ≡ []))

-- the text that a source was to give has this first bad line, by this first cause
abbrev pub GivesBadLine : Bool → ℕ → List ℕ → ℕ → ℕ → Type 0
GivesBadLine tells workers before line cause = (text : List ℕ) × IsBadScript workers text line cause × (IsTrue tells → text ≡ before)

-- why a script was not read: a bad line, or a fault of the source; want of memory is told by nothing
abbrev pub Explains : (ℕ → ℕ → Type 0) → Type 0 → ScriptFault → Type 0
Explains IsBad HasFailed (BadLine line cause) = IsBad line cause
Explains IsBad HasFailed Failed = HasFailed
Explains IsBad HasFailed Memory = Unit {0}

-- some bytes of a source were taken from its front
abbrev pub IsTakenFrom : Bool → List ℕ → List ℕ → Type 0
IsTakenFrom tells before after = IsTrue tells → (front : List ℕ) × (before ≡ front ++ after)
