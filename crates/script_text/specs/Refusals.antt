-- Why a line was not read.
use Rattle.std.specs.Prelude.{ℕ, ◌+◌, Result, MatchResult}
use Rattle.script_text.specs.declared.fault.ScriptFault.{ScriptFault}
use Rattle.script_text.specs.declared.fault.ScriptFault.TheVariants as fault
use Rattle.script_text.specs.declared.refusal.Refusal.{Refusal}
use Rattle.script_text.specs.declared.refusal.Refusal.TheVariants.{Bad, Memory}

-- the cause of a refusal; want of memory has none
abbrev pub IfBad : (ℕ → Type 0) → Refusal → Type 0
IfBad Has (Bad cause) = Has cause
IfBad Has Memory = Unit {0}

-- what holds of what was read, and of the cause for which it was not
abbrev pub ReadOr : {X : Type 0} → Result X Refusal → (X → Type 0) → (ℕ → Type 0) → Type 0
ReadOr r Is Has = MatchResult r Is (IfBad Has)

-- the line and the cause that a fault tells; a fault of the source comes elsewhere, and want of memory has none
abbrev pub IfBadLine : (ℕ → ℕ → Type 0) → ScriptFault → Type 0
IfBadLine Is (fault.BadLine line cause) = Is line cause
IfBadLine Is fault.Failed = ⊥
IfBadLine Is fault.Memory = Unit {0}

-- a line that was refused, as a fault tells it behind so many lines
abbrev pub fault_behind : ℕ → Refusal → ScriptFault
fault_behind lines (Bad cause) = fault.BadLine (lines + 1) cause
fault_behind lines Memory = fault.Memory
