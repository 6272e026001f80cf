-- What one step does to a core.
use Rattle.std.specs.Prelude.{ℕ, ◌≡◌, Some}
use Rattle.core_model.specs.declared.moves.Move.{Move}
use Rattle.core_model.specs.Steps.{IsStep, MayMove}
use Rattle.core_state.specs.declared.act.Step.{Step}
use Rattle.core_state.specs.declared.act.Step.TheVariants as step
use Rattle.core_state.specs.Decoded.{decoded}
use Rattle.core_table.specs.Machine.{Machine, setting_of, state_of}

-- a crash is of kind 23, a rebuild of kind 24
abbrev pub kind_of : Step → ℕ
kind_of (step.Act act) = act.kind
kind_of (step.Crash picks) = 23
kind_of step.Rebuild = 24

-- The step is allowed: its numbers name a move, and its pass may make it. Crashes and rebuilds are not allowed yet.
abbrev pub MayApply : Machine → Step → Type 0
MayApply m (step.Act act) = (move : Move) × (decoded act ≡ Some move) × MayMove (setting_of m) (state_of m) act.pass move
MayApply m (step.Crash picks) = ⊥
MayApply m step.Rebuild = ⊥

-- The step is allowed, answers this number, and leaves the second core.
abbrev pub Applies : Machine → Step → ℕ → Machine → Type 0
Applies m (step.Act act) number left = (move : Move) × (decoded act ≡ Some move) × IsStep (setting_of m) (state_of m) act.pass move number (state_of left)
Applies m (step.Crash picks) number left = ⊥
Applies m step.Rebuild number left = ⊥

-- what does not change while a store is open
pub record IsSameStore (m left : Machine) : Type 0 where
  pub anchors : left.anchors ≡ m.anchors
  pub slots : left.slots ≡ m.slots
  pub passes : left.passes ≡ m.passes
  pub opening : left.opening ≡ m.opening
