-- The words that rules have for an epoch that is given by its number: its stage and its doom by their names. Its version is `version_of`.
use Rattle.std.specs.Prelude.{◌+◌, ◌<◌, ◌≡◌, ◌≤◌, ℕ}
use Rattle.lock_word.specs.Words.{doom_of, epoch_at, stage_number, stage_of}
use Rattle.lock_word.specs.declared.stage.Stage.{Stage}
use Rattle.lock_word.specs.declared.stage.Stage.TheVariants.{Closed}

-- the epoch is at this stage
abbrev pub IsAtStage : Stage → ℕ → Type 0
IsAtStage stage e = stage_of e ≡ stage_number stage

-- at this one or a later one
abbrev pub IsFromStage : Stage → ℕ → Type 0
IsFromStage stage e = stage_number stage ≤ stage_of e

-- at this one or an earlier one
abbrev pub IsUpToStage : Stage → ℕ → Type 0
IsUpToStage stage e = stage_of e ≤ stage_number stage

-- at an earlier one
abbrev pub IsBeforeStage : Stage → ℕ → Type 0
IsBeforeStage stage e = stage_of e < stage_number stage

abbrev pub IsDoomed : ℕ → Type 0
IsDoomed e = doom_of e ≡ 1

abbrev pub IsUndoomed : ℕ → Type 0
IsUndoomed e = doom_of e ≡ 0

-- the epoch of this version at this stage, not doomed
abbrev pub undoomed_at : Stage → ℕ → ℕ
undoomed_at stage version = epoch_at version (stage_number stage)

-- the epoch of this version at CLOSED, and doomed
abbrev pub closed_and_doomed : ℕ → ℕ
closed_and_doomed version = epoch_at version (8 + stage_number Closed)
