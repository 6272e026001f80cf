-- What one step does to a core that goes through crashes.
use Rattle.std.specs.Prelude.{◌≡◌, ◌<◌, ℕ, List, None, Some, length, replicate, slice_index}
use Rattle.rebuild_model.specs.declared.image.FileImage.{FileImage}
use Rattle.rebuild_model.specs.declared.rebuilt.Rebuilt.{Rebuilt}
use Rattle.core_state.specs.declared.act.Step.{Step}
use Rattle.core_state.specs.declared.act.Step.TheVariants as step
use Rattle.core_state.specs.Applied.{Applies, IsSameStore, MayApply}
use Rattle.core_state.specs.Opened.{IsOpenedWith}
use Rattle.core_table.specs.New.{IsNew}
use Rattle.core_lives.specs.Crash.{ArePicked, IsPick}
use Rattle.core_lives.specs.Lived.{Lived}
use Rattle.named_rebuild.specs.declared.contents.FirstContent.{FirstContent}
use Rattle.named_rebuild.specs.declared.contents.FirstContent.TheVariants.{File}
use Rattle.named_rebuild.specs.Keeping.{IsRebuiltOfNames}

-- A crash may come where none came since the last rebuild, with one number for each slot, each of a content that its cell may hold then.
pub record MayCrash (l : Lived) (picks : List ℕ) : Type 0 where
  pub runs : l.left ≡ None
  pub many : length picks ≡ l.core.slots
  pub each : (slot : ℕ) → slot < l.core.slots → IsPick l.core slot (slice_index picks slot)

-- The step is allowed: a step of a pass where no crash came since the last rebuild, and a rebuild right after a crash.
abbrev pub MayHappen : Lived → Step → Type 0
MayHappen l (step.Act act) = (l.left ≡ None) × MayApply l.core (step.Act act)
MayHappen l (step.Crash picks) = MayCrash l picks
MayHappen l step.Rebuild = (left : List FirstContent) × (l.left ≡ Some left)

-- a pass makes a step, of this number
pub record IsActed (l : Lived) (s : Step) (number : ℕ) (then : Lived) : Type 0 where
  pub runs : l.left ≡ None
  pub made : Applies l.core s number then.core
  pub same_store : IsSameStore l.core then.core
  pub first : then.first ≡ l.first
  pub left : then.left ≡ None

-- a crash leaves what was picked, and the core as it was
pub record IsCrashed (l : Lived) (picks : List ℕ) (then : Lived) : Type 0 where
  pub may : MayCrash l picks
  pub core : then.core ≡ l.core
  pub first : then.first ≡ l.first
  pub contents : List FirstContent
  pub left : then.left ≡ Some contents
  pub picked : ArePicked l.core l.first picks contents

-- A rebuild opens the core anew over what a crash left: what it keeps stands, and all else is free.
pub record IsReopened (l then : Lived) : Type 0 where
  pub first : l.left ≡ Some then.first
  pub left : then.left ≡ None
  pub rebuilt : Rebuilt
  pub kept : IsRebuiltOfNames l.file then.first l.core.anchors rebuilt
  pub opened : IsOpenedWith rebuilt l.core.anchors l.core.slots l.core.passes then.core

-- The step is allowed, answers this number, and leaves the second life.
abbrev pub Happens : Lived → Step → ℕ → Lived → Type 0
Happens l (step.Act act) number then = IsActed l (step.Act act) number then
Happens l (step.Crash picks) number then = (number ≡ 0) × IsCrashed l picks then
Happens l step.Rebuild number then = (number ≡ 0) × IsReopened l then

-- what does not change, through any number of crashes
pub record IsSameLife (l then : Lived) : Type 0 where
  pub file : then.file ≡ l.file
  pub anchors : then.core.anchors ≡ l.core.anchors
  pub slots : then.core.slots ≡ l.core.slots
  pub passes : then.core.passes ≡ l.core.passes

-- a core that was opened over a file, before any crash
pub record IsNewLife (image : FileImage) (anchors passes : ℕ) (l : Lived) : Type 0 where
  pub core : IsNew image (length image.slots) anchors passes l.core
  pub file : l.file ≡ image
  pub first : l.first ≡ replicate (length image.slots) File
  pub left : l.left ≡ None
