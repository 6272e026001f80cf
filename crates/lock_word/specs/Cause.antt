-- Why a look-up of a key finds no entry to read.
use Rattle.std.specs.Prelude.{ℕ, List, Bool, true, false, if◌then◌else◌, Option, Some, None}
use Rattle.std.specs.Str.{bytes_eq}
use Rattle.lock_word.specs.declared.stage.Stage.{Stage}
use Rattle.lock_word.specs.declared.stage.Stage.TheVariants.{Empty, Taken, Halted, Freeing, Gone}
use Rattle.lock_word.specs.declared.epoch.Epoch.{Epoch}
use Rattle.lock_word.specs.declared.cause.Cause.{Cause}
use Rattle.lock_word.specs.declared.cause.Cause.TheVariants.{Absent, Writing, Leaving, OtherKey}

-- The cause at an epoch, for the key that is kept there and the one that is wanted: the first of these that applies. None
-- is a hit.
abbrev pub cause_of : Epoch → List ℕ → List ℕ → Option Cause
cause_of e key wanted = first e.stage e.doom
  where
    first : Stage → Bool → Option Cause
    first Empty doom = Some (Absent e)
    first Gone doom = Some (Absent e)
    first Taken doom = Some (Writing e)
    first stage true = Some (Leaving e)
    first Halted false = Some (Leaving e)
    first Freeing false = Some (Leaving e)
    first stage false = (if bytes_eq key wanted then None else Some (OtherKey e key))
