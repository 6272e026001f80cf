-- How a command ends the program.
use Rattle.std.specs.Prelude.{◌≡◌, ℕ}
use Rattle.rock_status.specs.Status.{code_of}
use Rattle.rock_status.specs.declared.status.Status.{Status}

-- the program ended with the code of a status that has these causes
pub record EndsFor (Causes : Status → Type 0) (code : ℕ) : Type 0 where
  -- a status
  pub status : Status
  -- whose code this is
  pub is : code ≡ code_of status
  -- and of which these hold
  pub causes : Causes status
