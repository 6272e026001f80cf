-- The lines that workers may be given.
use Rattle.std.specs.Prelude.{◌≤◌, Contains, List, ℕ}
use Rattle.script_text.specs.declared.line.Line.{Line}
use Rattle.rock_run.specs.Asked.{IsAsked, IsFound}
use Rattle.worker_pool.specs.Knowing.{HasMarks}

-- The lines may be served by `workers` workers, however many lines there are: each line is for one of the workers and is the first of its
-- number, what it asks names tabs and URLs of a script, marks are below 64, and no two lines set one mark.
pub record MayBeServed (workers : ℕ) (lines : List Line) : Type 0 where
  pub within : (line : Line) → Contains lines line → (1 ≤ line.worker) × (line.worker ≤ workers)
  pub found : (line : Line) → Contains lines line → IsFound lines line
  pub asked : (line : Line) → Contains lines line → IsAsked line.request
  pub marks : HasMarks lines
