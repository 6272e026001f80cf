-- Lists of steps, crashes and rebuilds, and the lives that they lead through.
use Rattle.std.specs.Prelude.{◌≡◌, ◌+◌, ℕ, List, length}
use mathlib.Core.Option.{some}
use lib.ListN.{get_elem?}
use Rattle.core_state.specs.declared.act.Step.{Step}
use Rattle.core_lives.specs.Happening.{Happens, IsSameLife}
use Rattle.core_lives.specs.Lived.{Lived}

-- There is one life more than steps, and each step is allowed in the life before it, and leaves the one behind it.
pub record LeadsThrough (steps : List Step) (lives : List Lived) : Type 0 where
  pub count : length lives ≡ length steps + 1
  pub follows : (i : ℕ) (s : Step) (before after : Lived) → get_elem? steps i ≡ some s → get_elem? lives i ≡ some before → get_elem? lives (i + 1) ≡ some after
      → IsSameLife before after × ((number : ℕ) × Happens before s number after)
