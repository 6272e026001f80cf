-- Which calls fail, as callers see it of a plan.
use Rattle.std.specs.Prelude.{ℕ, List, Contains}
use Rattle.rock_io.specs.Faults.{one_more}
use Rattle.rock_io.specs.declared.plan.Plan.{Plan}

-- the numbers from 0 of the calls that are listed to fail, and the number of the next call
pub record Schedule : Type 0 where
  pub fail : List ℕ
  pub number : ℕ

abbrev pub schedule_of : Plan → Schedule
schedule_of plan = record { fail = plan.fail.items; number = plan.calls }

-- how many calls failed
abbrev pub faults_of : Plan → ℕ
faults_of plan = plan.faults

-- before the first call
abbrev pub planned : List ℕ → Schedule
planned fail = record { fail = fail; number = 0 }

-- after one more call
abbrev pub called : Schedule → Schedule
called schedule = record { fail = schedule.fail; number = one_more schedule.number }

-- the next call is listed to fail
abbrev pub FailsNext : Schedule → Type 0
FailsNext schedule = Contains schedule.fail schedule.number
