-- What is said of each command.
use Rattle.rock_status.specs.declared.status.Status.{Status}
use Rattle.rock_commands.specs.Alike.{LeavesScript, MakesOneAtMost}
use Rattle.rock_commands.specs.Bench.{BenchDoes}
use Rattle.rock_commands.specs.Create.{CreateDoes}
use Rattle.rock_commands.specs.Migrate.{MigrateDoes}
use Rattle.rock_commands.specs.Report.{CheckDoes, ListDoes}
use Rattle.rock_commands.specs.Run.{RunDoes}
use Rattle.rock_commands.specs.World.{Tells, World}
use Rattle.rock_commands.specs.declared.command.Command.{Command}
use Rattle.rock_commands.specs.declared.command.Command.TheVariants as command

-- it did what this command asks for
abbrev pub CommandDoes : Tells → Command → (before after : World) → Status → Type 0
CommandDoes tells (command.List target) before after status =
    ListDoes tells target.name.now target.slot before after status
CommandDoes tells (command.Check target anchors) before after status =
    CheckDoes tells target.name.now target.slot anchors before after status
CommandDoes tells (command.Create target) before after status =
    CreateDoes tells target.name.now target.slot target.slots before after status
CommandDoes tells (command.Run target anchors workers) before after status =
    RunDoes tells target.name.now target.slot anchors workers before after status
CommandDoes tells (command.Bench target) before after status =
    BenchDoes tells target.name.now target.seed target.workers target.count before after status
CommandDoes tells (command.Migrate target) before after status =
    MigrateDoes tells target.name.now target.slot before after status

-- all but `run` and `bench` make one station at most
abbrev pub MakesItsStations : Command → (before after : World) → Status → Type 0
MakesItsStations (command.Run target anchors workers) before after status = Unit {0}
MakesItsStations (command.Bench target) before after status = Unit {0}
MakesItsStations other before after status = MakesOneAtMost before after status

-- all but `run` leave the script alone
abbrev pub ReadsItsScript : Command → (before after : World) → Type 0
ReadsItsScript (command.Run target anchors workers) before after = Unit {0}
ReadsItsScript other before after = LeavesScript before after

-- a command was carried out
pub record CarriesOut (tells : Tells) (asked : Command) (before after : World) (status : Status) : Type 0 where
  -- What the command is asked for was done.
  pub does : CommandDoes tells asked before after status
  -- Unless it serves, it made one station at most.
  pub stations : MakesItsStations asked before after status
  -- Unless it reads a script, it left this alone.
  pub script : ReadsItsScript asked before after
