-- What a command line asks for.
use Rattle.std.specs.Prelude.{ℕ, List}
use Rattle.rock_commands.specs.CommandLine.{IsList, IsCheck, IsCreate, IsRun, IsBench, IsMigrate}
use Rattle.rock_commands.specs.declared.command.Command.{Command}
use Rattle.rock_commands.specs.declared.command.Command.TheVariants as command

-- the words are this command
abbrev pub IsCommand : List (List ℕ) → Command → Type 0
IsCommand words (command.List target) = IsList words target.name.now target.slot
IsCommand words (command.Check target anchors) = IsCheck words target.name.now target.slot anchors
IsCommand words (command.Create target) = IsCreate words target.name.now target.slot target.slots
IsCommand words (command.Run target anchors workers) = IsRun words target.name.now target.slot anchors workers
IsCommand words (command.Bench target) = IsBench words target.name.now target.seed target.workers target.count
IsCommand words (command.Migrate target) = IsMigrate words target.name.now target.slot
