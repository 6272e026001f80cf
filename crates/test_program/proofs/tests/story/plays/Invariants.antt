use Rattle.rock_disk.specs.File.{NoneAway}
use Rattle.rock_disk.specs.Memory.{volume_files}
use Rattle.test_program.proofs.tests.story.plays.Given as goal

abbrev pub invariant-loop-paragraph : goal.invariant-loop-paragraph
invariant-loop-paragraph g l = NoneAway (volume_files l.stage.volume)
