use Rattle.rock_disk.specs.File.{NoneAway}
use Rattle.rock_disk.specs.Memory.{volume_files}
use Rattle.test_dirs.proofs.opening.volume_of.Given as goal

abbrev pub invariant-loop-place : goal.invariant-loop-place
invariant-loop-place l = NoneAway (volume_files l.volume)
