use Rattle.std.proofs.Common.{length, ◌≡◌}
use Rattle.lock_word.specs.declared.cause.Cause.{Cause}
use Rattle.dir_set.specs.Answers.{RefusedBy}
use Rattle.dir_set.specs.Dirs.{IsDirPass, NoneBehind}
use Rattle.dir_set.proofs.Range.{Ranges}
use Rattle.dir_set.proofs.Said.{Said}
use Rattle.dir_set.proofs.opening.dir_open.Given as goal

abbrev pub invariant-loop-dir : goal.invariant-loop-dir
invariant-loop-dir g l = record {
  ranges : Ranges l.dirs l.initial.pass l.pass (Said l.dirs (λ (cause : Cause) s p q. RefusedBy g.C.Cell.tells g.C.Cell.state g.O.Origin.offers l.tab l.url s p q cause) l.causes) 0 l.dir;
  own : IsDirPass g.C.Cell.tells g.C.Cell.state g.O.Origin.offers l.dirs l.pass;
  none : NoneBehind l.dir l.causes;
  room : length l.causes ≡ 8;
}
