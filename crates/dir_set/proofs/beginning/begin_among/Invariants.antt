use Rattle.std.proofs.Common.{length, ◌<◌, ◌≡◌, ◌≤◌, ◌⊎◌, ℕ}
use Rattle.rock_writer.specs.declared.fault.BeginFault.{BeginFault}
use Rattle.dir_set.specs.Beginning.{RefusedBegin}
use Rattle.dir_set.specs.Dirs.{IsDirPass, answer_at}
use Rattle.dir_set.proofs.Range.{Ranges}
use Rattle.dir_set.proofs.Said.{Said}
use Rattle.dir_set.proofs.beginning.begin_among.Given as goal

abbrev pub invariant-loop-dir : goal.invariant-loop-dir
invariant-loop-dir g l = record {
  ranges : Ranges l.dirs l.initial.pass l.pass (Said l.dirs (λ (fault : BeginFault) s p q. RefusedBegin g.C.Cell.tells g.C.Cell.state g.O.Origin.offers l.tab l.line l.url l.durable s p q fault) l.faults) l.from l.dir;
  own : IsDirPass g.C.Cell.tells g.C.Cell.state g.O.Origin.offers l.dirs l.pass;
  beside : (d : ℕ) → (d < l.from) ⊎ (l.dir ≤ d) → answer_at l.faults d ≡ answer_at l.initial.faults d;
  room : length l.faults ≡ 8;
}
