use Rattle.std.proofs.Common.{vec_capacity, ◌≡◌}
use Rattle.dir_set.proofs.Dealing.{Dealing}
use Rattle.dir_set.proofs.parts.deal.Given as goal

abbrev pub invariant-loop-pass : goal.invariant-loop-pass
invariant-loop-pass g l = record {
  dealing : Dealing l.initial.workers l.workers l.initial.passes.items l.passes.items l.passes.len;
  kept : vec_capacity l.passes ≡ vec_capacity l.initial.passes;
}

abbrev pub decreases-loop-pass : goal.decreases-loop-pass
decreases-loop-pass g l = goal.left-loop-pass g l
