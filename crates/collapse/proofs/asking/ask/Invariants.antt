use Rattle.std.proofs.Common.{◌-◌, ◌≤◌}
use Rattle.rock_writer.specs.Beginning.{MayBegin}
use Rattle.collapse.specs.Asking.{AskedOnly}
use Rattle.collapse.specs.Passes.{FollowsForward}
use Rattle.collapse.proofs.asking.ask.Given as goal

abbrev pub invariant-loop-looks : goal.invariant-loop-looks
invariant-loop-looks g l = record {
  asked : AskedOnly g.C.Cell.tells g.C.Cell.state g.O.Origin.offers l.store l.tab l.offer l.url l.initial.pass l.looks l.pass;
  may : MayBegin g.C.Cell.tells g.C.Cell.state g.O.Origin.offers l.store l.pass l.tab l.offer l.url;
  follows : FollowsForward g.C.Cell.tells g.C.Cell.state g.O.Origin.offers l.store l.tab l.initial.pass l.pass;
  under : l.looks ≤ l.most;
}

abbrev pub decreases-loop-looks : goal.decreases-loop-looks
decreases-loop-looks g l = l.most - l.looks
