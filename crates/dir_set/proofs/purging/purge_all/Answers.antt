use Rattle.std.proofs.Common.{arith, refl, ◌∙◌}
use Rattle.purge_entry.specs.Purging.{MayPurge}
use Rattle.dir_set.proofs.Opens.{missed_none}
use Rattle.dir_set.proofs.Range.{all_dirs, none_yet, untouched}
use Rattle.dir_set.proofs.Said.{Purges, purges_on}
use Rattle.dir_set.proofs.purging.purge_all.Goals as goal

pub loop-dir-init : goal.loop-dir-init
loop-dir-init g c = record {
  ranges = none_yet c.args.dirs.now _ 0 c.args.pass.now;
  own = c.requires.pass;
  none_left = missed_none 8 0;
  none_causes = missed_none 8 0;
  room = (refl, refl);
}

pub purge_in-requires-clause-none : goal.purge_in-requires-clause-none
purge_in-requires-clause-none g c = (c.loop-dir.invariant.none_left c.loop-dir.dir (omega arith), c.loop-dir.invariant.none_causes c.loop-dir.dir (omega arith))

pub purge_in-requires-clause-may : goal.purge_in-requires-clause-may
purge_in-requires-clause-may g c = untouched c.args.dirs.now c.args.pass.now c.loop-dir.pass _ 0 c.loop-dir.dir c.loop-dir.invariant.ranges
    (λ s p. MayPurge g.C.Cell.tells g.C.Cell.state g.O.Origin.offers s p c.args.url.now) (c.requires.may c.loop-dir.dir)

pub loop-dir-preserved : goal.loop-dir-preserved
loop-dir-preserved g c = let i = c.loop-dir.invariant in let e = c.purge_in.ensures in record {
  ranges = purges_on g.C.Cell.tells g.C.Cell.state g.O.Origin.offers c.args.url.now c.args.dirs.now c.args.pass.now c.loop-dir.pass c.purge_in.new.pass c.loop-dir.dir c.loop-dir.left c.purge_in.new.left c.loop-dir.causes c.purge_in.new.causes
      i.ranges e.beside e.only e.says;
  own = e.own;
  none_left = λ d le. (e.beside d (omega arith)).0 ∙ i.none_left d (omega arith);
  none_causes = λ d le. (e.beside d (omega arith)).1 ∙ i.none_causes d (omega arith);
  room = e.length;
}

pub returns-clause-says : goal.returns-clause-says
returns-clause-says g c = all_dirs c.args.dirs.now c.args.pass.now c.loop-dir.pass 0 c.loop-dir.dir (Purges g.C.Cell.tells g.C.Cell.state g.O.Origin.offers c.args.url.now c.loop-dir.left c.loop-dir.causes) c.loop-dir.invariant.ranges
    (omega (arith, c.loop-dir-test.false, c.count-dir-end.ensures.value))

pub returns-clause-behind : goal.returns-clause-behind
returns-clause-behind g c = (
  λ d le. c.loop-dir.invariant.none_left d (omega (arith, c.loop-dir-test, c.count-dir-end.ensures.value)),
  λ d le. c.loop-dir.invariant.none_causes d (omega (arith, c.loop-dir-test, c.count-dir-end.ensures.value)),
)

pub returns-clause-moves : goal.returns-clause-moves
returns-clause-moves g c = c.loop-dir.invariant.ranges.moves

pub returns-clause-own : goal.returns-clause-own
returns-clause-own g c = c.loop-dir.invariant.own
