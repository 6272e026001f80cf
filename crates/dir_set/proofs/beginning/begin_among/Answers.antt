use Rattle.std.proofs.Common.{Some, arith, inl, inr, length, refl, ◌<◌, ◌∙◌}
use Rattle.std.proofs.Math.ListN.{length-set}
use Rattle.rock_writer.specs.declared.fault.BeginFault.{BeginFault}
use Rattle.store_rule.specs.declared.store.Pass.{Pass}
use Rattle.store_rule.specs.declared.store.Store.{Store}
use Rattle.dir_set.specs.Beginning.{MayBeginIn, RefusedBegin}
use Rattle.dir_set.proofs.Among.{among_at, among_none, beside_on}
use Rattle.dir_set.proofs.Range.{none_yet, untouched}
use Rattle.dir_set.proofs.Said.{said_on}
use Rattle.dir_set.proofs.beginning.begin_among.Goals as goal

pub loop-dir-init : goal.loop-dir-init
loop-dir-init g c = record {
  ranges = none_yet c.args.dirs.now _ c.args.from c.args.pass.now;
  own = c.requires.pass;
  beside = λ d out. refl;
  room = c.requires.room;
}

pub begin_in-requires-clause-may : goal.begin_in-requires-clause-may
begin_in-requires-clause-may g c = untouched c.args.dirs.now c.args.pass.now c.loop-dir.pass _ c.args.from c.loop-dir.dir c.loop-dir.invariant.ranges
    (MayBeginIn g.C.Cell.tells g.C.Cell.state g.O.Origin.offers c.args.tab c.args.line c.args.url.now c.loop-dir.dir) (c.requires.may c.loop-dir.dir c.loop-dir.auto.dir c.loop-dir-test.true)

pub loop-dir-preserved : goal.loop-dir-preserved
loop-dir-preserved g c = let i = c.loop-dir.invariant in
    let lt : c.loop-dir.dir < length c.loop-dir.faults = omega (arith, i.room, c.loop-dir-test.true, c.requires.to, c.args.dirs.now.few, c.args.dirs.now.stores.ok.0) in record {
      ranges = said_on c.args.dirs.now (λ (fault : BeginFault) (s : Store g.row.C.Denot g.row.O.Denot) (p q : Pass g.row.C.Denot). RefusedBegin g.C.Cell.tells g.C.Cell.state g.O.Origin.offers c.args.tab c.args.line c.args.url.now c.args.durable s p q fault)
          c.args.from c.loop-dir.dir c.loop-dir.auto.dir c.args.pass.now c.loop-dir.pass c.begin_in.new.pass c.loop-dir.faults c.in-Err.fault lt i.ranges c.begin_in.ensures.only c.in-Err.ensures.err;
      own = c.begin_in.ensures.own;
      beside = beside_on c.args.faults.now c.loop-dir.faults c.args.from c.loop-dir.dir (Some c.in-Err.fault) c.loop-dir.auto.dir i.beside;
      room = length-set c.loop-dir.faults c.loop-dir.dir (Some c.in-Err.fault) ∙ i.room;
    }

pub returns-in-Ok-clause-some : goal.returns-in-Ok-clause-some
returns-in-Ok-clause-some g c = (
  c.loop-dir.auto.dir,
  c.loop-dir-test.true,
  among_at g.C.Cell.tells g.C.Cell.state g.O.Origin.offers c.args.tab c.args.line c.args.url.now c.args.durable c.args.dirs.now c.args.pass.now c.loop-dir.pass c.begin_in.new.pass c.loop-dir.faults
      c.args.from c.loop-dir.dir c.in-Ok.version c.loop-dir.auto.dir c.loop-dir.invariant.ranges c.begin_in.ensures.only c.in-Ok.ensures.ok,
)

pub returns-in-Ok-clause-faults : goal.returns-in-Ok-clause-faults
returns-in-Ok-clause-faults g c d (inl lt) = c.loop-dir.invariant.beside d (inl lt)
returns-in-Ok-clause-faults g c d (inr le) = c.loop-dir.invariant.beside d (inr (omega (arith, c.loop-dir-test.true)))

pub returns-in-Ok-clause-moves : goal.returns-in-Ok-clause-moves
returns-in-Ok-clause-moves g c = let m = c.begin_in.ensures.only.moves in let r = c.loop-dir.invariant.ranges.moves in record { many = m.many ∙ r.many; hand = m.hand ∙ r.hand; tabs = m.tabs ∙ r.tabs }

pub returns-clause-none : goal.returns-clause-none
returns-clause-none g c none = among_none g.C.Cell.tells g.C.Cell.state g.O.Origin.offers c.args.tab c.args.line c.args.url.now c.args.durable c.args.dirs.now c.args.pass.now c.loop-dir.pass c.loop-dir.faults
    c.args.from c.args.to c.loop-dir.dir (omega (arith, c.loop-dir-test.false)) (c.loop-dir.auto.dir-end c.requires.order) c.loop-dir.invariant.ranges

pub returns-clause-faults : goal.returns-clause-faults
returns-clause-faults g c d (inl lt) = c.loop-dir.invariant.beside d (inl lt)
returns-clause-faults g c d (inr le) = c.loop-dir.invariant.beside d (inr (let e = c.loop-dir.auto.dir-end c.requires.order in omega arith))

pub returns-clause-moves : goal.returns-clause-moves
returns-clause-moves g c = c.loop-dir.invariant.ranges.moves
