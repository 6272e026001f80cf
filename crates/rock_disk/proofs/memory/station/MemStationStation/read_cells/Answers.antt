use Rattle.std.proofs.Common.{length, ap, sym, ◌∙◌, subst, arith}
use Rattle.std.proofs.lemmas.Bool.{false≢true}
use Rattle.rock_io.specs.Plan.{FailsNext, called}
use Rattle.rock_disk.specs.Memory.{cell_state, station_plan}
use Rattle.rock_disk.proofs.Together.{begins, called_more, front_more, none_more, width_more, width_room}
use Rattle.rock_disk.proofs.memory.station.MemStationStation.read_cells.Goals as goal

pub put-end-requires : goal.put-end-requires
put-end-requires c =
    let so = c.loop-place.invariant in
    omega (arith, so.long, so.ends, c.requires, ap length c.now.ensures, width_room cell_state c.args.cells.now c.loop-place.place c.index-cells-place.result (omega arith) c.index-cells-place.is)

pub loop-place-preserved : goal.loop-place-preserved
loop-place-preserved c =
    let so = c.loop-place.invariant in
    let plan = station_plan c.args.self.now in
    let within = c.loop-place-test.true in
    let item = c.index-cells-place.result in
    let is = c.index-cells-place.is in
    record {
      called = c.in-Ok.ensures.plan ∙ (ap called so.called ∙ called_more c.loop-place.place plan);
      passed = none_more c.loop-place.place plan so.passed (λ fails. false≢true (c.in-Ok.ensures.listed.1 (subst FailsNext (sym so.called) fails)));
      faults = c.in-Ok.ensures.ok ∙ so.faults;
      long = c.put-end.ensures.length ∙ so.long;
      ends = omega (arith, so.ends, c.put-end.ensures.end, ap length c.now.ensures, width_more cell_state c.args.cells.now c.loop-place.place item within is);
      front = front_more cell_state c.args.cells.now c.loop-place.place item c.loop-place.end c.put-end.result c.loop-place.buf c.put-end.new.out c.now.result.now within is c.now.ensures so.front c.put-end.ensures.front;
    }

pub returns-in-Err-clause-front : goal.returns-in-Err-clause-front
returns-in-Err-clause-front c = begins _ c.loop-place.buf c.loop-place.end c.loop-place.invariant.front

pub returns-clause-passed : goal.returns-clause-passed
returns-clause-passed c k within fails = c.loop-place.invariant.passed k (omega (arith, within)) fails
