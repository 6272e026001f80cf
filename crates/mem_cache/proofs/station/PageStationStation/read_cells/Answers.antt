use Rattle.std.proofs.Common.{length, ap, arith, ◌∙◌}
use Rattle.mem_cache.specs.Cell.{cell_state}
use Rattle.rock_disk.proofs.Together.{front_more, width_more, width_room}
use Rattle.mem_cache.proofs.station.PageStationStation.read_cells.Goals as goal

pub put-end-requires : goal.put-end-requires
put-end-requires g c =
    let so = c.loop-place.invariant in
    omega (arith, so.long, so.ends, c.requires, ap length c.bytes.ensures, width_room cell_state c.args.cells.now c.loop-place.place c.index-cells-place.result (omega arith) c.index-cells-place.is)

pub loop-place-preserved : goal.loop-place-preserved
loop-place-preserved g c =
    let so = c.loop-place.invariant in
    let within = c.loop-place-test.true in
    let item = c.index-cells-place.result in
    let is = c.index-cells-place.is in
    record {
      long = c.put-end.ensures.length ∙ so.long;
      ends = omega (arith, so.ends, c.put-end.ensures.end, ap length c.bytes.ensures, width_more cell_state c.args.cells.now c.loop-place.place item within is);
      front = front_more cell_state c.args.cells.now c.loop-place.place item c.loop-place.end c.put-end.result c.loop-place.buf c.put-end.new.out c.bytes.result.now within is c.bytes.ensures so.front c.put-end.ensures.front;
    }
