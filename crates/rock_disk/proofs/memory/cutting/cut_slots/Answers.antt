use Rattle.rock_disk.specs.Memory.{cell_state}
use Rattle.rock_disk.proofs.Cells.{room_next, slots_pushed}
use Rattle.rock_disk.proofs.memory.cutting.cut_slots.Goals as goal

pub loop-number-preserved : goal.loop-number-preserved
loop-number-preserved c = record {
  room = room_next c.loop-number.number c.args.count c.args.slot _ _ c.loop-number-test.true c.loop-number.invariant.room c.split_at.ensures.back_len;
  cut =
      slots_pushed cell_state c.loop-number.cells.items c.push.new.self.items c.in_ok-new.field-0 c.loop-number.number c.args.count c.args.slot
      c.split_at.result.0.now c.loop-number.rest.now c.split_at.result.1.now _
      c.in_ok-push.ensures.items c.in_ok-new.ensures c.split_at.ensures.front_len c.split_at.ensures.front c.split_at.ensures.back c.loop-number-test.true c.loop-number.invariant.cut;
}
