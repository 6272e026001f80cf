use Rattle.rock_disk.specs.Memory.{cell_state}
use Rattle.rock_disk.proofs.Cells.{joined_grows}
use Rattle.rock_disk.proofs.memory.file.join.Goals as goal

pub loop-cell-preserved : goal.loop-cell-preserved
loop-cell-preserved c =
    joined_grows cell_state c.args.cells.now c.loop-cell.cell-index c.cell-item.result c.now-in-loop-cell.result.now c.in_ok-bytes.bytes.items c.loop-cell.bytes.items _
    c.loop-cell-test.true c.cell-item.is c.now-in-loop-cell.ensures c.loop-cell.invariant c.in_ok-extend_from_slice.ensures.items
