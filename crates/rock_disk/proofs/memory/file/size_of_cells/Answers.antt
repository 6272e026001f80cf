use Rattle.std.proofs.Common.{arith}
use Rattle.rock_disk.specs.Memory.{cell_state}
use Rattle.rock_disk.proofs.Cells.{length_next}
use Rattle.rock_disk.proofs.memory.file.size_of_cells.Goals as goal

pub loop-cell-preserved : goal.loop-cell-preserved
loop-cell-preserved c =
    let longer = length_next cell_state c.args.cells.now c.loop-cell.cell-index c.cell-item.result c.now.result.now c.loop-cell-test.true c.cell-item.is c.now.ensures in
    omega arith
