use Rattle.std.proofs.Common.{◌∙◌}
use Rattle.std.proofs.Math.Seq.{map-set_same}
use Rattle.rock_disk.specs.Memory.{cell_state}
use Rattle.test_disks.proofs.volumes.read_cells.Goals as goal

pub returns-in_err-ok-2 : goal.returns-in_err-ok-2
returns-in_err-ok-2 c =
    map-set_same cell_state c.loop-i.cells c.loop-i.i c.read.new.cell c.index-cells-i-in-loop-i.result c.read.ensures.cell
    ∙ c.loop-i.invariant

pub returns-in_err-ok-3 : goal.returns-in_err-ok-3
returns-in_err-ok-3 c =
    map-set_same cell_state c.loop-i.cells c.loop-i.i c.read.new.cell c.index-cells-i-in-loop-i.result c.read.ensures.cell
    ∙ c.loop-i.invariant

pub loop-i-preserved : goal.loop-i-preserved
loop-i-preserved c =
    map-set_same cell_state c.loop-i.cells c.loop-i.i c.read.new.cell c.index-cells-i-in-loop-i.result c.read.ensures.cell
    ∙ c.loop-i.invariant
