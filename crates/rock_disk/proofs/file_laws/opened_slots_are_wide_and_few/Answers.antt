use Rattle.std.proofs.Common.{arith}
use Rattle.rock_disk.proofs.Out.{count_of, widths}
use Rattle.rock_disk.proofs.file_laws.opened_slots_are_wide_and_few.Goals as goal

pub returns-clause-wide : goal.returns-clause-wide
returns-clause-wide c slot bytes header cells s = widths cells 0 _ slot s.cell_shapes

pub returns-clause-count : goal.returns-clause-count
returns-clause-count c slot bytes header cells s = count_of cells _ slot s.cell_shapes

pub returns-clause-few : goal.returns-clause-few
returns-clause-few c slot bytes header cells s = omega (arith, count_of cells _ slot s.cell_shapes)

pub returns-clause-slots : goal.returns-clause-slots
returns-clause-slots c slot bytes header cells size s = record {
  size = size;
  wide = widths cells 0 _ slot s.cell_shapes;
  few = omega (arith, count_of cells _ slot s.cell_shapes);
}
