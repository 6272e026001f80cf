use Rattle.std.proofs.Common.{◌≡◌, ◌+◌, ◌<◌, ℕ, List, length, map, take, get_or, arith}
use Rattle.std.proofs.lemmas.List.{get_or_default}
use Rattle.rock_disk.specs.Reads.{width_of}
use Rattle.rock_disk.proofs.Together.{width_more}
use Rattle.rock_file.specs.Cell.{cell_state}
use Rattle.rock_file.specs.declared.cell.FileCell.{FileCell}
use Rattle.test_files.proofs.together.buffer_for.Goals as goal

abbrev no_cell : FileCell
no_cell = record { number = 0; width = 0 }

-- how wide the cells are together with the next one
more : (cells : List FileCell) (place : ℕ) → place < length cells → width_of (take (place + 1) (map cell_state cells)) ≡ width_of (take place (map cell_state cells)) + (get_or cells place no_cell).width
more cells place h = let d = get_or cells place no_cell in width_more cell_state cells place d h (get_or_default cells place no_cell d h)

pub loop-place-preserved : goal.loop-place-preserved
loop-place-preserved c = omega (arith, c.loop-place.invariant, c.width.ensures, c.len.ensures, c.in_ok-resize.ensures.len, more c.args.cells.now c.loop-place.place c.loop-place-test.true)
