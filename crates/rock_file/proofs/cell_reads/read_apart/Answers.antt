use Rattle.std.proofs.Common.{◌≡◌, ◌+◌, ◌<◌, ◌≤◌, ℕ, List, length, map, take, get_or, arith}
use Rattle.std.proofs.lemmas.List.{get_or_default}
use Rattle.rock_disk.specs.Reads.{width_of}
use Rattle.rock_disk.proofs.Together.{width_more, width_room}
use Rattle.rock_file.specs.Cell.{cell_state}
use Rattle.rock_file.specs.declared.cell.FileCell.{FileCell}
use Rattle.rock_file.proofs.cell_reads.read_apart.Goals as goal

abbrev no_cell : FileCell
no_cell = record { number = 0; width = 0 }

-- there is room for the next cell, and how much is taken behind it
room : (cells : List FileCell) (place : ℕ) → place < length cells → width_of (take place (map cell_state cells)) + (get_or cells place no_cell).width ≤ width_of (map cell_state cells)
room cells place h = let d = get_or cells place no_cell in width_room cell_state cells place d h (get_or_default cells place no_cell d h)

more : (cells : List FileCell) (place : ℕ) → place < length cells → width_of (take (place + 1) (map cell_state cells)) ≡ width_of (take place (map cell_state cells)) + (get_or cells place no_cell).width
more cells place h = let d = get_or cells place no_cell in width_more cell_state cells place d h (get_or_default cells place no_cell d h)

pub slice_bounds-read_exact_at-end : goal.slice_bounds-read_exact_at-end
slice_bounds-read_exact_at-end g c = omega (arith, c.loop-place.invariant, c.requires, c.width.ensures, c.loop-place.auto.buf, room c.args.cells.now c.loop-place.place c.loop-place-test.true)

pub loop-place-preserved : goal.loop-place-preserved
loop-place-preserved g c = omega (arith, c.loop-place.invariant, c.width.ensures, more c.args.cells.now c.loop-place.place c.loop-place-test.true)
