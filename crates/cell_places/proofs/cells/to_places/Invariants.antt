use Rattle.std.specs.Prelude.{◌+◌, ◌++◌, ◌≡◌, ◌≤◌, Some, map, reverse, vec_capacity, vec_len}
use Rattle.cell_places.proofs.cells.to_places.Given as goal

abbrev pub decreases-loop-cell : goal.decreases-loop-cell
decreases-loop-cell g l = vec_len l.cells

-- the cells that left the vector are in places, the last one first
abbrev pub invariant-loop-cell : goal.invariant-loop-cell
invariant-loop-cell g l = record {
  moved : map Some l.initial.cells.items ≡ map Some l.cells.items ++ reverse l.places.items;
  count : vec_len l.places + vec_len l.cells ≡ vec_len l.initial.cells;
  room : vec_len l.initial.cells ≤ vec_capacity l.places;
  kept : vec_capacity l.cells ≡ vec_capacity l.initial.cells;
  before : l.initial.cells.items ≡ l.fn.cells.items;
  long : vec_len l.initial.cells ≤ vec_capacity l.initial.cells;
}
