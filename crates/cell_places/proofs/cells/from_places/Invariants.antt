use Rattle.std.specs.Prelude.{◌+◌, ◌++◌, ◌≡◌, ◌≤◌, List, Some, map, reverse, vec_capacity, vec_len}
use Rattle.cell_places.proofs.cells.from_places.Given as goal

abbrev pub decreases-loop-place : goal.decreases-loop-place
decreases-loop-place g l = vec_len l.places

-- the places that were emptied are cells again, and each of the others has one
abbrev pub invariant-loop-place : goal.invariant-loop-place
invariant-loop-place g l = record {
  moved : l.fn.places.items ≡ map Some l.cells.items ++ reverse l.places.items;
  full : (row : List g.row.C.Denot) × (l.places.items ≡ map Some row);
  room : vec_len l.places + vec_len l.cells ≤ vec_capacity l.cells;
}
