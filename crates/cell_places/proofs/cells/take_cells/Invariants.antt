use Rattle.std.proofs.Common.{◌≡◌, ◌≤◌, ◌<◌, Some, false, get_or, map, take, vec_capacity, vec_len, ℕ}
use Rattle.std.specs.Mem.Slots.{slots_filled, slots_items, slots_len}
use Rattle.std.specs.Mem.Slots.Ownership.{Filled}
use Rattle.cell_places.proofs.cells.take_cells.Given as goal

-- the places below this one were emptied, and their cells are here
abbrev pub invariant-loop-at : goal.invariant-loop-at
invariant-loop-at g l = record {
  to : l.at ≤ l.count;
  long : slots_len l.closed.slots ≡ l.count;
  same : slots_items l.closed.slots ≡ slots_items l.fn.closed.slots;
  left : Filled (slots_filled l.closed.slots) l.at l.count;
  gone : (k : ℕ) → k < l.at → get_or (slots_filled l.closed.slots) k false ≡ false;
  moved : map Some l.cells.items ≡ take l.at (slots_items l.fn.closed.slots);
  as_many : vec_len l.cells ≡ l.at;
  room : l.count ≤ vec_capacity l.cells;
}
