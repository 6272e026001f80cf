use Rattle.std.specs.Prelude.{IsTrue, length, vec_capacity, vec_len, ◌+◌, ◌≡◌, ◌≤◌}
use Rattle.page_pool.specs.Seats.{IsSeatOf, key, view}
use Rattle.mem_cache.specs.Pages.{AreNew, AreTaken, pages_left}
use Rattle.mem_cache.proofs.opening.take_cells.Given as goal

abbrev pub invariant-loop-number : goal.invariant-loop-number
invariant-loop-number g l = record {
  to : l.number ≤ l.pages;
  own : IsSeatOf l.pool l.seat;
  alone : IsTrue (view l.seat).is_alone;
  count : vec_len l.cells ≡ l.number;
  room : l.pages ≤ vec_capacity l.cells;
  taken : AreTaken (key l.pool) l.cells.items (view l.fn.seat) (view l.seat);
  new : AreNew (key l.pool).size l.cells.items;
  left : length (pages_left (key l.pool) (view l.seat)) + l.number ≡ length (pages_left (key l.pool) (view l.fn.seat));
}
