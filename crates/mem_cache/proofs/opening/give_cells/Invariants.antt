use Rattle.page_pool.specs.declared.view.View.{View}
use Rattle.page_pool.specs.Seats.{IsSeatOf, key, view}
use Rattle.mem_cache.specs.Pages.{AreTaken}
use Rattle.mem_cache.proofs.opening.give_cells.Given as goal

abbrev pub invariant-loop-cell : goal.invariant-loop-cell
invariant-loop-cell g l = record {
  own : IsSeatOf l.pool l.seat;
  taken : (before : View) × AreTaken (key l.pool) l.cells.items before (view l.seat);
  same : (before : View) → AreTaken (key l.pool) l.initial.cells.items before (view l.initial.seat) → AreTaken (key l.pool) l.cells.items before (view l.seat);
}

abbrev pub decreases-loop-cell : goal.decreases-loop-cell
decreases-loop-cell g l = goal.left-loop-cell g l
