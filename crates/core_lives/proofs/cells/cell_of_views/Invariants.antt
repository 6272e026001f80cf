use Rattle.std.proofs.Common.{length}
use Rattle.core_model.specs.declared.tab.Cell.{Cell}
use Rattle.core_model.specs.declared.view.View.{View}
use Rattle.core_table.specs.declared.content.Content.{Content}
use Rattle.core_lives.specs.Crash.{IsHeldBy}
use Rattle.core_lives.proofs.Seeking.{Seeks}
use Rattle.core_lives.proofs.cells.cell_of_views.Given as goal

abbrev pub invariant-views : goal.invariant-views
invariant-views l = Seeks (λ (view : View Content). (c : Cell Content) × IsHeldBy view.tabs l.slot c) l.views l.left

abbrev pub decreases-views : goal.decreases-views
decreases-views l = length l.left
