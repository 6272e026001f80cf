use Rattle.std.proofs.Common.{length}
use Rattle.core_model.specs.declared.tab.Cell.{Cell}
use Rattle.core_model.specs.declared.tab.Tab.{Tab}
use Rattle.core_model.specs.Tabs.{turn_of}
use Rattle.core_table.specs.declared.content.Content.{Content}
use Rattle.core_lives.specs.Crash.{HoldsCell}
use Rattle.core_lives.proofs.Seeking.{Seeks}
use Rattle.core_lives.proofs.cells.cell_of_tabs.Given as goal

abbrev pub invariant-tabs : goal.invariant-tabs
invariant-tabs l = Seeks (λ (tab : Tab Content). (c : Cell Content) × HoldsCell (turn_of tab) l.slot c) l.tabs l.left

abbrev pub decreases-tabs : goal.decreases-tabs
decreases-tabs l = length l.left
