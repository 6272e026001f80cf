use Rattle.std.proofs.Common.{rules}
use Rattle.core_model.specs.declared.tab.Cell.{Cell}
use Rattle.core_model.specs.declared.tab.Tab.{Tab}
use Rattle.core_model.specs.Tabs.{turn_of}
use Rattle.core_table.specs.declared.content.Content.{Content}
use Rattle.core_lives.specs.Crash.{HoldsCell}
use Rattle.core_lives.proofs.Seeking.{none_has, none_of, seeks_on}
use Rattle.core_lives.proofs.cells.cell_of_tabs.Goals as goal

pub tabs-preserved : goal.tabs-preserved
tabs-preserved c = seeks_on (λ (tab : Tab Content). (x : Cell Content) × HoldsCell (turn_of tab) c.args.slot x) c.args.tabs.now c.tabs.left.now c.in-Some.rest.now c.in-Some.tab.now c.tabs.invariant (search rules)
    (λ has. none_of ((cell : Cell Content) → HoldsCell (turn_of c.in-Some.tab.now) c.args.slot cell → ⊥) (λ cell. HoldsCell (turn_of c.in-Some.tab.now) c.args.slot cell.now) c.in_default-cell_of_tab.is c.cell_of_tab.ensures has.0 has.1)

pub returns : goal.returns
returns c cell h = none_has (λ (tab : Tab Content). (x : Cell Content) × HoldsCell (turn_of tab) c.args.slot x) c.args.tabs.now c.tabs.left.now c.tabs.invariant c.in_default.ensures.cases h.tab h.among (cell, h.holds)
