use Rattle.std.proofs.Common.{rules, List, sym, subst}
use Rattle.core_model.specs.declared.tab.Cell.{Cell}
use Rattle.core_model.specs.declared.tab.Tab.{Tab}
use Rattle.core_model.specs.declared.view.View.{View}
use Rattle.core_table.specs.declared.content.Content.{Content}
use Rattle.core_lives.specs.Crash.{IsHeldBy}
use Rattle.core_lives.proofs.Seeking.{none_has, none_of, seeks_on}
use Rattle.core_lives.proofs.cells.cell_of_views.Goals as goal

pub views-preserved : goal.views-preserved
views-preserved c = seeks_on (λ (view : View Content). (x : Cell Content) × IsHeldBy view.tabs c.args.slot x) c.args.views.now c.views.left.now c.in-Some.rest.now c.in-Some.view.now c.views.invariant (search rules)
    (λ has. none_of ((cell : Cell Content) → IsHeldBy c.as_slice.result.now c.args.slot cell → ⊥) (λ cell. IsHeldBy c.as_slice.result.now c.args.slot cell.now) c.in_default-cell_of_tabs.is c.cell_of_tabs.ensures has.0
    (subst (λ (ts : List (Tab Content)). IsHeldBy ts c.args.slot has.0) (sym c.as_slice.ensures) has.1))

pub returns : goal.returns
returns c cell h = none_has (λ (view : View Content). (x : Cell Content) × IsHeldBy view.tabs c.args.slot x) c.args.views.now c.views.left.now c.views.invariant c.in_default.ensures.cases h.view h.among (cell, h.held)
