use Rattle.std.proofs.Common.{sym, ap, subst}
use Rattle.std.specs.Prelude.{MatchOption}
use Rattle.core_model.specs.declared.tab.Cell.{Cell}
use Rattle.core_model.specs.declared.tab.Turn.{Turn}
use Rattle.core_model.specs.Tabs.{turn_of}
use Rattle.core_table.specs.declared.content.Content.{Content}
use Rattle.core_lives.specs.Crash.{HoldsCell}
use Rattle.core_lives.proofs.cells.cell_of_tab.Goals as goal

pub returns-in-Reading : goal.returns-in-Reading
returns-in-Reading c = subst (λ (t : Turn Content). MatchOption c.cell_of_turn.result ((cell : Cell Content) → HoldsCell t c.args.slot cell → ⊥) (λ cell. HoldsCell t c.args.slot cell.now))
    (sym (ap turn_of c.in-Reading.is)) c.cell_of_turn.ensures

pub returns-in-Writing : goal.returns-in-Writing
returns-in-Writing c = subst (λ (t : Turn Content). MatchOption c.cell_of_turn-in-Writing.result ((cell : Cell Content) → HoldsCell t c.args.slot cell → ⊥) (λ cell. HoldsCell t c.args.slot cell.now))
    (sym (ap turn_of c.in-Writing.is)) c.cell_of_turn-in-Writing.ensures

pub returns-in-Freeing : goal.returns-in-Freeing
returns-in-Freeing c = subst (λ (t : Turn Content). MatchOption c.cell_of_turn-in-Freeing.result ((cell : Cell Content) → HoldsCell t c.args.slot cell → ⊥) (λ cell. HoldsCell t c.args.slot cell.now))
    (sym (ap turn_of c.in-Freeing.is)) c.cell_of_turn-in-Freeing.ensures
