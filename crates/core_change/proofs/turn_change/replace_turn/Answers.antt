use Rattle.core_model.specs.declared.tab.Tab.{Tab}
use Rattle.core_model.specs.Tabs.{turn_of}
use Rattle.core_table.specs.declared.content.Content.{Content}
use Rattle.core_change.specs.Turns.{with_turn}
use Rattle.core_change.proofs.Changing.{put_back, was_there}
use Rattle.core_change.proofs.turn_change.replace_turn.Goals as goal

pub returns-clause-tabs : goal.returns-clause-tabs
returns-clause-tabs c = put_back (λ (x : Tab Content). with_turn x c.args.turn) _ _ _ _ _ _ c.replace-tab.ensures.after c.replace-tab.ensures.value c.with_turn-tab.ensures.tab c.set.ensures

pub returns-clause-turn : goal.returns-clause-turn
returns-clause-turn c = was_there turn_of c.args.tabs.now c.args.at _ _ c.replace-tab.ensures.value c.with_turn-tab.ensures.turn
