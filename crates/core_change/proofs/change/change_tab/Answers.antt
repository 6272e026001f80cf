use Rattle.core_model.specs.declared.tab.Tab.{Tab}
use Rattle.core_table.specs.declared.content.Content.{Content}
use Rattle.core_change.specs.Tabs.{changed_tab}
use Rattle.core_change.proofs.Changing.{put_back}
use Rattle.core_change.proofs.change.change_tab.Goals as goal

pub returns : goal.returns
returns c = put_back (λ (x : Tab Content). changed_tab x c.args.change) _ _ _ _ _ _ c.replace-tab.ensures.after c.replace-tab.ensures.value c.changed_tab.ensures c.set.ensures
