-- Which tab may raise its anchor, and what becomes of its tab and of the chain.
use Rattle.std.specs.Prelude.{◌⊎◌, ℕ}
use Rattle.lock_word.specs.declared.stage.Stage.{Stage}
use Rattle.lock_word.specs.declared.stage.Stage.TheVariants.{Appending, Halted}
use Rattle.core_model.specs.declared.chain.Chain.{Chain}
use Rattle.core_model.specs.declared.tab.Tab.{Tab}
use Rattle.core_model.specs.Layout.{Setting}
use Rattle.core_model.specs.State.{State}
use Rattle.core_model.specs.Tabs.{OfWriter, OfFreer}
use Rattle.core_model.specs.AnchorMoves.{MayRaise, StartsRight, MayEnd, left_tab}
use Rattle.core_model.specs.Chains.{slots_of_link}
use Rattle.core_change.specs.declared.change.ChainChange.{ChainChange}
use Rattle.core_change.specs.declared.change.ChainChange.TheVariants as chains
use Rattle.core_change.specs.declared.change.TabsChange.{TabsChange}
use Rattle.core_change.specs.declared.change.TabsChange.TheVariants as tabs
use Rattle.core_table.specs.declared.content.Content.{Content}

abbrev pub MayRaiseTab : Setting Content → State Content → Tab Content → Stage → Type 0
MayRaiseTab k s tab to = OfWriter (λ w. MayRaise w to × StartsRight k s w) tab ⊎ OfFreer (λ f. MayEnd f to) tab

abbrev pub raised_tabs : ℕ → Stage → ℕ → ℕ → TabsChange
raised_tabs t Appending a n = tabs.Appends t
raised_tabs t _ a n = tabs.Put t (left_tab a n)

abbrev pub raised_chain : Stage → ℕ → Chain → ChainChange
raised_chain Halted a c = chains.Ended a (slots_of_link c.end)
raised_chain _ a c = chains.Same
