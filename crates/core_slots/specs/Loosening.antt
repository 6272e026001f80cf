-- What the first slot of a rest changes as it leaves its chain.
use Rattle.std.specs.Prelude.{ℕ, ◌++◌, [], ◌∷◌, Some, None, slice_index}
use Rattle.core_model.specs.declared.tab.Freer.{Freer}
use Rattle.core_model.specs.declared.tab.Writer.{Writer}
use Rattle.core_model.specs.declared.view.Kind.TheVariants.{Linked}
use Rattle.core_model.specs.declared.view.Place.TheVariants.{Link}
use Rattle.core_model.specs.Chains.{rest_of}
use Rattle.core_model.specs.Layout.{index}
use Rattle.core_model.specs.Tabs.{inner}
use Rattle.core_change.specs.declared.change.ChainChange.TheVariants as chains
use Rattle.core_change.specs.declared.change.Change.{Change}
use Rattle.core_change.specs.declared.change.NotesChange.TheVariants as notes
use Rattle.core_change.specs.declared.change.TabsChange.{TabsChange}
use Rattle.core_change.specs.declared.change.TabsChange.TheVariants as tabs
use Rattle.core_table.specs.declared.content.Content.{Content}
use Rattle.core_change.specs.declared.tab_change.TabChange.TheVariants.{Reserves, Loosens}
use Rattle.core_table.specs.declared.opening.Opening.{Opening}
use Rattle.core_change.specs.declared.table.Table.{Table}
use Rattle.core_change.specs.declared.turn_change.TurnChange.TheVariants as turns
use Rattle.core_change.specs.Changed.{word_addition}
use Rattle.core_table.specs.Inside.{setting}

-- it is loose at the inner tab
abbrev pub loosened_change : Freer Content → ℕ → TabsChange
loosened_change f slot = tabs.Becomes inner (Loosens (rest_of f.rest) (f.loose ++ (slot ∷ [])))

-- the tab t, which writes, reserves it
abbrev pub handed_change : Freer Content → ℕ → Writer Content → ℕ → TabsChange
handed_change f t w slot = tabs.BothBecome inner (Loosens (rest_of f.rest) f.loose) t (Reserves (w.reserved ++ (slot ∷ [])))

-- the number that its link word has
abbrev pub link_found : Opening → Table → ℕ → ℕ
link_found o t slot = slice_index t.words.items (index (setting o) (Link slot))

-- its link word is 0 then, and this becomes of the tabs
abbrev pub unlinked_change : Opening → Table → ℕ → TabsChange → Change
unlinked_change o t slot change = record {
  answer = link_found o t slot;
  word = Some record { index = index (setting o) (Link slot); left = 0 };
  turn = turns.Same;
  tabs = change;
  chain = chains.Same;
  used = None;
  addition = word_addition Linked (Link slot) slot (link_found o t slot) 0 None;
  notes = notes.Same;
}
