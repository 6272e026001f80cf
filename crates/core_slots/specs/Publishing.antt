-- What a tab that publishes a slot changes.
use Rattle.std.specs.Prelude.{ℕ, ◌+◌, ◌++◌, [], ◌∷◌, Some, None, length, unwrap_or}
use Rattle.link_word.specs.declared.link.Link.{Link}
use Rattle.link_word.specs.Words.{link_number}
use Rattle.core_model.specs.declared.adding.Addition.{Addition}
use Rattle.core_model.specs.declared.chain.Chain.{Chain}
use Rattle.core_model.specs.declared.tab.Writer.{Writer}
use Rattle.core_model.specs.declared.view.Kind.TheVariants.{Linked}
use Rattle.core_model.specs.declared.view.Place.TheVariants.{Link as LinkWord}
use Rattle.core_model.specs.declared.view.Sight.TheVariants.{Published}
use Rattle.core_model.specs.Chains.{rest_of}
use Rattle.core_model.specs.Layout.{index}
use Rattle.core_change.specs.declared.change.ChainChange.TheVariants as chains
use Rattle.core_change.specs.declared.change.Change.{Change}
use Rattle.core_change.specs.declared.change.NotesChange.TheVariants as notes
use Rattle.core_change.specs.declared.change.TabsChange.{TabsChange}
use Rattle.core_change.specs.declared.change.TabsChange.TheVariants as tabs
use Rattle.core_table.specs.declared.content.Content.{Content}
use Rattle.core_change.specs.declared.tab_change.TabChange.TheVariants.{Publishes}
use Rattle.core_table.specs.declared.opening.Opening.{Opening}
use Rattle.core_change.specs.declared.table.Table.{Table}
use Rattle.core_change.specs.declared.turn_change.TurnChange.TheVariants as turns
use Rattle.core_table.specs.Inside.{setting}
use Rattle.core_slots.specs.Loosening.{link_found}

-- the slot is the last that the tab t published
abbrev pub published_tab : ℕ → Writer Content → ℕ → Link → TabsChange
published_tab t w slot link = tabs.Becomes t (Publishes (rest_of w.reserved) (w.published ++ (slot ∷ [])) link)

-- where the slot's link word told `told`, the tab has published one slot more, of an entry with these names
abbrev pub published_addition : Writer Content → ℕ → Link → ℕ → Addition
published_addition w slot link told = record {
  item = record { kind = Linked; at = slot; found = told };
  trace = Some record { place = LinkWord slot; word = link_number link };
  sight = Some (Published w.anchor w.version (length w.published + 1));
  names = Some record {
    anchor = w.anchor;
    version = w.version;
    key0 = unwrap_or w.key0 0;
    key1 = unwrap_or w.key1 0;
    offer = unwrap_or w.offer 0;
  };
  learned = None;
  deed = None;
  met = None;
  drawn = None;
}

-- the slot's link word has this link then, and this becomes of the tabs and of the chain
abbrev pub published_change : Opening → Table → Writer Content → ℕ → Link → TabsChange → Chain → Change
published_change o t w slot link change chain = record {
  answer = link_found o t slot;
  word = Some record { index = index (setting o) (LinkWord slot); left = link_number link };
  turn = turns.Same;
  tabs = change;
  chain = chains.Put w.anchor chain;
  used = None;
  addition = published_addition w slot link (link_found o t slot);
  notes = notes.Same;
}
