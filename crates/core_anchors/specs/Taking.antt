-- What becomes of tabs where an anchor is taken or its entry is freed, with the word n found there.
use Rattle.std.specs.Prelude.{ℕ, Bool, true, false, cond, Option, Some}
use Rattle.lock_word.specs.Words.{epoch_of}
use Rattle.core_model.specs.declared.chain.Chain.{Chain}
use Rattle.core_model.specs.declared.tab.Tab.TheVariants.{Free, Writing, Freeing}
use Rattle.core_model.specs.Tabs.{inner}
use Rattle.core_model.specs.AnchorMoves.{writer_of, freer_of}
use Rattle.core_model.specs.declared.view.Kind.TheVariants as kind
use Rattle.core_model.specs.Layout.{anchor_index}
use Rattle.core_change.specs.declared.change.Change.{Change}
use Rattle.core_change.specs.declared.change.ChainChange.TheVariants as chains
use Rattle.core_change.specs.declared.change.NotesChange.TheVariants as notes
use Rattle.core_change.specs.declared.change.TabsChange.{TabsChange}
use Rattle.core_change.specs.declared.change.TabsChange.TheVariants as tabs
use Rattle.core_change.specs.declared.turn_change.TurnChange.TheVariants as turns
use Rattle.core_change.specs.Changed.{anchor_addition}

-- the tab t writes, and where the entry was idle its chain goes to the inner tab
abbrev pub taken_change : ℕ → ℕ → ℕ → Bool → ℕ → Chain → TabsChange
taken_change t a version was_idle n c = cond was_idle
    (tabs.PutTwo inner (Freeing (freer_of a false n c)) t (Writing (writer_of a version)))
    (tabs.Put t (Writing (writer_of a version)))

-- the tab t is last no longer, and the chain goes to the inner tab
abbrev pub evicted_change : ℕ → ℕ → ℕ → Chain → TabsChange
evicted_change t a n c = tabs.PutTwo t Free inner (Freeing (freer_of a true n c))

-- this word stands at the anchor a, and the pass last found another one there: the word stays
abbrev pub missed_change : ℕ → ℕ → Option ℕ → TabsChange → Option ℕ → Change
missed_change a found met change used = record {
  answer = found;
  word = Some record { index = anchor_index a; left = found };
  turn = turns.Same;
  tabs = change;
  chain = chains.Same;
  used = used;
  addition = record (anchor_addition kind.Changed a found found (epoch_of found)) { met = met };
  notes = notes.Same;
}
