-- The state of the core: the words of the table in one list, the cells that are at home, what each pass and each note has, and
-- the chains, which no word spells by itself. A cell is away from its place while a tab holds its turn, which then has it.
use Rattle.std.specs.Prelude.{List, Option, slice_index, slice_index_or, ℕ}
use Rattle.core_model.specs.declared.moves.Side.{Side}
use Rattle.core_model.specs.declared.tab.Cell.{Cell}
use Rattle.core_model.specs.declared.view.Place.TheVariants.{Beside, Counter, Turn}
use Rattle.core_model.specs.declared.view.Sight.{Sight}
use Rattle.core_model.specs.declared.view.View.{View}
use Rattle.core_model.specs.declared.chain.Chain.{Chain}
use Rattle.core_model.specs.Layout.{Setting, anchor_index, word_in}
use Rattle.core_model.specs.Chains.{no_chain}

pub record State (X : Type 0) : Type 0 where
  pub words : List ℕ
  pub places : List (Option (Cell X))
  pub views : List (View X)
  pub chains : List Chain

abbrev pub chain_of : {X : Type 0} → State X → ℕ → Chain
chain_of s a = slice_index_or s.chains a no_chain

-- The word of the anchor a, as `word_in` reads it; where anchors stand needs no sizes.
abbrev pub word : {X : Type 0} → State X → ℕ → ℕ
word s a = slice_index s.words (anchor_index a)

abbrev pub side_word : {X : Type 0} → Setting X → State X → Side → ℕ → ℕ
side_word k s side a = word_in k s.words (Beside side a)

abbrev pub turn_word : {X : Type 0} → Setting X → State X → ℕ → ℕ
turn_word k s slot = word_in k s.words (Turn slot)

abbrev pub counter : {X : Type 0} → Setting X → State X → ℕ
counter k s = word_in k s.words Counter

-- what a step finds: the word that it is on, the cell of its slot, the chain of its anchor, and what a note has seen, or all together have of
-- its slot
pub record Finding (X : Type 0) : Type 0 where
  pub word : ℕ
  pub cell : Option (Cell X)
  pub chain : Chain
  pub sights : List Sight
