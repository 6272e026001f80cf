-- What is left in the words of a table: which anchors are closed, and how many slots stand in their chains.
use Rattle.std.specs.Prelude.{Bool, List, ℕ, ◌==◌, ◌≡◌, filter, length, slice_index, sum_by}
use Rattle.std.specs.List.{range_with_len}
use Rattle.lock_word.specs.Words.{epoch_of, stage_of}
use Rattle.core_model.specs.Layout.{Setting, anchor_index}
use Rattle.core_model.specs.Sound.{WordsSound}
use Rattle.core_model.specs.State.{State, chain_of, word}

-- These are the words of a state in which words and chains agree, of a table with so many anchors and slots.
pub record AreWordsOf {X : Type 0} (anchors slots : ℕ) (words : List ℕ) (k : Setting X) (s : State X) : Type 0 where
  pub anchors_are : k.anchors ≡ anchors
  pub slots_are : k.slots ≡ slots
  pub words_are : s.words ≡ words
  pub sound : WordsSound k s

-- by these words a closed entry stands at the anchor
abbrev pub IsClosedAt : List ℕ → ℕ → Type 0
IsClosedAt words a = stage_of (epoch_of (slice_index words (anchor_index a))) ≡ 3

abbrev pub is_closed_at : {X : Type 0} → State X → ℕ → Bool
is_closed_at s a = stage_of (epoch_of (word s a)) == 3

-- the anchors at which closed entries stand
abbrev pub closed_anchors : {X : Type 0} → Setting X → State X → List ℕ
closed_anchors k s = filter (is_closed_at s) (range_with_len 0 k.anchors)

-- how many slots are published in the chain of an anchor
abbrev pub slots_of : {X : Type 0} → State X → ℕ → ℕ
slots_of s a = length (chain_of s a).slots

-- how many slots stand in the chains of closed anchors
abbrev pub slots_kept : {X : Type 0} → Setting X → State X → ℕ
slots_kept k s = sum_by (slots_of s) (closed_anchors k s)
