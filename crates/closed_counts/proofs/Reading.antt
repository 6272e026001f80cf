-- What the words of a table tell of its anchors and slots.
use Rattle.std.proofs.Common.{◌<◌, ◌≡◌, ◌∙◌, List, ℕ, ap, get_or, subst, sym}
use mathlib.Core.Option.{some}
use lib.ListN.{get_elem?}
use Rattle.lock_word.specs.Words.{IsInRange, IsWord, epoch_of, stage_number, stage_of, word_number}
use Rattle.lock_word.specs.declared.word.Word.{Word}
use Rattle.lock_word.proofs.Parts.{epoch_of-word_number, stage_of-epoch_number}
use Rattle.core_model.specs.Layout.{Setting, anchor_index}
use Rattle.core_model.specs.State.{State, word}
use Rattle.core_model.proofs.Lists.{at_or}
use Rattle.closed_counts.specs.Counts.{AreWordsOf}

module _ {X : Type 0} {anchors slots : ℕ} {words : List ℕ} {k : Setting X} {s : State X} (w : AreWordsOf anchors slots words k s) where
  -- a word that was read is the one of the state
  pub read : (at place n : ℕ) → at ≡ place → get_elem? words at ≡ some n → get_or s.words place 0 ≡ n
  read at place n is found = ap (λ (xs : List ℕ). get_or xs place 0) w.words_are ∙ ap (λ (i : ℕ). get_or words i 0) (sym is)
      ∙ at_or words at n 0 found

  pub is_word : (a at n : ℕ) → a < anchors → at ≡ anchor_index a → get_elem? words at ≡ some n → IsWord n
  is_word a at n lt is found = subst IsWord (read at (anchor_index a) n is found)
      (w.sound.anchors.shaped.anchors a (subst (λ (m : ℕ). a < m) (sym w.anchors_are) lt))

  -- the stage of the word that was read
  pub stage_is : (a at n : ℕ) (x : Word) → at ≡ anchor_index a → get_elem? words at ≡ some n → word_number x ≡ n → IsInRange x
      → stage_of (epoch_of (word s a)) ≡ stage_number x.epoch.stage
  stage_is a at n x is found number fits = ap (λ (m : ℕ). stage_of (epoch_of m)) (read at (anchor_index a) n is found ∙ sym number)
      ∙ ap stage_of (epoch_of-word_number x fits.readers) ∙ stage_of-epoch_number x.epoch
