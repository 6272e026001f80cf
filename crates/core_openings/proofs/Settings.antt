-- The setting of a store that was just opened with what a rebuild kept is one that a store may have.
use Rattle.std.proofs.Common.{◌≡◌, ◌⊎◌, inl, inr, ⊎_elim, ℕ, ◌<◌, ◌≤◌, List, length, sym, ap, refl, ◌∙◌, subst, arith, Contains}
use Rattle.lock_word.specs.Words.{doom_of, epoch_of, mode_of, readers_of, stage_of, version_of, word_at}
use Rattle.store_key.specs.Anchor.{anchor_of}
use Rattle.rebuild_model.specs.declared.found.Found.{Found}
use Rattle.rebuild_model.specs.declared.rebuilt.Rebuilt.{Rebuilt}
use Rattle.core_model.specs.declared.view.Place.TheVariants.{Anchor, Counter}
use Rattle.core_model.specs.Anchors.{IsSetting}
use Rattle.core_model.specs.Layout.{Setting, word_in}
use Rattle.core_model.specs.Opening.{IsOpened}
use Rattle.core_model.specs.State.{State, word}
use Rattle.core_model.proofs.CellsOpened.{numbered}
use Rattle.core_openings.specs.KeptSo.{IsKeptSo}

-- what a setting asks of the word of an anchor, where no version is above this one
record IsOpeningWord (n most : ℕ) : Type 0 where
  unread : readers_of n ≡ 0
  mode : mode_of (epoch_of n) < 16
  undoomed : doom_of (epoch_of n) ≡ 0
  stage : (stage_of (epoch_of n) ≡ 0) ⊎ (stage_of (epoch_of n) ≡ 3)
  version : version_of (epoch_of n) ≤ most
  some_version : stage_of (epoch_of n) ≡ 3 → 0 < version_of (epoch_of n)

empty_word : (most : ℕ) → IsOpeningWord 0 most
empty_word most = record { unread = refl; mode = omega arith; undoomed = refl; stage = inl refl; version = omega arith; some_version = λ e. absurd (omega arith) }

closed_word : (version most : ℕ) → 0 < version → version ≤ most → IsOpeningWord (word_at version 3) most
closed_word version most from to = record { unread = omega arith; mode = omega arith; undoomed = omega arith; stage = inr (omega arith); version = omega arith; some_version = λ e. omega arith }

module _ {X : Type 0} (k : Setting X) (r : Rebuilt) (s : State X) (o : IsOpened k r s) (b : IsKeptSo k.anchors k.slots r) where
  abbrev place : Found → ℕ
  place f = anchor_of f.key k.anchors

  opening_word : (a : ℕ) → a < k.anchors → IsOpeningWord (word_in k k.words (Anchor a)) r.greatest
  opening_word a lt = subst (λ (ws : List ℕ). IsOpeningWord (word_in k ws (Anchor a)) r.greatest) o.words (⊎_elim
      (λ (q : (f : Found) × Contains r.winners f × (place f ≡ a)). subst (λ (z : ℕ). IsOpeningWord (word s z) r.greatest) q.2
      (subst (λ (n : ℕ). IsOpeningWord n r.greatest) (sym (o.kept q.0 q.1).word_is) (closed_word q.0.version r.greatest (b.some_version q.0 q.1) (b.versions q.0 q.1))))
      (λ (none : (f : Found) → Contains r.winners f → place f ≡ a → ⊥). subst (λ (n : ℕ). IsOpeningWord n r.greatest) (sym (o.empty a lt none).word_is) (empty_word r.greatest))
      (numbered place a r.winners))

  counter_is : word_in k k.words Counter ≡ r.greatest
  counter_is = ap (λ (ws : List ℕ). word_in k ws Counter) (sym o.words) ∙ o.counter

  pub opened_setting : IsSetting k
  opened_setting = record {
    few = o.few;
    words = ap length (sym o.words) ∙ o.count;
    limited = let z = counter_is in let y = b.limited in omega arith;
    unread = λ a lt. (opening_word a lt).unread;
    mode = λ a lt. (opening_word a lt).mode;
    undoomed = λ a lt. (opening_word a lt).undoomed;
    stage = λ a lt. (opening_word a lt).stage;
    version = λ a lt. let z = counter_is in let y = (opening_word a lt).version in omega arith;
    some_version = λ a lt. (opening_word a lt).some_version;
  }
