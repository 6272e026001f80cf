-- Where each tab is free nothing is left to do for the word of an anchor.
use Rattle.std.proofs.Common.{◌≡◌, ◌≢◌, ◌⊎◌, inl, inr, ℕ, ◌<◌, refl, ap, ◌∙◌, arith, sum_by}
use mathlib.Core.Logic.{dite}
use native.Mathlib.Decide.{ℕ_discrete}
use Rattle.lock_word.specs.Words.{readers_of, epoch_of, mode_of, stage_of, doom_of}
use Rattle.lock_word.proofs.Testing.{mode_is, left_over_where, written_where}
use Rattle.core_model.specs.declared.tab.Writer.{Writer}
use Rattle.core_model.specs.declared.tab.Freer.{Freer}
use Rattle.core_model.specs.declared.tab.Tab.{Tab}
use Rattle.core_model.specs.declared.tab.Tab.TheVariants.{Free, Writing, Last, Freeing}
use Rattle.core_model.specs.Layout.{Setting}
use Rattle.core_model.specs.State.{State, word}
use Rattle.core_model.specs.Tabs.{counts, count}
use Rattle.core_model.specs.Sound.{AnchorsSound}
use Rattle.core_model.proofs.Lists.{sum_some}
use Rattle.core_model.proofs.Matching.{has_writer, has_freer}
use Rattle.core_model.specs.Holders.{AllFree, IsFinished}

module _ {X : Type 0} where
  not_writing : (w : Writer X) → Writing w ≡ Free → ⊥
  not_writing w e = cc

  not_last : (a : ℕ) → ◌≡◌ {A = Tab X} (Last a) Free → ⊥
  not_last a e = cc

  not_freeing : (f : Freer X) → ◌≡◌ {A = Tab X} (Freeing f) Free → ⊥
  not_freeing f e = cc

-- the stages that are left
three_stages : (g : ℕ) → g < 7 → g ≢ 1 → g ≢ 2 → g ≢ 4 → g ≢ 5 → (g ≡ 0) ⊎ (g ≡ 3) ⊎ (g ≡ 6)
three_stages g few taken appending halted freeing = dite (ℕ_discrete g 0) (λ e. inl e) (λ z. dite (ℕ_discrete g 3) (λ e. inr (inl e)) (λ y. inr (inr (omega arith))))

-- a doomed one that is closed
doomed_mode : (e : ℕ) → mode_of e < 16 → stage_of e ≡ 3 → doom_of e ≢ 0 → mode_of e ≡ 11
doomed_mode e few closed ne = let m = mode_is e few in omega arith

module _ {X : Type 0} (k : Setting X) (s : State X) (a : ℕ) (so : AnchorsSound k s) (lt : a < k.anchors) (free : AllFree s) where
  abbrev g : ℕ
  g = stage_of (epoch_of (word s a))

  none : (f : Tab X → ℕ) → f Free ≡ 0 → sum_by (count f) s.views ≡ 0
  none f h = dite (ℕ_discrete (sum_by (count f) s.views) 0) (λ e. e)
      (λ ne. let x = sum_some (count f) s.views (omega arith) in let y = sum_some f x.item.tabs x.some_ in absurd (let e = ap f (free x.i x.item x.at y.i y.item y.at) in let z = y.some_ in omega arith))

  unread : readers_of (word s a) ≡ 0
  unread = so.readers a lt ∙ none (counts a) refl

  unwritten : (g ≡ 1) ⊎ (g ≡ 2) → ⊥
  unwritten h = let w = has_writer k s so a lt (written_where (epoch_of (word s a)) h) in not_writing w.writer (free w.i w.tab.view w.tab.at w.t (Writing w.writer) w.tab.there)

  unfreed : g ≡ 5 → ⊥
  unfreed h = let f = has_freer k s so a lt h in not_freeing f.freer (free f.i f.tab.view f.tab.at f.t (Freeing f.freer) f.tab.there)

  not_over : (g ≡ 4) ⊎ (mode_of (epoch_of (word s a)) ≡ 11) → ⊥
  not_over h = let l = so.lasts a lt (left_over_where (word s a) h unread) in not_last a (free l.i l.view l.at l.t (Last a) l.last)

  pub settles : IsFinished (word s a)
  settles = let is = so.shaped.anchors a lt in record {
    readers = unread;
    stage = three_stages g is.stage (λ e. unwritten (inl e)) (λ e. unwritten (inr e)) (λ e. not_over (inl e)) unfreed;
    closed = λ e. dite (ℕ_discrete (doom_of (epoch_of (word s a))) 0) (λ z. z) (λ ne. absurd (not_over (inr (doomed_mode (epoch_of (word s a)) is.mode e ne))));
  }
