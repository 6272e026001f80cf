-- The readers that a found word counts: the tabs of the pass that found it, and of each other pass nine at most.
use Rattle.std.proofs.Common.{List, [], ap, arith, inl, inr, length, subst, sum_by, suc, sym, zero, ◌*◌, ◌+◌, ◌<◌, ◌∙◌, ◌∷◌, ◌≡◌, ◌≤◌, ◌⊎◌, ℕ}
use Rattle.std.proofs.lemmas.List.Sums.{sum_by-cons}
use mathlib.Core.Option.{some, some-injective, some-ne-none}
use lib.ListN.{get_elem?}
use Rattle.lock_word.specs.Words.{readers_of, word_number}
use Rattle.lock_word.specs.declared.word.Word.{Word}
use Rattle.lock_word.proofs.Parts.{readers_of-word_number}
use Rattle.core_model.specs.Anchors.{tabs_in}
use Rattle.core_model.specs.Sound.{AnchorsSound}
use Rattle.core_model.specs.State.{State, word}
use Rattle.core_model.specs.Tabs.{IsPass, count, counts}
use Rattle.core_model.specs.declared.moves.Move.TheVariants.{Look, Take}
use Rattle.core_model.specs.declared.tab.Tab.{Tab}
use Rattle.core_model.specs.declared.view.View.{View}
use Rattle.core_model.proofs.Lists.{le_sum_at}
use Rattle.core_model.proofs.Tabs.{counts_few}
use Rattle.line_account.specs.Answers.{AreCounted}
use Rattle.store_rule.specs.Ground.{Ground}
use Rattle.store_rule.specs.Told.{Steps}
use Rattle.rock_writer.specs.Beginning.{InUse, Overtaken}
use Rattle.crew_accounts.proofs.Beginning.{drawn_tabs}

module _ {X : Type 0} (a : ℕ) where
  -- no more tabs of a view are counted than it has
  one_few : (v : View X) → count (counts a) v ≤ tabs_in v
  one_few v = let few = counts_few a (v ∷ []) in let c = sum_by-cons (count (counts a)) v [] in let d = sum_by-cons tabs_in v [] in omega arith

  -- those that are counted beside the tabs of one view are at most the tabs of the others
  others_few : (views : List (View X)) (i : ℕ) (v : View X) → get_elem? views i ≡ some v → sum_by (count (counts a)) views + tabs_in v ≤ count (counts a) v + sum_by tabs_in views
  others_few [] i v at = absurd (some-ne-none v (sym at))
  others_few (u ∷ us) zero v at =
      let same : u ≡ v = some-injective u v at in
      let c = sum_by-cons (count (counts a)) u us in
      let d = sum_by-cons tabs_in u us in
      let few = counts_few a us in
      let e = ap (count (counts a)) same in
      let f = ap tabs_in same in
      omega arith
  others_few (u ∷ us) (suc i) v at =
      let c = sum_by-cons (count (counts a)) u us in
      let d = sum_by-cons tabs_in u us in
      let one = one_few u in
      let rest = others_few us i v at in
      omega arith

module _ {X : Type 0} (g : Ground X) (a : ℕ) where
  -- the readers of a word that stands are counted so
  counted_at : (s : State X) (i : ℕ) (v : View X) → AnchorsSound g.setting s → get_elem? s.views i ≡ some v → IsPass v → a < g.setting.anchors → (n : ℕ) → n ≡ word s a
      → AreCounted g.setting.passes (sum_by (counts a) v.tabs) (readers_of n)
  counted_at s i v so at pass lt n is =
      let all = so.readers a lt in
      let low = le_sum_at (count (counts a)) s.views i v at in
      let most = others_few a s.views i v at in
      let tabs = so.shaped.tabs in
      let same = ap readers_of is in
      let nine : length v.tabs ≡ 9 = pass in
      record { least = omega arith; most = omega arith }

  looked_counted : {v w : View X} {n : ℕ} → IsPass v → Steps g v (Look a) n w → AreCounted g.setting.passes (sum_by (counts a) v.tabs) (readers_of n)
  looked_counted {v} {w} {n} pass st = counted_at st.state st.index v st.rule.sound.anchors st.at pass st.may.allowed n st.found

  missed_counted : {t version n : ℕ} {u w : View X} → IsPass u → Steps g u (Take t a version) n w → AreCounted g.setting.passes (sum_by (counts a) u.tabs) (readers_of n)
  missed_counted {t} {version} {n} {u} pass st = counted_at st.state st.index u st.rule.sound.anchors st.at pass st.may.allowed.0 n st.found

module _ {X : Type 0} (g : Ground X) where
  -- and those of a word as its parts
  in_word : (own : ℕ) (found : Word) → found.readers < 65536 → AreCounted g.setting.passes own (readers_of (word_number found)) → AreCounted g.setting.passes own found.readers
  in_word own found small h = subst (AreCounted g.setting.passes own) (readers_of-word_number found (omega arith)) h

module _ {X : Type 0} (g : Ground X) (t a : ℕ) (v : View X) (pass : IsPass v) (looked found : Word) (small : looked.readers < 65536) (low : found.readers < 65536) (w : View X) where
  abbrev own : ℕ
  own = sum_by (counts a) v.tabs

  -- the words that a refused writer found count readers so
  pub busy_counted : InUse g t a v looked found w ⊎ Overtaken g t a v looked found w
      → AreCounted g.setting.passes (sum_by (counts a) v.tabs) looked.readers × AreCounted g.setting.passes (sum_by (counts a) v.tabs) found.readers
  busy_counted (inl h) =
      let first = in_word g own looked small (looked_counted g a pass h.looks) in
      (first, subst (λ (z : Word). AreCounted g.setting.passes own z.readers) (sym h.same) first)
  busy_counted (inr h) =
      let tabs = drawn_tabs h in (
        in_word g own looked small (looked_counted g a pass h.looks),
        in_word g own found low (subst (λ (xs : List (Tab X)). AreCounted g.setting.passes (sum_by (counts a) xs) (readers_of (word_number found))) tabs
            (missed_counted g a (ap length tabs ∙ pass) h.misses)),
      )
