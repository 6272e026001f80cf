-- What a sound state tells of the tabs at an anchor, to the parts on slots.
use Rattle.std.proofs.Common.{◌≡◌, ◌≢◌, ◌⊎◌, inl, inr, ⊎_elim, ℕ, ◌<◌, ◌≤◌, List, sym, refl, ap, ◌∙◌, subst, arith, Bool, true, false, cond, eq-eqb}
use mathlib.Core.Option.{some}
use mathlib.Core.Logic.{dite}
use native.Mathlib.Decide.{ℕ_discrete}
use lib.ListN.{get_elem?}
use Rattle.lock_word.specs.Words.{readers_of, epoch_of, stage_of}
use Rattle.core_model.specs.declared.tab.Reader.{Reader}
use Rattle.core_model.specs.declared.tab.Writer.{Writer}
use Rattle.core_model.specs.declared.tab.Freer.{Freer}
use Rattle.core_model.specs.declared.tab.Tab.{Tab}
use Rattle.core_model.specs.declared.tab.Tab.TheVariants.{Free, Retreating, Reading, Writing, Last, Freeing}
use Rattle.core_model.specs.declared.view.View.{View}
use Rattle.core_model.specs.declared.chain.Chain.{Chain}
use Rattle.core_model.specs.Layout.{Setting}
use Rattle.core_model.specs.State.{State, word}
use Rattle.core_model.specs.Tabs.{counts, stage_written, count}
use Rattle.core_model.specs.Slots.{slot_words, writes_at, Replaces, SlotsSound}
use Rattle.core_model.specs.Sound.{AnchorsSound}
use Rattle.core_model.proofs.Lists.{le_sum_at, by_eq}
use Rattle.core_model.proofs.Matching.{matches_writer, matches_freer, one_writer}
use Rattle.core_model.proofs.SlotTabs.{Steady, SameWriters}
use Rattle.core_model.proofs.Telling.{stage_told}
use Rattle.core_model.specs.Holders.{IsTab}

-- 1 or 2
pub written_few : {X : Type 0} (w : Writer X) → (1 ≤ stage_written w) × (stage_written w ≤ 2)
written_few w = by_bool w.is_appending
  where
    by_bool : (b : Bool) → (1 ≤ cond b 2 1) × (cond b 2 1 ≤ 2)
    by_bool true = (omega arith, omega arith)
    by_bool false = (omega arith, omega arith)

module _ {X : Type 0} where
  -- a tab that counts as a writer at the anchor is one
  pub writer_is : (a : ℕ) (x : Tab X) → 0 < writes_at a x → (w : Writer X) × (x ≡ Writing w) × (w.anchor ≡ a)
  writer_is a Free h = absurd (omega arith)
  writer_is a (Retreating b) h = absurd (omega arith)
  writer_is a (Reading r) h = absurd (omega arith)
  writer_is a (Writing w) h = (w, refl, at_a h)
    where
      at_a : 0 < writes_at a (Writing w) → w.anchor ≡ a
      at_a = by_eq (λ z. 0 < cond z 1 0 → w.anchor ≡ a) w.anchor a (λ e _. e) (λ _ h. absurd (omega arith))
  writer_is a (Last b) h = absurd (omega arith)
  writer_is a (Freeing f) h = absurd (omega arith)

  module _ (k : Setting X) (s : State X) (so : AnchorsSound k s) (sl : SlotsSound k s) where
    abbrev stage_at : ℕ → ℕ
    stage_at a = stage_of (epoch_of (word s a))

    tab_of : (i : ℕ) (v : View X) → get_elem? s.views i ≡ some v → (t : ℕ) (x : Tab X) → get_elem? v.tabs t ≡ some x → IsTab s i t x
    tab_of i v at t x was = record { view = v; at = at; there = was }

    pub writer_stage : (i : ℕ) (v : View X) → get_elem? s.views i ≡ some v → (t : ℕ) (x : Writer X) → get_elem? v.tabs t ≡ some (Writing x)
        → (x.anchor < k.anchors) × (stage_at x.anchor ≡ stage_written x) × (1 ≤ stage_at x.anchor) × (stage_at x.anchor ≤ 2)
    writer_stage i v at t x was = let m = matches_writer k s so i t x (tab_of i v at t (Writing x) was) in let q = m.1.stage_is in let f = written_few x in (m.0, q, (let z = f.0 in omega arith), (let z = f.1 in omega arith))

    pub sole_writer : (i : ℕ) (v : View X) → get_elem? s.views i ≡ some v → (t : ℕ) (x : Writer X) → get_elem? v.tabs t ≡ some (Writing x)
        → (j : ℕ) (u : View X) → get_elem? s.views j ≡ some u → (p : ℕ) (y : Writer X) → get_elem? u.tabs p ≡ some (Writing y) → x.anchor ≡ y.anchor → (i ≡ j) × (t ≡ p)
    sole_writer i v at t x was j u ut p y is same = one_writer k s so y.anchor i j t p x y (writer_stage j u ut p y is).0 (tab_of i v at t (Writing x) was) (tab_of j u ut p (Writing y) is) same refl

    pub replaces_at : (i : ℕ) (v : View X) → get_elem? s.views i ≡ some v → (t : ℕ) (f : Freer X) → get_elem? v.tabs t ≡ some (Freeing f) → f.is_freeing ≡ false → Replaces (stage_at f.anchor) ((slot_words k s.words).start f.anchor) v f.anchor
    replaces_at i v at t f was not = subst (λ (z : ℕ). Replaces z ((slot_words k s.words).start f.anchor) v f.anchor) (stage_told k s.words f.anchor (so.tabs i v at t (Freeing f) was).0) ((sl.tabs i v at t (Freeing f) was).replaces not)

    pub freer_stage : (i : ℕ) (v : View X) → get_elem? s.views i ≡ some v → (t : ℕ) (f : Freer X) → get_elem? v.tabs t ≡ some (Freeing f)
        → ((f.is_freeing ≡ true) × (stage_at f.anchor ≡ 5)) ⊎ ((f.is_freeing ≡ false) × (stage_at f.anchor ≡ 1))
    freer_stage i v at t f was = by_bool f.is_freeing refl
      where
        by_bool : (b : Bool) → b ≡ f.is_freeing → ((f.is_freeing ≡ true) × (stage_at f.anchor ≡ 5)) ⊎ ((f.is_freeing ≡ false) × (stage_at f.anchor ≡ 1))
        by_bool true e = inl (sym e, matches_freer k s so i t f (tab_of i v at t (Freeing f) was) (sym e))
        by_bool false e = inr (sym e, (replaces_at i v at t f was (sym e)).taken)

    pub reader_stage : (i : ℕ) (v : View X) → get_elem? s.views i ≡ some v → (t : ℕ) (r : Reader X) → get_elem? v.tabs t ≡ some (Reading r)
        → (r.anchor < k.anchors) × (2 ≤ stage_at r.anchor) × (stage_at r.anchor ≤ 4) × (0 < readers_of (word s r.anchor))
    reader_stage i v at t r was = let st = so.tabs i v at t (Reading r) was in let one = itself in let c = so.readers r.anchor st.0 in
        let x = le_sum_at (count (counts r.anchor)) s.views i v at in let y = le_sum_at (counts r.anchor) v.tabs t (Reading r) was in (st.0, st.1.from, st.1.to, omega arith)
      where
        itself : counts {X = X} r.anchor (Reading r) ≡ 1
        itself = rw (eq-eqb r.anchor r.anchor refl) refl

    -- nobody reads, writes or frees at an anchor of this stage, which has no readers
    pub alone_at : (a : ℕ) → readers_of (word s a) ≡ 0 → (stage_at a ≢ 1) × (stage_at a ≢ 2) × (stage_at a ≢ 5)
        → (cs' : List Chain) (u' : View X) → (j : ℕ) (u : View X) → get_elem? s.views j ≡ some u → ((b : ℕ) → b ≢ a → SameWriters u u' b)
        → (t : ℕ) (tab : Tab X) → get_elem? u.tabs t ≡ some tab → Steady s.chains cs' a u u' tab
    alone_at a unread off cs' u' j u at same t tab was = record {
      reads = λ r e on. absurd (let q = (reader_stage j u at t r (was ∙ ap some e)).3 in let z = ap (λ (b : ℕ). readers_of (word s b)) on in omega arith);
      writes = λ x e on. let q = writer_stage j u at t x (was ∙ ap some e) in let z = ap stage_at on in let n1 = off.0 in let n2 = off.1 in let low = q.2 in let high = q.3 in one_or_two (stage_at x.anchor) low high (λ h. n1 (sym z ∙ h)) (λ h. n2 (sym z ∙ h));
      frees = λ f e on. let z = ap stage_at on in ⊎_elim (λ (q : _ × (stage_at f.anchor ≡ 5)). off.2 (sym z ∙ q.1)) (λ (q : _ × (stage_at f.anchor ≡ 1)). off.0 (sym z ∙ q.1)) (freer_stage j u at t f (was ∙ ap some e));
      same = same;
    }
      where
        one_or_two : (g : ℕ) → 1 ≤ g → g ≤ 2 → (g ≡ 1 → ⊥) → (g ≡ 2 → ⊥) → ⊥
        one_or_two g low high n1 n2 = dite (ℕ_discrete g 1) n1 (λ ne. n2 (omega arith))
