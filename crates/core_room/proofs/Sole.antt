-- A tab that writes, while the inner tab of its pass is free, is the only one that has slots of its anchor.
use Rattle.std.proofs.Common.{Bool, ap, arith, cond, false, refl, length, set, subst, sum_by, sym, true, ⊎_elim, ◌+◌, ◌<◌, ◌==◌, ◌∙◌, ◌≡◌, ◌≢◌, ℕ}
use mathlib.Core.Option.{some, some-injective}
use mathlib.Core.Logic.{dite}
use native.Mathlib.Decide.{ℕ_discrete}
use lib.ListN.{get_elem?}
use Rattle.core_model.specs.declared.tab.Freer.{Freer}
use Rattle.core_model.specs.declared.tab.Tab.{Tab}
use Rattle.core_model.specs.declared.tab.Tab.TheVariants.{Free, Freeing, Last, Reading, Retreating, Writing}
use Rattle.core_model.specs.declared.tab.Writer.{Writer}
use Rattle.core_model.specs.declared.view.View.{View}
use Rattle.core_model.specs.Layout.{Setting}
use Rattle.lock_word.specs.Words.{epoch_of, stage_of}
use Rattle.core_model.specs.State.{State, word}
use Rattle.core_model.specs.Sound.{Sound}
use Rattle.core_model.specs.Tabs.{InnerIsFree, count, inner, is_free, tab_at}
use Rattle.core_model.proofs.Lists.{at_or, at_set, by_eq, sum_some}
use Rattle.core_model.proofs.Rests.{replaced}
use Rattle.core_model.proofs.Matching.{matches_freer, matches_writer, one_writer}
use Rattle.core_model.proofs.SlotAnchors.{written_few}
use Rattle.core_model.specs.Holders.{IsTab}
use Rattle.core_room.specs.Room.{holds_at, running}

-- a tab that has slots of an anchor is there
at_its_own : (a b m : ℕ) → 0 < cond (b == a) m 0 → b ≡ a
at_its_own a b m = by_eq (λ z. 0 < cond z m 0 → b ≡ a) b a (λ e _. e) (λ ne h. absurd (omega arith))

module _ {X : Type 0} where
  -- the view whose tab t is free
  abbrev pub without_tab : View X → ℕ → View X
  without_tab v t = record v { tabs = set v.tabs t Free }

  not_free : (f : Freer X) → is_free {X = X} (Freeing f) ≡ true → ⊥
  not_free f e = cc

module _ {X : Type 0} (k : Setting X) (s : State X) (i : ℕ) (v : View X) (so : Sound k s) (at : get_elem? s.views i ≡ some v) (t : ℕ)
    (w : Writer X) (is : get_elem? v.tabs t ≡ some (Writing w)) (free : InnerIsFree v) where
  writer : IsTab s i t (Writing w)
  writer = record { view = v; at = at; there = is }

  one_writer_there : (j p : ℕ) (y : Writer X) → IsTab s j p (Writing y) → y.anchor ≡ w.anchor → (i ≡ j) × (t ≡ p)
  one_writer_there j p y tab e =
      one_writer k s so.anchors w.anchor i j t p w y (matches_writer k s so.anchors i t w writer).0 writer tab refl e

  frees_none : (j : ℕ) (u : View X) → get_elem? s.views j ≡ some u → (p : ℕ) (f : Freer X) → get_elem? u.tabs p ≡ some (Freeing f)
      → f.anchor ≡ w.anchor → ⊥
  frees_none j u ut p f there e = by_test f.is_freeing refl
    where
      tab : IsTab s j p (Freeing f)
      tab = record { view = u; at = ut; there = there }

      mine : i ≡ j → ⊥
      mine q =
          let same : u ≡ v = some-injective u v (sym ut ∙ subst (λ (z : ℕ). get_elem? s.views z ≡ some v) q at) in
          let last : p ≡ inner = (so.anchors.tabs j u ut p (Freeing f) there).1 in
          let x : tab_at v inner ≡ Freeing f = at_or v.tabs inner (Freeing f) Free (subst
          (λ (z : ℕ). get_elem? v.tabs z ≡ some (Freeing f)) last
          (subst (λ (z : View X). get_elem? z.tabs p ≡ some (Freeing f)) same there)) in
          not_free f (subst (λ (z : Tab X). is_free z ≡ true) x free)

      -- an anchor at FREEING has no writer, and an entry is replaced by a tab of the same pass
      by_test : (b : Bool) → f.is_freeing ≡ b → ⊥
      by_test true q =
          let five = matches_freer k s so.anchors j p f tab q in
          let m = (matches_writer k s so.anchors i t w writer).1.stage_is in
          let high = (written_few w).1 in
          let z = ap (λ (b : ℕ). stage_of (epoch_of (word s b))) e in
          absurd (omega arith)
      by_test false q =
          let r = replaced k s so.anchors so.slots j p f tab q in
          mine (one_writer_there j r.t r.writer r.tab (r.anchor_is ∙ e)).0

  only_this : (j : ℕ) (u : View X) → get_elem? s.views j ≡ some u → (p : ℕ) (x : Tab X) → get_elem? u.tabs p ≡ some x
      → 0 < holds_at w.anchor x → (i ≡ j) × (t ≡ p)
  only_this j u ut p Free there h = absurd (omega arith)
  only_this j u ut p (Retreating a) there h = absurd (omega arith)
  only_this j u ut p (Reading r) there h = absurd (omega arith)
  only_this j u ut p (Last a) there h = absurd (omega arith)
  only_this j u ut p (Writing y) there h =
      one_writer_there j p y record { view = u; at = ut; there = there }
      (at_its_own w.anchor y.anchor (length y.reserved + running y.claim) h)
  only_this j u ut p (Freeing f) there h =
      absurd (frees_none j u ut p f there (at_its_own w.anchor f.anchor (length f.rest + length f.loose) h))

  -- no other tab has slots of its anchor
  pub none_else : sum_by (count (holds_at w.anchor)) (set s.views i (without_tab v t)) ≡ 0
  none_else = dite (ℕ_discrete (sum_by (count (holds_at w.anchor)) (set s.views i (without_tab v t))) 0)
      (λ e. e)
      (λ ne. absurd (let q = sum_some (count (holds_at w.anchor)) (set s.views i (without_tab v t)) (omega arith) in
      let r = sum_some (holds_at w.anchor) q.item.tabs q.some_ in
      ⊎_elim (λ (z : (q.i ≡ i) × (without_tab v t ≡ q.item)).
      here r.i r.item (subst (λ (u : View X). get_elem? u.tabs r.i ≡ some r.item) (sym z.1) r.at) r.some_)
      (λ (z : (q.i ≢ i) × (get_elem? s.views q.i ≡ some q.item)). z.0 (sym (only_this q.i q.item z.1 r.i r.item r.at r.some_).0))
      (at_set s.views i q.i (without_tab v t) q.item q.at)))
    where
      here : (p : ℕ) (x : Tab X) → get_elem? (set v.tabs t Free) p ≡ some x → 0 < holds_at w.anchor x → ⊥
      here p x there h = ⊎_elim
          (λ (z : (p ≡ t) × (Free ≡ x)). let e = ap (holds_at w.anchor) z.1 in absurd (omega arith))
          (λ (z : (p ≢ t) × (get_elem? v.tabs p ≡ some x)). z.0 (sym (only_this i v at p x z.1 h).1))
          (at_set v.tabs t p Free x there)
