-- To look at an anchor, to enter it and to leave it keeps a state sound.
use Rattle.std.proofs.Common.{◌≡◌, ◌⊎◌, inl, inr, ℕ, ◌+◌, ◌-◌, ◌<◌, ◌≤◌, List, [], ◌∷◌, set, sym, refl, ap, ◌∙◌, subst, arith, Bool, true, false, cond, None, eq-eqb, get_or-set_same}
use mathlib.Core.Option.{some}
use mathlib.Core.Logic.{dite}
use native.Mathlib.Decide.{ℕ_discrete}
use lib.ListN.{get_elem?}
use Rattle.lock_word.specs.Words.{readers_of, epoch_of, version_of, stage_of, is_readable, is_left_over}
use Rattle.lock_word.proofs.Readers.{readers_of-more, epoch_of-more, is_word-more, readers_of-less, epoch_of-less, is_word-less}
use Rattle.lock_word.proofs.Testing.{readers_of-left_over, stage_of-readable}
use Rattle.link_word.specs.declared.link.Link.TheVariants.{NotWritten}
use Rattle.core_model.specs.declared.tab.Turn.TheVariants.{NoTurn}
use Rattle.core_model.specs.declared.tab.Tab.{Tab}
use Rattle.core_model.specs.declared.tab.Tab.TheVariants.{Free, Retreating, Reading, Writing, Last, Freeing}
use Rattle.core_model.specs.declared.moves.Move.TheVariants.{Look, Enter, Leave}
use Rattle.core_model.specs.declared.view.Kind.TheVariants.{Entered, Left}
use Rattle.core_model.specs.declared.view.Item.{Item}
use Rattle.core_model.specs.declared.view.Deed.{Deed}
use Rattle.core_model.specs.declared.view.View.{View}
use Rattle.core_model.specs.Layout.{Setting, anchor_index}
use Rattle.core_model.specs.State.{State, word}
use Rattle.core_model.specs.Trails.{seen_at}
use Rattle.core_model.specs.Tabs.{tab_at, anchor_of, is_counted, counts, writes, frees, count, IsPass}
use Rattle.core_model.specs.Anchors.{written_at, freed_at, TabStands}
use Rattle.core_model.specs.Steps.{after}
use Rattle.core_model.specs.Sound.{AnchorsSound}
use Rattle.core_model.proofs.Lists.{le_sum_at, set_here, at_length}
use Rattle.core_model.proofs.Tabs.{IsAt, Turns, changes, counts_else, counts_few, tab_there}
use Rattle.core_model.proofs.AnchorStep.{stepped, moved}
use Rattle.core_model.proofs.AnchorKinds.{meets_others, sees_now, no_tab, one_tab, same_epoch}
use Rattle.core_model.specs.Table.{Allowed, item_of}
use Rattle.core_model.specs.AnchorMoves.{entered, left_tab, meets, deed_of}

-- what a tab that is counted at the anchor a is to the counts
pub record IsCounted {X : Type 0} (a : ℕ) (x : Tab X) : Type 0 where
  pub at_a : IsAt a x
  pub counts_one : counts a x ≡ 1
  pub writes_none : (u g : ℕ) → writes a u g x ≡ 0
  pub frees_none : (u d : ℕ) → frees a u d x ≡ 0

pub counted_is : {X : Type 0} → (x : Tab X) → is_counted x ≡ true → IsCounted (anchor_of x) x
counted_is Free h = cc
counted_is (Retreating a) h = record { at_a = refl; counts_one = rw (eq-eqb a a refl) refl; writes_none = λ _ _. refl; frees_none = λ _ _. refl }
counted_is (Reading r) h = record { at_a = refl; counts_one = rw (eq-eqb r.anchor r.anchor refl) refl; writes_none = λ _ _. refl; frees_none = λ _ _. refl }
counted_is (Writing w) h = cc
counted_is (Last a) h = cc
counted_is (Freeing f) h = cc

-- what a tab that counts nowhere is to them
pub record IsUncounted {X : Type 0} (a : ℕ) (x : Tab X) : Type 0 where
  pub at_a : IsAt a x
  pub counts_none : counts a x ≡ 0
  pub writes_none : (u g : ℕ) → writes a u g x ≡ 0
  pub frees_none : (u d : ℕ) → frees a u d x ≡ 0

pub left_is : {X : Type 0} → (a : ℕ) (b : Bool) → IsUncounted {X = X} a (cond b (Last a) Free)
left_is a true = record { at_a = refl; counts_none = refl; writes_none = λ _ _. refl; frees_none = λ _ _. refl }
left_is a false = record { at_a = tt; counts_none = refl; writes_none = λ _ _. refl; frees_none = λ _ _. refl }

module _ {X : Type 0} (k : Setting X) (s : State X) (i : ℕ) (v : View X) (so : AnchorsSound k s) (at : get_elem? s.views i ≡ some v) (pass : IsPass v) where
  pub few_readers : (a : ℕ) → a < k.anchors → readers_of (word s a) ≤ 288
  few_readers a lt = let c = counts_few a s.views in let r = so.readers a lt in let t = so.shaped.tabs in let f = so.setting.few in omega arith

  pub look_kept : (a : ℕ) → Allowed k s v (Look a) → AnchorsSound k (after k s i v (Look a))
  look_kept a lt = let n : ℕ = word s a in same_epoch k s i v so at pass a n (epoch_of n) v.tabs v.held (item_of v (Look a) n) [] (meets a n v.tabs) lt (so.shaped.anchors a lt) refl refl
      record { at_a = refl; tells = refl; no_draw = refl; no_count = λ _ _. refl; found = omega arith }
      (no_tab k s i v so at pass a n (epoch_of n) v.held (item_of v (Look a) n) [] (meets a n v.tabs) s.chains refl (λ _ _. refl) (λ _ _. refl))
      (λ u h. (h, refl))
      (λ _. inr (refl, λ t tat f. (tat, refl)))
      (λ b h. inl h)
      (λ b h. meets_others a n b v.tabs h)

  -- the tab that entered
  entered_is : (a n : ℕ) (b : Bool) → b ≡ is_readable (epoch_of n) → IsCounted {X = X} a (cond b (Reading record { anchor = a; version = version_of (epoch_of n); place = 0; slot = None; found = NotWritten; turn = NoTurn }) (Retreating a))
  entered_is a n true e = record { at_a = refl; counts_one = rw (eq-eqb a a refl) refl; writes_none = λ _ _. refl; frees_none = λ _ _. refl }
  entered_is a n false e = record { at_a = refl; counts_one = rw (eq-eqb a a refl) refl; writes_none = λ _ _. refl; frees_none = λ _ _. refl }

  entered_stands : (s' : State X) (w : View X) (t a n : ℕ) → a < k.anchors → epoch_of (word s' a) ≡ epoch_of n → epoch_of n ≤ seen_at a w.seen → (b : Bool) → b ≡ is_readable (epoch_of n)
      → TabStands k s' w t (cond b (Reading record { anchor = a; version = version_of (epoch_of n); place = 0; slot = None; found = NotWritten; turn = NoTurn }) (Retreating a))
  entered_stands s' w t a n lt same seen true e = let st = stage_of-readable (epoch_of n) (sym e) in
      (lt, record { version_is = ap version_of same; from = two st; to = four st }, omega arith)
    where
      two : (stage_of (epoch_of n) ≡ 2) ⊎ (stage_of (epoch_of n) ≡ 3) → 2 ≤ stage_of (epoch_of (word s' a))
      two st = let q = same in omega arith

      four : (stage_of (epoch_of n) ≡ 2) ⊎ (stage_of (epoch_of n) ≡ 3) → stage_of (epoch_of (word s' a)) ≤ 4
      four st = let q = same in omega arith
  entered_stands s' w t a n lt same seen false e = lt

  pub enter_kept : (t a : ℕ) → Allowed k s v (Enter t a) → AnchorsSound k (after k s i v (Enter t a))
  enter_kept t a may = let n : ℕ = word s a in let lt = may.0 in let few = few_readers a lt in let room : readers_of n < 65535 = omega arith in
      let more = readers_of-more n room in let same = epoch_of-more n room in
      let new : Tab X = entered a (epoch_of n) in let x = entered_is a n (is_readable (epoch_of n)) refl in
      let item = item_of v (Enter t a) n in let deeds : List Deed = deed_of v Entered a (n + 1) false ∷ [] in let met = meets a n v.tabs in
      let turns : Turns v.tabs t a Free new = record { was = tab_there v t Free (let p = pass in let q = may.1 in omega arith) may.2; old_at = tt; new_at = x.at_a } in
      same_epoch k s i v so at pass a (n + 1) (epoch_of n) (set v.tabs t new) v.held item deeds met lt (is_word-more n (so.shaped.anchors a lt) room) same (sym same)
      record { at_a = refl; tells = refl; no_draw = refl; no_count = λ _ _. refl; found = omega arith }
      (one_tab k s i v so at pass a (n + 1) (epoch_of n) t Free new v.held item deeds met s.chains turns
      (let c = x.counts_one in omega arith)
      (λ u g. let z = x.writes_none u g in let y : written_at (epoch_of (n + 1)) u g ≡ written_at (epoch_of n) u g = ap (λ (m : ℕ). written_at m u g) same in omega arith)
      (λ u d. let z = x.frees_none u d in let y : freed_at (epoch_of (n + 1)) u d ≡ freed_at (epoch_of n) u d = ap (λ (m : ℕ). freed_at m u d) same in omega arith)
      (entered_stands (moved s i (stepped v a (n + 1) (epoch_of n) (set v.tabs t new) v.held item deeds met) a (n + 1) s.chains) (stepped v a (n + 1) (epoch_of n) (set v.tabs t new) v.held item deeds met) t a n lt
      (let z = get_or-set_same s.words (anchor_index a) (n + 1) 0 (let y = so.shaped.words in omega arith) in ap epoch_of z ∙ same)
      (sees_now a (epoch_of n) v.seen) (is_readable (epoch_of n)) refl))
      (λ u h. (h, refl))
      (λ over. absurd (let z = readers_of-left_over (n + 1) over in omega arith))
      (λ b h. dite (ℕ_discrete b a)
      (λ q. inr (deed_of v Entered a (n + 1) false, (0, omega arith, refl), (refl, sym q, refl)))
      (λ ne. inl (let z = counts_else v.tabs t a Free new turns b ne in omega arith)))
      (λ b h. meets_others a n b v.tabs h)

  -- a tab that is counted is at an anchor of the table, and one of its readers
  pub counted_there : (t a : ℕ) (old : Tab X) → get_elem? v.tabs t ≡ some old → is_counted old ≡ true → anchor_of old ≡ a → (a < k.anchors) × IsCounted a old
  counted_there t a old was counted from = (subst (λ (z : ℕ). z < k.anchors) from (inside old counted (so.tabs i v at t old was)), subst (λ (z : ℕ). IsCounted z old) from (counted_is old counted))
    where
      inside : (old : Tab X) → is_counted old ≡ true → TabStands k s v t old → anchor_of old < k.anchors
      inside Free h st = cc
      inside (Retreating b) h st = st
      inside (Reading r) h st = st.0
      inside (Writing w) h st = cc
      inside (Last b) h st = cc
      inside (Freeing f) h st = cc

  pub has_reader : (t a : ℕ) (old : Tab X) → get_elem? v.tabs t ≡ some old → a < k.anchors → counts a old ≡ 1 → 0 < readers_of (word s a)
  has_reader t a old was lt one = let r = so.readers a lt in let h = le_sum_at (count (counts a)) s.views i v at in let g = le_sum_at (counts a) v.tabs t old was in omega arith

  pub left_stands : (s' : State X) (w : View X) (t a : ℕ) → a < k.anchors → (b : Bool) → TabStands k s' w t (cond b (Last a) Free)
  left_stands s' w t a lt true = lt
  left_stands s' w t a lt false = tt

  pub leave_kept : (t : ℕ) → Allowed k s v (Leave t) → AnchorsSound k (after k s i v (Leave t))
  leave_kept t may = leaves t (anchor_of (tab_at v t)) (tab_at v t) (tab_there v t (tab_at v t) (let p = pass in let q = may.0 in omega arith) refl) may.1 refl
      (item_of v (Leave t) (word s (anchor_of (tab_at v t)))) refl refl refl
    where
      leaves : (t a : ℕ) (old : Tab X) → get_elem? v.tabs t ≡ some old → is_counted old ≡ true → anchor_of old ≡ a → (item : Item) → item.kind ≡ Left → item.at ≡ a → item.found ≡ word s a - 1
          → AnchorsSound k (moved s i (stepped v a (word s a - 1) (epoch_of (word s a)) (set v.tabs t (left_tab a (word s a - 1))) v.held item [] (meets a (word s a - 1) (set v.tabs t (left_tab a (word s a - 1))))) a (word s a - 1) s.chains)
      leaves t a old was counted from item kind item_at item_found = let n : ℕ = word s a in let c = counted_there t a old was counted from in let lt = c.0 in let x = c.1 in
          let one = x.counts_one in let some_reader = has_reader t a old was lt one in let less = readers_of-less n some_reader in let same = epoch_of-less n some_reader in
          let new : Tab X = left_tab a (n - 1) in let y : IsUncounted a new = left_is a (is_left_over (n - 1)) in
          let turns : Turns v.tabs t a old new = record { was = was; old_at = x.at_a; new_at = y.at_a } in
          let met = meets a (n - 1) (set v.tabs t new) in
          same_epoch k s i v so at pass a (n - 1) (epoch_of n) (set v.tabs t new) v.held item [] met lt (is_word-less n (so.shaped.anchors a lt) some_reader) same (sym same)
          record { at_a = item_at; tells = rw kind refl; no_draw = rw kind refl; no_count = λ f b. rw kind refl; found = let z = ap epoch_of item_found in omega arith }
          (one_tab k s i v so at pass a (n - 1) (epoch_of n) t old new v.held item [] met s.chains turns
          (let q = y.counts_none in omega arith)
          (λ u g. let z = x.writes_none u g in let q = y.writes_none u g in let e : written_at (epoch_of (n - 1)) u g ≡ written_at (epoch_of n) u g = ap (λ (m : ℕ). written_at m u g) same in omega arith)
          (λ u d. let z = x.frees_none u d in let q = y.frees_none u d in let e : freed_at (epoch_of (n - 1)) u d ≡ freed_at (epoch_of n) u d = ap (λ (m : ℕ). freed_at m u d) same in omega arith)
          (left_stands (moved s i (stepped v a (n - 1) (epoch_of n) (set v.tabs t new) v.held item [] met) a (n - 1) s.chains) (stepped v a (n - 1) (epoch_of n) (set v.tabs t new) v.held item [] met) t a lt (is_left_over (n - 1))))
          (λ u h. (h, refl))
          (λ over. inl (t, set_here v.tabs t new (at_length v.tabs t old was) ∙ rw over refl, item_found))
          (λ b h. inl (dite (ℕ_discrete b a)
          (λ q. subst (λ (z : ℕ). 0 < count (counts z) v) (sym q) (let g = le_sum_at (counts a) v.tabs t old was in omega arith))
          (λ ne. let z = counts_else v.tabs t a old new turns b ne in omega arith)))
          (λ b h. let m = meets_others a (n - 1) b (set v.tabs t new) h in (m.0, let z = m.1 in let p = y.counts_none in let q = changes v.tabs t a old new turns (counts a) in omega arith))
