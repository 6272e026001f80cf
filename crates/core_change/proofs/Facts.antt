-- What a pass of a sound core knows of the number that it finds.
use Rattle.std.proofs.Common.{◌≡◌, ℕ, ◌<◌, ◌≤◌, ◌+◌, List, Some, Bool, true, false, refl, ap, cond, eq-eqb, set, sum_by, ◌∙◌, subst, arith}
use Rattle.std.specs.Prelude.{slice_get, slice_index}
use Rattle.std.proofs.lemmas.Option.{get_or_from_slice_get, slice_get_within}
use Rattle.std.proofs.lemmas.List.Sums.{sum_by-set, get_or-le-sum_by}
use Rattle.lock_word.specs.declared.word.Word.{Word}
use Rattle.lock_word.specs.Words.{IsInRange, word_number, readers_of, is_left_over}
use Rattle.core_model.specs.declared.moves.Move.{Move}
use Rattle.core_model.specs.declared.moves.Move.TheVariants as move
use Rattle.core_model.specs.declared.view.View.{View}
use Rattle.core_model.specs.Anchors.{TabStands}
use Rattle.core_model.specs.Told.{AnchorTells, HasVersion, IsAnchorFound}
use Rattle.core_model.specs.Layout.{anchor_index}
use Rattle.core_model.specs.Tabs.{inner, tab_at, is_free, is_counted, is_reading, holds_turn, anchor_of, counts}
use Rattle.core_model.specs.declared.tab.Tab.{Tab}
use Rattle.core_model.specs.declared.tab.Tab.TheVariants.{Free, Retreating, Reading, Writing, Last, Freeing}
use Rattle.core_model.proofs.Knowing.{knows}
use Rattle.core_model.specs.Table.{Allowed}
use Rattle.core_model.specs.AnchorMoves.{left_tab}
use Rattle.core_table.specs.declared.content.Content.{Content}
use Rattle.core_table.specs.declared.opening.Opening.{Opening}
use Rattle.core_change.specs.declared.table.Table.{Table}
use Rattle.core_table.specs.Inside.{setting}
use Rattle.core_change.specs.Inside.{state}
use Rattle.core_change.specs.Planned.{IsScene, found}
use Rattle.core_table.proofs.Lists.{at_index}

pub known : (o : Opening) (t : Table) (v : View Content) (m : Move) → IsScene o t v → Allowed (setting o) (state t) v m → AnchorTells v m (found o t v m)
known o t v m scene allowed = knows (setting o) (state t) scene.number v m scene.sound scene.at record { pass = scene.pass; allowed = allowed }

-- a word with a reader
abbrev pub FindsReader : View Content → Tab Content → ℕ → Type 0
FindsReader v x n = IsAnchorFound v (anchor_of x) n × (0 < readers_of n) × HasVersion x n

module _ (o : Opening) (t : Table) (v : View Content) (scene : IsScene o t v) (at : ℕ) (x : Tab Content) (there : slice_get v.tabs at ≡ Some x) where
  pub tab_is : tab_at v at ≡ x
  tab_is = get_or_from_slice_get v.tabs at x Free there

  pub below : at ≤ inner
  below = let lt = slice_get_within v.tabs at x there in let nine = scene.pass in omega arith

  stands : TabStands (setting o) (state t) v at x
  stands = scene.sound.tabs scene.number v scene.at at x (at_index v.tabs at x x (slice_get_within v.tabs at x there) (get_or_from_slice_get v.tabs at x x there))

  -- the anchor of a tab that is not free is one of the table
  pub in_table : is_free x ≡ false → anchor_of x < o.anchors
  in_table = within at x stands
    where
      within : (at : ℕ) (x : Tab Content) → TabStands (setting o) (state t) v at x → is_free x ≡ false → anchor_of x < o.anchors
      within at Free st h = absurd (cc)
      within at (Retreating a) st h = st
      within at (Reading r) st h = st.0
      within at (Writing w) st h = st.0
      within at (Last a) st h = st
      within at (Freeing f) st h = st.0

  -- what a tab that is counted finds when it leaves or dooms
  pub leaves : is_counted x ≡ true → holds_turn x ≡ false → FindsReader v x (slice_index t.words.items (anchor_index (anchor_of x)))
  leaves counted none =
      let k = known o t v (move.Leave at) scene (below, (ap is_counted tab_is ∙ counted), (ap holds_turn tab_is ∙ none)) in
      subst (λ (y : Tab Content). FindsReader v y (slice_index t.words.items (anchor_index (anchor_of y)))) tab_is k

  pub dooms : is_reading x ≡ true → FindsReader v x (slice_index t.words.items (anchor_index (anchor_of x)))
  dooms reading =
      let k = known o t v (move.Doom at) scene (below, (ap is_reading tab_is ∙ reading)) in
      subst (λ (y : Tab Content). FindsReader v y (slice_index t.words.items (anchor_index (anchor_of y)))) tab_is k

pub is_used : (x : Tab Content) → is_counted x ≡ true → is_free x ≡ false
is_used Free h = cc
is_used (Retreating a) h = refl
is_used (Reading r) h = refl
is_used (Writing w) h = refl
is_used (Last a) h = refl
is_used (Freeing f) h = refl

pub readers_are : (w : Word) (n : ℕ) → IsInRange w → word_number w ≡ n → readers_of n ≡ w.readers
readers_are w n r e = let x = r.readers in omega arith

-- What the tabs of a view count at an anchor.

pub counts_there : (x : Tab Content) → is_counted x ≡ true → counts (anchor_of x) x ≡ 1
counts_there Free h = cc
counts_there (Retreating a) h = ap (λ b. cond b 1 0) (eq-eqb a a refl)
counts_there (Reading r) h = ap (λ b. cond b 1 0) (eq-eqb r.anchor r.anchor refl)
counts_there (Writing w) h = cc
counts_there (Last a) h = cc
counts_there (Freeing f) h = cc

module _ (a : ℕ) (tabs : List (Tab Content)) (at : ℕ) (x : Tab Content) (there : slice_get tabs at ≡ Some x) where
  pub own_some : counts a x ≡ 1 → 0 < sum_by (counts a) tabs
  own_some one =
      let le = get_or-le-sum_by (counts a) tabs at x (slice_get_within tabs at x there) in
      let is = ap (counts a) (get_or_from_slice_get tabs at x x there) in omega arith

  -- where another tab takes its place
  pub own_set : (y : Tab Content) → sum_by (counts a) (set tabs at y) + counts a x ≡ sum_by (counts a) tabs + counts a y
  own_set y =
      let sum = sum_by-set (counts a) tabs at y x (slice_get_within tabs at x there) in
      let is = ap (counts a) (get_or_from_slice_get tabs at x x there) in omega arith

abbrev last_or_free : ℕ → Bool → Tab Content
last_or_free b over = cond over (Last b) Free

pub counts_left : (a b n : ℕ) → counts a (left_tab {X = Content} b n) ≡ 0
counts_left a b n = elim (is_left_over n) as (λ over. counts a (last_or_free b over) ≡ 0) [ true ↦ refl | false ↦ refl ]
