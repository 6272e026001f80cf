-- A step on one anchor leaves the words in shape, and the readers, writers, freers and last users as they are counted.
use Rattle.std.proofs.Common.{◌≡◌, ◌≢◌, ⊎_elim, ℕ, ◌+◌, ◌<◌, ◌≤◌, List, [], length, get_or, set, sym, refl, ap, ◌∙◌, subst, arith, sum_by, true, length-set, get_or-set_other, get_or-set_same, eq-eqb, ne_eqb}
use mathlib.Core.Option.{some, some-injective}
use mathlib.Core.Logic.{dite}
use native.Mathlib.Decide.{ℕ_discrete}
use lib.ListN.{get_elem?}
use Rattle.lock_word.specs.Words.{readers_of, epoch_of, version_of, stage_of, IsWord, is_left_over}
use Rattle.core_model.specs.declared.tab.Reader.{Reader}
use Rattle.core_model.specs.declared.tab.Tab.{Tab}
use Rattle.core_model.specs.declared.tab.Tab.TheVariants.{Free, Retreating, Reading, Writing, Last, Freeing}
use Rattle.core_model.specs.declared.view.Item.{Item}
use Rattle.core_model.specs.declared.view.Deed.{Deed}
use Rattle.core_model.specs.declared.view.View.{View}
use Rattle.core_model.specs.declared.chain.Chain.{Chain}
use Rattle.core_model.specs.Layout.{Setting, anchor_index}
use Rattle.core_model.specs.State.{State, word}
use Rattle.core_model.specs.Tabs.{counts, writes, frees, count}
use Rattle.core_model.specs.Trails.{last_find, seen_at}
use Rattle.core_model.specs.Anchors.{tabs_in, Shaped, ReadersCounted, OneWriter, written_at, OneFreer, freed_at, IsReadAt, TabStands, TabsStand, IsLastAt, LastUsers}
use Rattle.core_model.specs.Sound.{AnchorsSound}
use Rattle.core_model.proofs.Lists.{at_set, at_length, sum_at, le_sum_at, set_here, set_else}
use Rattle.core_model.proofs.AnchorStep.{stepped, moved, Owes}
use Rattle.core_model.specs.CellMoves.{note_of}

pub version_up : (x y z : ℕ) → x ≤ version_of y → y ≤ z → x ≤ version_of z
version_up x y z p q = omega arith

module _ {X : Type 0} (k : Setting X) (s : State X) (i : ℕ) (v : View X) (so : AnchorsSound k s) (at : get_elem? s.views i ≡ some v)
    (a n' e : ℕ) (tabs : List (Tab X)) (held : List ℕ) (item : Item) (deeds : List Deed) (met : List ℕ) (chains : List Chain) (o : Owes k s i v a n' e tabs held item deeds met chains) where
  abbrev w : View X
  w = stepped v a n' e tabs held item deeds met

  abbrev s' : State X
  s' = moved s i w a n' chains

  pub in_row : anchor_index a < length s.words
  in_row = let e = so.shaped.words in let lt = o.inside in omega arith

  -- a fact about an anchor's word before and after
  pub by_anchor : (P : ℕ → ℕ → ℕ → Type 0) → P a (word s a) n' → ((b : ℕ) → b ≢ a → P b (word s b) (word s b)) → (b : ℕ) → P b (word s b) (word s' b)
  by_anchor P here others b = dite (ℕ_discrete b a)
      (λ e. subst (λ (c : ℕ). P c (get_or s.words (anchor_index c) 0) (get_or (set s.words (anchor_index a) n') (anchor_index c) 0)) (sym e) (subst (P a (get_or s.words (anchor_index a) 0)) (sym (get_or-set_same s.words (anchor_index a) n' 0 in_row)) here))
      (λ ne. subst (P b (get_or s.words (anchor_index b) 0)) (sym (get_or-set_other s.words (anchor_index a) (anchor_index b) n' 0 (λ q. ne (omega arith)))) (others b ne))

  pub else_same : (p : ℕ) → p ≢ anchor_index a → get_or (set s.words (anchor_index a) n') p 0 ≡ get_or s.words p 0
  else_same p ne = get_or-set_other s.words (anchor_index a) p n' 0 ne

  pub here_same : word s' a ≡ n'
  here_same = get_or-set_same s.words (anchor_index a) n' 0 in_row

  -- a fact about all views, where it holds of the new one and is kept by the others
  pub all_views : (P Q : ℕ → View X → Type 0) → ((j : ℕ) (u : View X) → get_elem? s.views j ≡ some u → P j u → Q j u) → Q i w
      → ((j : ℕ) (u : View X) → get_elem? s.views j ≡ some u → P j u) → (j : ℕ) (u : View X) → get_elem? (set s.views i w) j ≡ some u → Q j u
  all_views P Q later mine others j u e = ⊎_elim
      (λ (t : (j ≡ i) × (w ≡ u)). subst (λ (z : ℕ). Q z u) (sym t.0) (subst (Q i) t.1 mine))
      (λ (t : (j ≢ i) × (get_elem? s.views j ≡ some u)). later j u t.1 (others j u t.1))
      (at_set s.views i j w u e)

  pub at_w : get_elem? (set s.views i w) i ≡ some w
  at_w = set_here s.views i w (at_length s.views i v at)

  pub shaped : Shaped k s'
  shaped = record {
    words = length-set s.words (anchor_index a) n' ∙ so.shaped.words;
    places = so.shaped.places;
    chains = o.chain_count ∙ so.shaped.chains;
    tabs = let q = sum_at tabs_in s.views i v w at in let t = so.shaped.tabs in let l = o.length_same in omega arith;
    notes = all_views (λ j u. u.tabs ≡ [] → u ≡ note_of u) (λ j u. u.tabs ≡ [] → u ≡ note_of u) (λ j u _ h. h)
        (λ h. absurd (let p = o.is_pass in let l = o.length_same in let z : length tabs ≡ 0 = ap length h in omega arith)) so.shaped.notes;
    anchors = λ b lt. by_anchor (λ b x y. IsWord x → IsWord y) (λ _. o.good) (λ b ne h. h) b (so.shaped.anchors b lt);
  }

  pub readers : ReadersCounted k s'
  readers b lt = let q = sum_at (count (counts b)) s.views i v w at in let r = so.readers b lt in
      let h = by_anchor (λ b x y. readers_of y + count (counts b) v ≡ readers_of x + sum_by (counts b) tabs) o.readers (λ b ne. let z = o.readers_else b ne in omega arith) b in omega arith

  pub writers : OneWriter k s'
  writers b u g lt = let q = sum_at (count (writes b u g)) s.views i v w at in let r = so.writers b u g lt in
      let h = by_anchor (λ b x y. written_at (epoch_of y) u g + count (writes b u g) v ≡ written_at (epoch_of x) u g + sum_by (writes b u g) tabs) (o.writers u g) (λ b ne. let z = o.writers_else b u g ne in omega arith) b in omega arith

  pub freers : OneFreer k s'
  freers b u d lt = let q = sum_at (count (frees b u d)) s.views i v w at in let r = so.freers b u d lt in
      let h = by_anchor (λ b x y. freed_at (epoch_of y) u d + count (frees b u d) v ≡ freed_at (epoch_of x) u d + sum_by (frees b u d) tabs) (o.freers u d) (λ b ne. let z = o.freers_else b u d ne in omega arith) b in omega arith

  -- a tab that reads at the anchor is one of its readers
  is_reader : (j : ℕ) (u : View X) → get_elem? s.views j ≡ some u → (t : ℕ) (tab : Tab X) → get_elem? u.tabs t ≡ some tab → counts a tab ≡ 1 → 0 < readers_of (word s a)
  is_reader j u uat t tab tat one = let r = so.readers a o.inside in let x = le_sum_at (count (counts a)) s.views j u uat in let y = le_sum_at (counts a) u.tabs t tab tat in omega arith

  pub seen_later : (b : ℕ) → seen_at b v.seen ≤ seen_at b w.seen
  seen_later b = omega arith

  read_later : (b version : ℕ) → (b ≡ a → 0 < readers_of (word s a)) → IsReadAt s b version → IsReadAt s' b version
  read_later b version used r = as_read (by_anchor
      (λ b x y. (b ≡ a → 0 < readers_of (word s a)) → version_of (epoch_of x) ≡ version → 2 ≤ stage_of (epoch_of x) → stage_of (epoch_of x) ≤ 4
      → (version_of (epoch_of y) ≡ version) × (2 ≤ stage_of (epoch_of y)) × (stage_of (epoch_of y) ≤ 4))
      (λ some_reader ver from to. ⊎_elim
      (λ (none_there : readers_of (word s a) ≡ 0). absurd (let z = some_reader refl in omega arith))
      (λ (st : (version_of (epoch_of n') ≡ version_of (epoch_of (word s a))) × (2 ≤ stage_of (epoch_of (word s a)) → stage_of (epoch_of (word s a)) ≤ 4 → (2 ≤ stage_of (epoch_of n')) × (stage_of (epoch_of n') ≤ 4))).
      let z = st.1 from to in (st.0 ∙ ver, z.0, z.1))
      o.steady)
      (λ b ne _ ver from to. (ver, from, to)) b used r.version_is r.from r.to)
    where
      as_read : (version_of (epoch_of (word s' b)) ≡ version) × (2 ≤ stage_of (epoch_of (word s' b))) × (stage_of (epoch_of (word s' b)) ≤ 4) → IsReadAt s' b version
      as_read q = record { version_is = q.0; from = q.1; to = q.2 }

  reading_counts : (r : Reader X) → r.anchor ≡ a → counts a (Reading r) ≡ 1
  reading_counts r h = rw (eq-eqb r.anchor a h) refl

  stands_later : (j : ℕ) (u u' : View X) → get_elem? s.views j ≡ some u → ((b : ℕ) → seen_at b u.seen ≤ seen_at b u'.seen)
      → (t : ℕ) (tab : Tab X) → get_elem? u.tabs t ≡ some tab → TabStands k s u t tab → TabStands k s' u' t tab
  stands_later j u u' uat up t Free tat h = tt
  stands_later j u u' uat up t (Retreating b) tat h = h
  stands_later j u u' uat up t (Reading r) tat h = (h.0, read_later r.anchor r.version (λ e. is_reader j u uat t (Reading r) tat (reading_counts r e)) h.1, version_up _ _ _ h.2 (up r.anchor))
  stands_later j u u' uat up t (Writing r) tat h = (h.0, h.1, version_up _ _ _ h.2 (up r.anchor))
  stands_later j u u' uat up t (Last b) tat h = h
  stands_later j u u' uat up t (Freeing f) tat h = h

  pub tabs_stand : TabsStand k s'
  tabs_stand = all_views (λ j u. (t : ℕ) (tab : Tab X) → get_elem? u.tabs t ≡ some tab → TabStands k s u t tab) (λ j u. (t : ℕ) (tab : Tab X) → get_elem? u.tabs t ≡ some tab → TabStands k s' u t tab)
      (λ j u uat h t tab tat. stands_later j u u uat (λ b. omega arith) t tab tat (h t tab tat))
      (λ t tab tat. ⊎_elim
      (λ (was : get_elem? v.tabs t ≡ some tab). stands_later i v w at seen_later t tab was (so.tabs i v at t tab was))
      (λ (st : TabStands k s' w t tab). st)
      (o.stand t tab tat))
      so.tabs

  -- what the pass has found last at an anchor
  pub find_here : last_find a w.trail ≡ item.found
  find_here = rw (o.tells, eq-eqb item.at a o.item_at) refl

  pub find_else : (b : ℕ) → b ≢ a → last_find b w.trail ≡ last_find b v.trail
  find_else b ne = rw (o.tells, ne_eqb item.at b (λ q. ne (sym q ∙ o.item_at))) refl

  last_by : (b n t : ℕ) → get_elem? tabs t ≡ some (Last b) → last_find b w.trail ≡ n → IsLastAt s' b n
  last_by b n t tat f = record { i = i; view = w; at = at_w; t = t; last = tat; find = f }

  -- where another pass is last
  last_stays : (b n : ℕ) → IsLastAt s b n → ((t : ℕ) → get_elem? v.tabs t ≡ some (Last b) → last_find b v.trail ≡ n → IsLastAt s' b n) → IsLastAt s' b n
  last_stays b n l mine = dite (ℕ_discrete l.i i)
      (λ e. let same : v ≡ l.view = some-injective v l.view (sym at ∙ subst (λ (z : ℕ). get_elem? s.views z ≡ some l.view) e l.at) in
      mine l.t (subst (λ (u : View X). get_elem? u.tabs l.t ≡ some (Last b)) (sym same) l.last) (subst (λ (u : View X). last_find b u.trail ≡ n) (sym same) l.find))
      (λ ne. record { i = l.i; view = l.view; at = set_else s.views i l.i w ne ∙ l.at; t = l.t; last = l.last; find = l.find })

  pub lasts : LastUsers k s'
  lasts b lt = by_anchor (λ b x y. (is_left_over x ≡ true → IsLastAt s b x) → is_left_over y ≡ true → IsLastAt s' b y)
      (λ before over. ⊎_elim
      (λ (q : (t : ℕ) × (get_elem? tabs t ≡ some (Last a)) × (item.found ≡ n')). last_by a n' q.0 q.1 (find_here ∙ q.2))
      (λ (q : (n' ≡ word s a) × ((t : ℕ) → get_elem? v.tabs t ≡ some (Last a) → last_find a v.trail ≡ n' → (get_elem? tabs t ≡ some (Last a)) × (item.found ≡ n'))).
      last_stays a n' (subst (λ (z : ℕ). IsLastAt s a z) (sym q.0) (before (subst (λ (z : ℕ). is_left_over z ≡ true) q.0 over)))
      (λ t tat f. let z = q.1 t tat f in last_by a n' t z.0 (find_here ∙ z.1)))
      (o.lasts over))
      (λ b ne before over. last_stays b (word s b) (before over) (λ t tat f. last_by b (word s b) t (o.lasts_else b t ne tat) (find_else b ne ∙ f)))
      b (so.lasts b lt)
