-- A step on a word of a slot, or on one beside an anchor, leaves what is sound of the anchors.
use Rattle.std.proofs.Common.{◌≡◌, ◌≢◌, ◌⊎◌, inl, inr, ⊎_elim, ℕ, suc, ◌*◌, ◌<◌, ◌≤◌, List, [], ◌∷◌, ◌++◌, length, get_or, set, sym, refl, ap, ◌∙◌, subst, arith, sum_by, true, false, cond, length-set, get_or-set_same, get_or-set_other, Contains}
use mathlib.Core.Option.{some, some-injective}
use mathlib.Core.Logic.{dite}
use native.Mathlib.Decide.{ℕ_discrete}
use lib.ListN.{get_elem?}
use Rattle.lock_word.specs.Words.{readers_of, epoch_of, version_of, stage_of, is_left_over, IsWord, version_limit}
use Rattle.core_model.specs.declared.moves.Side.{Side}
use Rattle.core_model.specs.declared.moves.Side.TheVariants.{Start}
use Rattle.core_model.specs.declared.tab.Tab.{Tab}
use Rattle.core_model.specs.declared.tab.Tab.TheVariants.{Free, Retreating, Reading, Writing, Last, Freeing}
use Rattle.core_model.specs.declared.view.Kind.TheVariants.{Counted as Looks, Drew}
use Rattle.core_model.specs.declared.view.Item.{Item}
use Rattle.core_model.specs.declared.view.Sight.{Sight}
use Rattle.core_model.specs.declared.view.Sight.TheVariants.{Stood, Named, Published, Logged, Wiped}
use Rattle.core_model.specs.declared.view.Place.{Place}
use Rattle.core_model.specs.declared.view.Place.TheVariants.{Beside}
use Rattle.core_model.specs.declared.view.Deed.{Deed}
use Rattle.core_model.specs.declared.view.View.{View}
use Rattle.core_model.specs.declared.chain.Chain.{Chain}
use Rattle.core_model.specs.Layout.{Setting, index, anchor_index, counter_index, word_count}
use Rattle.core_model.specs.Chains.{no_chain}
use Rattle.core_model.specs.State.{State, word, chain_of, counter}
use Rattle.core_model.specs.Tabs.{counts, writes, frees, count}
use Rattle.core_model.specs.Trails.{tells_word, is_draw, counted_in, last_find, last_count, drew_since, drawn, draws, draws_in_vain, seen_at, sight_anchor, sight_version}
use Rattle.core_model.specs.Anchors.{written_at, freed_at, tabs_in, Shaped, TabStands, IsLastAt, opening_epoch}
use Rattle.core_model.specs.Versions.{HasSlot, SeenStands, draws_by, vain_by, drawn_by, VersionsDrawn, IsKnownAt, IsFresh, VersionsHeld}
use Rattle.core_model.specs.Deeds.{mirrored, OneMirror, IsEpochAt, IsDone, EnteredBy, EnteredByAnother, LeftEpoch, DoomedVersion, HaltedVersion, EvictedVersion, DeedsExplain}
use Rattle.core_model.specs.Sound.{AnchorsSound}
use Rattle.core_model.proofs.Lists.{by_eq, le_sum_at, at_set, at_length, sum_at, two_le_sum, set_here, set_else, cons_contains, contains_none}
use Rattle.core_model.specs.CellMoves.{note_of}

pub either_contains : {X : Type 0} → (x : X) (xs ys : List X) → Contains (xs ++ ys) x → Contains xs x ⊎ Contains ys x
either_contains x [] ys h = inr h
either_contains x (y ∷ xs) ys h = ⊎_elim (λ (e : y ≡ x). inl (0, omega arith, e))
    (λ (r : Contains (xs ++ ys) x). ⊎_elim (λ (q : Contains xs x). inl (suc q.0, (let z = q.1 in omega arith), q.2)) (λ (q : Contains ys x). inr q) (either_contains x xs ys r))
    (cons_contains y x (xs ++ ys) h)

-- what is seen is one
pub one_of : (x y : Sight) → Contains (x ∷ []) y → x ≡ y
one_of x y h = ⊎_elim (λ (q : x ≡ y). q) (λ (q : Contains [] y). absurd (contains_none y q)) (cons_contains x y [] h)

-- none of these tells an epoch
abbrev pub NoEpoch : List Sight → Type 0
NoEpoch [] = Unit {0}
NoEpoch (Stood a e ∷ xs) = ⊥
NoEpoch (Named a version side value ∷ xs) = NoEpoch xs
NoEpoch (Published a version many ∷ xs) = NoEpoch xs
NoEpoch (Logged l ∷ xs) = NoEpoch xs
NoEpoch (Wiped a version slot ∷ xs) = NoEpoch xs

pub seen_same : (b : ℕ) (xs ys : List Sight) → NoEpoch xs → seen_at b (xs ++ ys) ≡ seen_at b ys
seen_same b [] ys h = refl
seen_same b (Stood a e ∷ xs) ys h = absurd h
seen_same b (Named a version side value ∷ xs) ys h = let r = seen_same b xs ys h in omega arith
seen_same b (Published a version many ∷ xs) ys h = let r = seen_same b xs ys h in omega arith
seen_same b (Logged l ∷ xs) ys h = let r = seen_same b xs ys h in omega arith
seen_same b (Wiped a version slot ∷ xs) ys h = let r = seen_same b xs ys h in omega arith

no_stood : (xs : List Sight) → NoEpoch xs → (b e : ℕ) → Contains xs (Stood b e) → ⊥
no_stood [] h b e c = contains_none (Stood b e) c
no_stood (Stood a e' ∷ xs) h b e c = h
no_stood (Named a version side value ∷ xs) h b e c = ⊎_elim (λ (q : Named a version side value ≡ Stood b e). cc) (λ (q : Contains xs (Stood b e)). no_stood xs h b e q) (cons_contains _ _ xs c)
no_stood (Logged l ∷ xs) h b e c = ⊎_elim (λ (q : Logged l ≡ Stood b e). cc) (λ (q : Contains xs (Stood b e)). no_stood xs h b e q) (cons_contains _ _ xs c)
no_stood (Wiped a version slot ∷ xs) h b e c = ⊎_elim (λ (q : Wiped a version slot ≡ Stood b e). cc) (λ (q : Contains xs (Stood b e)). no_stood xs h b e q) (cons_contains _ _ xs c)
no_stood (Published a version many ∷ xs) h b e c = ⊎_elim (λ (q : Published a version many ≡ Stood b e). cc) (λ (q : Contains xs (Stood b e)). no_stood xs h b e q) (cons_contains _ _ xs c)

-- the view after a step that left x in the word of a place, and saw this
abbrev pub beside : {X : Type 0} → View X → List (Tab X) → List Sight → Item → Place → ℕ → View X
beside v tabs sights item place x = record v {
  tabs = tabs;
  seen = sights ++ v.seen;
  trail = item ∷ v.trail;
  mirror = record { place = place; word = x } ∷ v.mirror;
}

abbrev pub besides : {X : Type 0} → Setting X → State X → ℕ → View X → Place → ℕ → List Chain → State X
besides k s i w place x chains = record { words = set s.words (index k place) x; places = s.places; views = set s.views i w; chains = chains }

-- what is seen anew is of the version that stands, and so; a logged piece and a wiped slot tell of no version
pub record SightsOwe {X : Type 0} (k : Setting X) (s s' : State X) (v : View X) (sights : List Sight) : Type 0 where
  pub no_epoch : NoEpoch sights
  pub no_start : (b version value : ℕ) → Contains sights (Named b version Start value) → ⊥
  pub inside : (y : Sight) → Contains sights y → sight_anchor y < k.anchors
  pub stands : (y : Sight) → Contains sights y → 0 < sight_version y → version_of (epoch_of (word s (sight_anchor y))) ≡ sight_version y
  pub known : (y : Sight) → Contains sights y → sight_version y ≤ version_of (seen_at (sight_anchor y) v.seen)
  pub named : (b version : ℕ) (side : Side) (value : ℕ) → Contains sights (Named b version side value) → (get_or s'.words (index k (Beside side b)) 0 ≡ value) × HasSlot s' b
  pub published : (b version many : ℕ) → Contains sights (Published b version many) → many ≤ length (chain_of s' b).slots
  pub agree : (j : ℕ) (u : View X) → get_elem? s.views j ≡ some u → (b version : ℕ) (side : Side) (y z : ℕ) → Contains sights (Named b version side y) → Contains u.seen (Named b version side z) → y ≡ z
  pub agree_new : (b version : ℕ) (side : Side) (y z : ℕ) → Contains sights (Named b version side y) → Contains sights (Named b version side z) → y ≡ z

pub record OwesBeside {X : Type 0} (k : Setting X) (s : State X) (i : ℕ) (v : View X) (tabs : List (Tab X)) (sights : List Sight) (item : Item) (place : Place) (x : ℕ) (chains : List Chain) : Type 0 where
  pub is_pass : length v.tabs ≡ 9
  pub length_same : length tabs ≡ length v.tabs
  pub low : (b : ℕ) → b < k.anchors → index k place ≢ anchor_index b
  pub inside : index k place < word_count k
  pub off : index k place ≢ counter_index k
  pub quiet : tells_word item.kind ≡ false
  pub no_draw : is_draw item.kind ≡ false
  pub no_count : (found before : ℕ) → counted_in item.kind found before ≡ before
  pub no_look : item.kind ≢ Looks
  pub not_drew : item.kind ≢ Drew
  pub readers : (b : ℕ) → sum_by (counts b) tabs ≡ count (counts b) v
  pub writers : (b u g : ℕ) → sum_by (writes b u g) tabs ≡ count (writes b u g) v
  pub freers : (b u d : ℕ) → sum_by (frees b u d) tabs ≡ count (frees b u d) v
  pub stand : (t : ℕ) (tab : Tab X) → get_elem? tabs t ≡ some tab → TabStands k s v t tab
  pub lasts : (b t : ℕ) → get_elem? v.tabs t ≡ some (Last b) → get_elem? tabs t ≡ some (Last b)
  pub chain_count : length chains ≡ length s.chains
  pub longer : (b : ℕ) → length (chain_of s b).slots ≤ length (get_or chains b no_chain).slots
  -- what was seen of the version that stands is not overwritten
  pub sides : (j : ℕ) (u : View X) → get_elem? s.views j ≡ some u → (b version : ℕ) (side : Side) (value : ℕ) → Contains u.seen (Named b version side value) → version_of (epoch_of (word s b)) ≡ version
      → get_or (set s.words (index k place) x) (index k (Beside side b)) 0 ≡ get_or s.words (index k (Beside side b)) 0
  pub sees : SightsOwe k s (besides k s i (beside v tabs sights item place x) place x chains) v sights

module _ {X : Type 0} (k : Setting X) (s : State X) (i : ℕ) (v : View X) (so : AnchorsSound k s) (at : get_elem? s.views i ≡ some v)
    (tabs : List (Tab X)) (sights : List Sight) (item : Item) (place : Place) (x : ℕ) (chains : List Chain) (o : OwesBeside k s i v tabs sights item place x chains) where
  abbrev w : View X
  w = beside v tabs sights item place x

  abbrev s' : State X
  s' = besides k s i w place x chains

  abbrev p₀ : ℕ
  p₀ = index k place

  same_word : (b : ℕ) → b < k.anchors → word s b ≡ word s' b
  same_word b lt = sym (get_or-set_other s.words p₀ (anchor_index b) x 0 (λ q. o.low b lt (sym q)))

  counter_same : counter k s' ≡ counter k s
  counter_same = get_or-set_other s.words p₀ (counter_index k) x 0 (λ q. o.off (sym q))

  all_views : (P Q : ℕ → View X → Type 0) → ((j : ℕ) (u : View X) → get_elem? s.views j ≡ some u → P j u → Q j u) → Q i w
      → ((j : ℕ) (u : View X) → get_elem? s.views j ≡ some u → P j u) → (j : ℕ) (u : View X) → get_elem? (set s.views i w) j ≡ some u → Q j u
  all_views P Q later mine others j u e = ⊎_elim
      (λ (t : (j ≡ i) × (w ≡ u)). subst (λ (z : ℕ). Q z u) (sym t.0) (subst (Q i) t.1 mine))
      (λ (t : (j ≢ i) × (get_elem? s.views j ≡ some u)). later j u t.1 (others j u t.1))
      (at_set s.views i j w u e)

  at_w : get_elem? (set s.views i w) i ≡ some w
  at_w = set_here s.views i w (at_length s.views i v at)

  tabs_w : w.tabs ≢ []
  tabs_w z = absurd (let l = o.is_pass in let m = o.length_same in let y : length tabs ≡ 0 = ap length z in omega arith)

  tabs_v : v.tabs ≢ []
  tabs_v z = absurd (let l = o.is_pass in let y : length v.tabs ≡ 0 = ap length z in omega arith)

  count_same : (f : View X → ℕ) → f w ≡ f v → sum_by f (set s.views i w) ≡ sum_by f s.views
  count_same f h = let q = sum_at f s.views i v w at in omega arith

  shaped : Shaped k s'
  shaped = record {
    words = length-set s.words p₀ x ∙ so.shaped.words;
    places = so.shaped.places;
    chains = o.chain_count ∙ so.shaped.chains;
    tabs = count_same tabs_in o.length_same ∙ so.shaped.tabs;
    notes = all_views (λ j u. u.tabs ≡ [] → u ≡ note_of u) (λ j u. u.tabs ≡ [] → u ≡ note_of u) (λ j u _ h. h) (λ h. absurd (tabs_w h)) so.shaped.notes;
    anchors = λ b lt. subst IsWord (same_word b lt) (so.shaped.anchors b lt);
  }

  seen_w : (b : ℕ) → seen_at b w.seen ≡ seen_at b v.seen
  seen_w b = seen_same b sights v.seen o.sees.no_epoch

  stands : (u u' : View X) → ((b : ℕ) → seen_at b u'.seen ≡ seen_at b u.seen) → (t : ℕ) (tab : Tab X) → TabStands k s u t tab → TabStands k s' u' t tab
  stands u u' e t Free h = tt
  stands u u' e t (Retreating b) h = h
  stands u u' e t (Reading r) h = (
    h.0,
    record { version_is = subst (λ (z : ℕ). version_of (epoch_of z) ≡ r.version) (same_word r.anchor h.0) h.1.version_is; from = subst (λ (z : ℕ). 2 ≤ stage_of (epoch_of z)) (same_word r.anchor h.0) h.1.from; to = subst (λ (z : ℕ). stage_of (epoch_of z) ≤ 4) (same_word r.anchor h.0) h.1.to },
    subst (λ (z : ℕ). r.version ≤ version_of z) (sym (e r.anchor)) h.2,
  )
  stands u u' e t (Writing r) h = (h.0, h.1, subst (λ (z : ℕ). r.version ≤ version_of z) (sym (e r.anchor)) h.2)
  stands u u' e t (Last b) h = h
  stands u u' e t (Freeing f) h = h

  find_same : (b : ℕ) → last_find b w.trail ≡ last_find b v.trail
  find_same b = rw o.quiet refl

  last_later : (b n : ℕ) → IsLastAt s b n → IsLastAt s' b n
  last_later b n l = dite (ℕ_discrete l.i i)
      (λ e. let eq : v ≡ l.view = some-injective v l.view (sym at ∙ subst (λ (z : ℕ). get_elem? s.views z ≡ some l.view) e l.at) in
      record { i = i; view = w; at = at_w; t = l.t; last = o.lasts b l.t (subst (λ (u : View X). get_elem? u.tabs l.t ≡ some (Last b)) (sym eq) l.last); find = find_same b ∙ subst (λ (u : View X). last_find b u.trail ≡ n) (sym eq) l.find })
      (λ ne. record { i = l.i; view = l.view; at = set_else s.views i l.i w ne ∙ l.at; t = l.t; last = l.last; find = l.find })

  -- each sight was there or is new
  had : (j : ℕ) (u : View X) → get_elem? (set s.views i w) j ≡ some u → (y : Sight) → Contains u.seen y → Contains sights y ⊎ ((u' : View X) × (get_elem? s.views j ≡ some u') × Contains u'.seen y)
  had j u uat y h = ⊎_elim
      (λ (t : (j ≡ i) × (w ≡ u)). ⊎_elim (λ (q : Contains sights y). inl q) (λ (q : Contains v.seen y). inr (v, subst (λ (z : ℕ). get_elem? s.views z ≡ some v) (sym t.0) at, q))
      (either_contains y sights v.seen (subst (λ (z : View X). Contains z.seen y) (sym t.1) h)))
      (λ (t : (j ≢ i) × (get_elem? s.views j ≡ some u)). inr (u, t.1, h))
      (at_set s.views i j w u uat)

  known_before : (b version : ℕ) → 0 < version → IsKnownAt k s' b version → IsKnownAt k s b version
  known_before b version new (inl h) = inl (h.0, subst (λ (z : ℕ). version_of (epoch_of z) ≡ version) (sym (same_word b h.0)) h.1)
  known_before b version new (inr h) = ⊎_elim
      (λ (q : Contains sights h.sight). inl (subst (λ (z : ℕ). z < k.anchors) h.anchor (o.sees.inside h.sight q), subst (λ (z : ℕ). version_of (epoch_of (word s z)) ≡ version) h.anchor (o.sees.stands h.sight q (subst (λ (z : ℕ). 0 < z) (sym h.version_is) new) ∙ h.version_is)))
      (λ (q : (u' : View X) × (get_elem? s.views h.i ≡ some u') × Contains u'.seen h.sight). inr record { i = h.i; view = q.0; at = q.1; sight = h.sight; seen = q.2; anchor = h.anchor; version_is = h.version_is })
      (had h.i h.view h.at h.sight h.seen)

  epoch_before : (b e : ℕ) → IsEpochAt k s' b e → IsEpochAt k s b e
  epoch_before b e (inl h) = inl (h.0, subst (λ (z : ℕ). epoch_of z ≡ e) (sym (same_word b h.0)) h.1)
  epoch_before b e (inr h) = ⊎_elim (λ (q : Contains sights (Stood b e)). absurd (no_stood sights o.sees.no_epoch b e q))
      (λ (q : (u' : View X) × (get_elem? s.views h.0 ≡ some u') × Contains u'.seen (Stood b e)). inr (h.0, q.0, q.1, q.2))
      (had h.0 h.1 h.2 (Stood b e) h.3)

  done_later : (P : Deed → Type 0) → IsDone s P → IsDone s' P
  done_later P d = dite (ℕ_discrete d.i i)
      (λ q. let eq : v ≡ d.view = some-injective v d.view (sym at ∙ subst (λ (z : ℕ). get_elem? s.views z ≡ some d.view) q d.at) in
      record { i = i; view = w; at = at_w; deed = d.deed; done = subst (λ (z : View X). Contains z.deeds d.deed) (sym eq) d.done; so = d.so })
      (λ ne. record { i = d.i; view = d.view; at = set_else s.views i d.i w ne ∙ d.at; deed = d.deed; done = d.done; so = d.so })

  has_slot_later : (b : ℕ) → b < k.anchors → HasSlot s b → HasSlot s' b
  has_slot_later b lt h low = let q = h (subst (λ (y : ℕ). stage_of (epoch_of y) ≤ 4) (sym (same_word b lt)) low) in let l = o.longer b in omega arith

  abbrev seen' : SeenStands k s'
  seen' = record {
    epochs = all_views (λ j u. (b : ℕ) → b < k.anchors → seen_at b u.seen ≤ epoch_of (word s b)) (λ j u. (b : ℕ) → b < k.anchors → seen_at b u.seen ≤ epoch_of (word s' b))
        (λ j u _ h b lt. subst (λ (z : ℕ). seen_at b u.seen ≤ epoch_of z) (same_word b lt) (h b lt))
        (λ b lt. let e = seen_w b in let z = so.seen.epochs i v at b lt in subst (λ (z : ℕ). seen_at b w.seen ≤ epoch_of z) (same_word b lt) (omega arith)) so.seen.epochs;
    no_start = λ j u uat b version value h. ⊎_elim (λ (q : Contains sights (Named b version Start value)). o.sees.no_start b version value q)
        (λ (q : (u' : View X) × (get_elem? s.views j ≡ some u') × Contains u'.seen (Named b version Start value)). so.seen.no_start j q.0 q.1 b version value q.2) (had j u uat (Named b version Start value) h);
    inside = λ j u uat y h. ⊎_elim (λ (q : Contains sights y). o.sees.inside y q) (λ (q : (u' : View X) × (get_elem? s.views j ≡ some u') × Contains u'.seen y). so.seen.inside j q.0 q.1 y q.2) (had j u uat y h);
    known = all_views (λ j u. (y : Sight) → Contains u.seen y → sight_version y ≤ version_of (seen_at (sight_anchor y) u.seen)) (λ j u. (y : Sight) → Contains u.seen y → sight_version y ≤ version_of (seen_at (sight_anchor y) u.seen))
        (λ j u _ h. h)
        (λ y h. subst (λ (z : ℕ). sight_version y ≤ version_of z) (sym (seen_w (sight_anchor y))) (⊎_elim (λ (q : Contains sights y). o.sees.known y q) (λ (q : Contains v.seen y). so.seen.known i v at y q) (either_contains y sights v.seen h)))
        so.seen.known;
    named = λ j u uat b version side value h is. ⊎_elim
        (λ (q : Contains sights (Named b version side value)). o.sees.named b version side value q)
        (λ (q : (u' : View X) × (get_elem? s.views j ≡ some u') × Contains u'.seen (Named b version side value)). named_later j q.0 q.1 b version side value q.2 is)
        (had j u uat (Named b version side value) h);
    published = λ j u uat b version many h is low. ⊎_elim
        (λ (q : Contains sights (Published b version many)). o.sees.published b version many q)
        (λ (q : (u' : View X) × (get_elem? s.views j ≡ some u') × Contains u'.seen (Published b version many)). published_later j q.0 q.1 b version many q.2 is low)
        (had j u uat (Published b version many) h);
    agree = λ j l u t uat tat b version side y z hy hz. ⊎_elim
        (λ (q : Contains sights (Named b version side y)). ⊎_elim
        (λ (r : Contains sights (Named b version side z)). o.sees.agree_new b version side y z q r)
        (λ (r : (t' : View X) × (get_elem? s.views l ≡ some t') × Contains t'.seen (Named b version side z)). o.sees.agree l r.0 r.1 b version side y z q r.2)
        (had l t tat (Named b version side z) hz))
        (λ (q : (u' : View X) × (get_elem? s.views j ≡ some u') × Contains u'.seen (Named b version side y)). ⊎_elim
        (λ (r : Contains sights (Named b version side z)). sym (o.sees.agree j q.0 q.1 b version side z y r q.2))
        (λ (r : (t' : View X) × (get_elem? s.views l ≡ some t') × Contains t'.seen (Named b version side z)). so.seen.agree j l q.0 r.0 q.1 r.1 b version side y z q.2 r.2)
        (had l t tat (Named b version side z) hz))
        (had j u uat (Named b version side y) hy);
  }
    where
      named_later : (j : ℕ) (u : View X) → get_elem? s.views j ≡ some u → (b version : ℕ) (side : Side) (value : ℕ) → Contains u.seen (Named b version side value) → version_of (epoch_of (word s' b)) ≡ version
          → (get_or s'.words (index k (Beside side b)) 0 ≡ value) × HasSlot s' b
      named_later j u uat b version side value h is = let lt = so.seen.inside j u uat (Named b version side value) h in let was = ap (λ (y : ℕ). version_of (epoch_of y)) (same_word b lt) ∙ is in
          let r = so.seen.named j u uat b version side value h was in (o.sides j u uat b version side value h was ∙ r.0, has_slot_later b lt r.1)

      published_later : (j : ℕ) (u : View X) → get_elem? s.views j ≡ some u → (b version many : ℕ) → Contains u.seen (Published b version many) → version_of (epoch_of (word s' b)) ≡ version → stage_of (epoch_of (word s' b)) ≤ 4 → many ≤ length (get_or chains b no_chain).slots
      published_later j u uat b version many h is low = let lt = so.seen.inside j u uat (Published b version many) h in let z = same_word b lt in
          let r = so.seen.published j u uat b version many h (ap (λ (y : ℕ). version_of (epoch_of y)) z ∙ is) (subst (λ (y : ℕ). stage_of (epoch_of y) ≤ 4) (sym z) low) in let l = o.longer b in omega arith

  draws_same : draws w.trail ≡ draws v.trail
  draws_same = rw o.no_draw (omega arith)

  vain_same : draws_in_vain w.trail ≡ draws_in_vain v.trail
  vain_same = rw o.no_draw (omega arith)

  drawn_same : (u : ℕ) → drawn u w.trail ≡ drawn u v.trail
  drawn_same u = rw o.no_draw (omega arith)

  count_last : last_count w.trail ≡ last_count v.trail
  count_last = o.no_count item.found (last_count v.trail)

  abbrev drawn' : VersionsDrawn k s'
  drawn' = let now = counter_same in record {
    counted = let q = count_same draws_by draws_same in let d = so.drawn.counted in omega arith;
    looked = all_views (λ j u. (y : Item) → Contains u.trail y → y.kind ≡ Looks → y.found ≤ counter k s) (λ j u. (y : Item) → Contains u.trail y → y.kind ≡ Looks → y.found ≤ counter k s')
        (λ j u _ h y g q. let z = h y g q in omega arith)
        (λ y g q. ⊎_elim (λ (r : item ≡ y). absurd (o.no_look (ap Item.kind r ∙ q))) (λ (r : Contains v.trail y). let z = so.drawn.looked i v at y r q in omega arith) (cons_contains item y v.trail g))
        so.drawn.looked;
    drew = all_views (λ j u. (y : Item) → Contains u.trail y → y.kind ≡ Drew → y.found < counter k s) (λ j u. (y : Item) → Contains u.trail y → y.kind ≡ Drew → y.found < counter k s')
        (λ j u _ h y g q. let z = h y g q in omega arith)
        (λ y g q. ⊎_elim (λ (r : item ≡ y). absurd (o.not_drew (ap Item.kind r ∙ q))) (λ (r : Contains v.trail y). let z = so.drawn.drew i v at y r q in omega arith) (cons_contains item y v.trail g))
        so.drawn.drew;
    once = λ version. let q = count_same (drawn_by version) (drawn_same version) in let d = so.drawn.once version in omega arith;
    above = λ version g. let q = count_same (drawn_by version) (drawn_same version) in let d = so.drawn.above version (omega arith) in (d.0, let y = d.1 in omega arith);
    stand = λ b lt. let z = so.drawn.stand b lt in subst (λ (y : ℕ). version_of (epoch_of y) ≤ counter k s') (same_word b lt) (omega arith);
    limited = let q = count_same vain_by vain_same in let d = so.drawn.limited in omega arith;
    vain = all_views (λ j u. 9 * draws_in_vain u.trail ≤ length u.tabs) (λ j u. 9 * draws_in_vain u.trail ≤ length u.tabs) (λ j u _ h. h) (let e = vain_same in let l = o.length_same in let z = so.drawn.vain i v at in omega arith) so.drawn.vain;
    stops = all_views (λ j u. 0 < draws_in_vain u.trail → (version_limit ≤ last_count u.trail) × (version_limit ≤ counter k s)) (λ j u. 0 < draws_in_vain u.trail → (version_limit ≤ last_count u.trail) × (version_limit ≤ counter k s'))
        (λ j u _ h g. let z = h g in (z.0, let y = z.1 in omega arith))
        (λ g. let e = vain_same in let l = count_last in let z = so.drawn.stops i v at (omega arith) in (let y = z.0 in omega arith, let y = z.1 in omega arith)) so.drawn.stops;
  }

  since_same : (version b : ℕ) → drew_since version b w.trail ≡ drew_since version b v.trail
  since_same version b = rw (o.quiet, o.no_draw) refl

  -- a version that was drawn is above the opening's counter
  is_some : (j : ℕ) (u : View X) → get_elem? s.views j ≡ some u → (version : ℕ) → 0 < drawn version u.trail → 0 < version
  is_some j u ut version d = let l = le_sum_at (drawn_by version) s.views j u ut in let a = so.drawn.above version (omega arith) in let z = a.0 in omega arith

  abbrev held' : VersionsHeld k s'
  held' = record {
    fresh = all_views (λ j u. (version : ℕ) → Contains u.held version → IsFresh k s u version) (λ j u. (version : ℕ) → Contains u.held version → IsFresh k s' u version)
        (λ j u ut h version c. let f = h version c in record { drawn = f.drawn; once = f.once; fits = f.fits; unknown = λ b q. f.unknown b (known_before b version (is_some j u ut version f.drawn) q) })
        (λ version c. let f = so.held.fresh i v at version c in record { drawn = (let e = drawn_same version in let d = f.drawn in omega arith); once = f.once; fits = f.fits; unknown = λ b q. f.unknown b (known_before b version (is_some i v at version f.drawn) q) })
        so.held.fresh;
    since = all_views (λ j u. (b version : ℕ) → b < k.anchors → Contains u.held version → drew_since version b u.trail ≡ true → version_of (epoch_of (last_find b u.trail)) < version)
        (λ j u. (b version : ℕ) → b < k.anchors → Contains u.held version → drew_since version b u.trail ≡ true → version_of (epoch_of (last_find b u.trail)) < version)
        (λ j u _ h. h)
        (λ b version lt c h. subst (λ (z : ℕ). version_of (epoch_of z) < version) (sym (find_same b)) (so.held.since i v at b version lt c (sym (since_same version b) ∙ h)))
        so.held.since;
    one_anchor = λ b d version high q r. so.held.one_anchor b d version high (known_before b version (omega arith) q) (known_before d version (omega arith) r);
    finds = all_views (λ j u. (b : ℕ) → epoch_of (last_find b u.trail) ≤ seen_at b u.seen) (λ j u. (b : ℕ) → epoch_of (last_find b u.trail) ≤ seen_at b u.seen) (λ j u _ h. h)
        (λ b. let f = ap epoch_of (find_same b) in let e = seen_w b in let y = so.held.finds i v at b in omega arith) so.held.finds;
  }

  alone : k.passes ≡ 1 → (j : ℕ) (u : View X) → j ≢ i → get_elem? s.views j ≡ some u → u.tabs ≡ []
  alone one j u ne uat = none u.tabs (let t = two_le_sum tabs_in s.views i j v u at uat ne in let q = so.shaped.tabs in let l = o.is_pass in omega arith)
    where
      none : (xs : List (Tab X)) → length xs ≡ 0 → xs ≡ []
      none [] h = refl
      none (y ∷ xs) h = absurd (omega arith)

  mirror' : OneMirror k s'
  mirror' one j u uat some_tabs p lt = ⊎_elim
      (λ (t : (j ≡ i) × (w ≡ u)). subst (λ (z : View X). mirrored k p z.mirror ≡ get_or (set s.words p₀ x) p 0) t.1
      (by_eq (λ z. cond z x (mirrored k p v.mirror) ≡ get_or (set s.words p₀ x) p 0) p₀ p
      (λ q. subst (λ (z : ℕ). x ≡ get_or (set s.words p₀ x) z 0) q (sym (get_or-set_same s.words p₀ x 0 (let e = so.shaped.words in let h = o.inside in omega arith))))
      (λ ne. so.mirror one i v at tabs_v p lt ∙ sym (get_or-set_other s.words p₀ p x 0 (λ q. ne (sym q))))))
      (λ (t : (j ≢ i) × (get_elem? s.views j ≡ some u)). absurd (some_tabs (alone one j u t.0 t.1)))
      (at_set s.views i j w u uat)

  abbrev deeds' : DeedsExplain k s'
  deeds' = record {
    left = λ b e h. ⊎_elim (λ (r : e ≡ opening_epoch k b). inl r) (λ (r : IsDone s (LeftEpoch b e)). inr (done_later (LeftEpoch b e) r)) (so.deeds.left b e (epoch_before b e h));
    doomed = λ b e h g. done_later (DoomedVersion b (version_of e)) (so.deeds.doomed b e (epoch_before b e h) g);
    undoomed = λ b e h g st. ⊎_elim (λ (r : IsDone s (HaltedVersion b (version_of e))). inl (done_later (HaltedVersion b (version_of e)) r)) (λ (r : IsDone s (EvictedVersion b (version_of e))). inr (done_later (EvictedVersion b (version_of e)) r)) (so.deeds.undoomed b e (epoch_before b e h) g st);
    entered = all_views (λ j u. (b : ℕ) → 0 < count (counts b) u → IsDone s (EnteredBy b u.pass)) (λ j u. (b : ℕ) → 0 < count (counts b) u → IsDone s' (EnteredBy b u.pass))
        (λ j u _ h b g. done_later (EnteredBy b u.pass) (h b g)) (λ b g. done_later (EnteredBy b v.pass) (so.deeds.entered i v at b (let e = o.readers b in omega arith))) so.deeds.entered;
    met = all_views (λ j u. (b : ℕ) → Contains u.met b → IsDone s (EnteredByAnother b u.pass)) (λ j u. (b : ℕ) → Contains u.met b → IsDone s' (EnteredByAnother b u.pass))
        (λ j u _ h b g. done_later (EnteredByAnother b u.pass) (h b g)) (λ b g. done_later (EnteredByAnother b v.pass) (so.deeds.met i v at b g)) so.deeds.met;
    numbers = λ j l u t uat tat q r eq. ⊎_elim
        (λ (y : (j ≡ i) × (w ≡ u)). ⊎_elim
        (λ (z : (l ≡ i) × (w ≡ t)). y.0 ∙ sym z.0)
        (λ (z : (l ≢ i) × (get_elem? s.views l ≡ some t)). y.0 ∙ so.deeds.numbers i l v t at z.1 tabs_v r (ap View.pass y.1 ∙ eq))
        (at_set s.views i l w t tat))
        (λ (y : (j ≢ i) × (get_elem? s.views j ≡ some u)). ⊎_elim
        (λ (z : (l ≡ i) × (w ≡ t)). so.deeds.numbers j i u v y.1 at q tabs_v (eq ∙ sym (ap View.pass z.1)) ∙ sym z.0)
        (λ (z : (l ≢ i) × (get_elem? s.views l ≡ some t)). so.deeds.numbers j l u t y.1 z.1 q r eq)
        (at_set s.views i l w t tat))
        (at_set s.views i j w u uat);
  }

  pub at_beside : AnchorsSound k s'
  at_beside = record {
    setting = so.setting;
    shaped = shaped;
    readers = λ b lt. sym (ap readers_of (same_word b lt)) ∙ so.readers b lt ∙ sym (count_same (count (counts b)) (o.readers b));
    writers = λ b u g lt. sym (ap (λ (z : ℕ). written_at (epoch_of z) u g) (same_word b lt)) ∙ so.writers b u g lt ∙ sym (count_same (count (writes b u g)) (o.writers b u g));
    freers = λ b u d lt. sym (ap (λ (z : ℕ). freed_at (epoch_of z) u d) (same_word b lt)) ∙ so.freers b u d lt ∙ sym (count_same (count (frees b u d)) (o.freers b u d));
    tabs = all_views (λ j u. (t : ℕ) (tab : Tab X) → get_elem? u.tabs t ≡ some tab → TabStands k s u t tab) (λ j u. (t : ℕ) (tab : Tab X) → get_elem? u.tabs t ≡ some tab → TabStands k s' u t tab)
        (λ j u _ h t tab tat. stands u u (λ b. refl) t tab (h t tab tat)) (λ t tab tat. stands v w seen_w t tab (o.stand t tab tat)) so.tabs;
    lasts = λ b lt over. let z = same_word b lt in subst (IsLastAt s' b) z (last_later b (word s b) (so.lasts b lt (subst (λ (y : ℕ). is_left_over y ≡ true) (sym z) over)));
    seen = seen';
    drawn = drawn';
    held = held';
    mirror = mirror';
    deeds = deeds';
  }
