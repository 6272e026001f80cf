-- A step on the counter of versions: what it owes, so that it leaves a sound state.
use Rattle.std.proofs.Common.{◌≡◌, ◌≢◌, ◌⊎◌, inl, inr, ⊎_elim, ℕ, ◌+◌, ◌*◌, ◌<◌, ◌≤◌, List, [], ◌∷◌, length, get_or, set, sym, refl, ap, ◌∙◌, subst, arith, sum_by, Bool, true, false, cond, ◌||◌, length-set, get_or-set_other, get_or-set_same, Contains}
use mathlib.Core.Option.{some, some-injective}
use mathlib.Core.Logic.{dite}
use native.Mathlib.Decide.{ℕ_discrete}
use lib.ListN.{get_elem?}
use Rattle.lock_word.specs.Words.{readers_of, epoch_of, version_of, stage_of, is_left_over, IsWord, version_limit}
use Rattle.core_model.specs.declared.moves.Side.{Side}
use Rattle.core_model.specs.declared.moves.Side.TheVariants.{Start}
use Rattle.core_model.specs.declared.tab.Tab.{Tab}
use Rattle.core_model.specs.declared.tab.Tab.TheVariants.{Free, Retreating, Reading, Writing, Last, Freeing}
use Rattle.core_model.specs.declared.view.Kind.TheVariants.{Counted as Looks, Drew}
use Rattle.core_model.specs.declared.view.Item.{Item}
use Rattle.core_model.specs.declared.view.Sight.{Sight}
use Rattle.core_model.specs.declared.view.Sight.TheVariants.{Named, Published}
use Rattle.core_model.specs.declared.view.Place.TheVariants.{Counter, Beside}
use Rattle.core_model.specs.declared.view.Deed.{Deed}
use Rattle.core_model.specs.declared.view.View.{View}
use Rattle.core_model.specs.Layout.{Setting, index, counter_index, anchor_index}
use Rattle.core_model.specs.Chains.{times}
use Rattle.core_model.specs.State.{State, word, chain_of, counter}
use Rattle.core_model.specs.Tabs.{counts, writes, frees, count}
use Rattle.core_model.specs.Trails.{tells_word, last_find, last_count, drew_since, draws_version, drawn, draws, draws_in_vain, seen_at, sight_anchor, sight_version}
use Rattle.core_model.specs.Anchors.{opening_counter, tabs_in, Shaped, IsReadAt, TabStands, IsLastAt, opening_epoch}
use Rattle.core_model.specs.Versions.{HasSlot, SeenStands, draws_by, vain_by, drawn_by, VersionsDrawn, IsKnownAt, IsFresh, VersionsHeld}
use Rattle.core_model.specs.Deeds.{mirrored, OneMirror, IsEpochAt, IsDone, EnteredBy, EnteredByAnother, LeftEpoch, DoomedVersion, HaltedVersion, EvictedVersion, DeedsExplain}
use Rattle.core_model.specs.Sound.{AnchorsSound}
use Rattle.core_model.proofs.Places.{beside_inside}
use Rattle.core_model.proofs.Lists.{by_eq, at_set, at_length, sum_at, two_le_sum, set_here, set_else, cons_contains}
use Rattle.core_model.specs.CellMoves.{note_of}

-- the view after a step that left c in the counter
abbrev pub counting : {X : Type 0} → View X → ℕ → List ℕ → Item → View X
counting v c held item = record v { held = held; trail = item ∷ v.trail; mirror = record { place = Counter; word = c } ∷ v.mirror }

abbrev pub counted : {X : Type 0} → Setting X → State X → ℕ → View X → ℕ → State X
counted k s i w c = record { words = set s.words (counter_index k) c; places = s.places; views = set s.views i w; chains = s.chains }

pub record OwesCount {X : Type 0} (k : Setting X) (s : State X) (v : View X) (c : ℕ) (held : List ℕ) (item : Item) : Type 0 where
  pub is_pass : length v.tabs ≡ 9
  pub quiet : tells_word item.kind ≡ false
  pub grows : counter k s ≤ c
  pub draws_add : c + draws v.trail ≡ counter k s + draws (item ∷ v.trail)
  pub looked : item.kind ≡ Looks → item.found ≤ c
  pub drew : item.kind ≡ Drew → item.found < c
  pub drawn_add : (u : ℕ) → (drawn u (item ∷ v.trail) ≡ drawn u v.trail) ⊎ ((u ≡ counter k s + 1) × (c ≡ counter k s + 1) × (drawn u (item ∷ v.trail) ≡ drawn u v.trail + 1))
  pub limited : (c ≤ version_limit) ⊎ (c + draws_in_vain v.trail ≤ counter k s + draws_in_vain (item ∷ v.trail))
  pub vain_more : draws_in_vain v.trail ≤ draws_in_vain (item ∷ v.trail)
  pub vain : 9 * draws_in_vain (item ∷ v.trail) ≤ length v.tabs
  pub stops : 0 < draws_in_vain (item ∷ v.trail) → (version_limit ≤ last_count (item ∷ v.trail)) × (version_limit ≤ c)
  pub held_before : (u : ℕ) → Contains held u → (Contains v.held u × (times u held ≡ times u v.held))
      ⊎ ((u ≡ counter k s + 1) × (u ≤ version_limit) × (0 < drawn u (item ∷ v.trail)) × (times u held ≡ 1))
  pub draws_next : (u : ℕ) → draws_version u item ≡ true → u ≡ counter k s + 1

module _ {X : Type 0} (k : Setting X) (s : State X) (i : ℕ) (v : View X) (so : AnchorsSound k s) (at : get_elem? s.views i ≡ some v)
    (c : ℕ) (held : List ℕ) (item : Item) (o : OwesCount k s v c held item) where
  abbrev w : View X
  w = counting v c held item

  abbrev s' : State X
  s' = counted k s i w c

  same : (p : ℕ) → p < counter_index k → get_or s.words p 0 ≡ get_or (set s.words (counter_index k) c) p 0
  same p lt = sym (get_or-set_other s.words (counter_index k) p c 0 (λ q. omega arith))

  same_word : (b : ℕ) → b < k.anchors → word s b ≡ word s' b
  same_word b lt = same (anchor_index b) (omega arith)

  counter_now : counter k s' ≡ c
  counter_now = get_or-set_same s.words (counter_index k) c 0 (let e = so.shaped.words in omega arith)

  all_views : (P Q : ℕ → View X → Type 0) → ((j : ℕ) (u : View X) → get_elem? s.views j ≡ some u → P j u → Q j u) → Q i w
      → ((j : ℕ) (u : View X) → get_elem? s.views j ≡ some u → P j u) → (j : ℕ) (u : View X) → get_elem? (set s.views i w) j ≡ some u → Q j u
  all_views P Q later mine others j u e = ⊎_elim
      (λ (t : (j ≡ i) × (w ≡ u)). subst (λ (z : ℕ). Q z u) (sym t.0) (subst (Q i) t.1 mine))
      (λ (t : (j ≢ i) × (get_elem? s.views j ≡ some u)). later j u t.1 (others j u t.1))
      (at_set s.views i j w u e)

  at_w : get_elem? (set s.views i w) i ≡ some w
  at_w = set_here s.views i w (at_length s.views i v at)

  tabs_v : v.tabs ≢ []
  tabs_v z = absurd (let l = o.is_pass in let y : length v.tabs ≡ 0 = ap length z in omega arith)

  -- a count that the step leaves
  count_same : (f : View X → ℕ) → f w ≡ f v → sum_by f (set s.views i w) ≡ sum_by f s.views
  count_same f h = let q = sum_at f s.views i v w at in omega arith

  pub shaped : Shaped k s'
  shaped = record {
    words = length-set s.words (counter_index k) c ∙ so.shaped.words;
    places = so.shaped.places;
    chains = so.shaped.chains;
    tabs = count_same tabs_in refl ∙ so.shaped.tabs;
    notes = all_views (λ j u. u.tabs ≡ [] → u ≡ note_of u) (λ j u. u.tabs ≡ [] → u ≡ note_of u) (λ j u _ h. h) (λ h. absurd (tabs_v h)) so.shaped.notes;
    anchors = λ b lt. subst IsWord (same_word b lt) (so.shaped.anchors b lt);
  }

  stands : (u u' : View X) → u'.seen ≡ u.seen → (t : ℕ) (tab : Tab X) → TabStands k s u t tab → TabStands k s' u' t tab
  stands u u' e t Free h = tt
  stands u u' e t (Retreating b) h = h
  stands u u' e t (Reading r) h = (
    h.0,
    record { version_is = subst (λ (z : ℕ). version_of (epoch_of z) ≡ r.version) (same_word r.anchor h.0) h.1.version_is; from = subst (λ (z : ℕ). 2 ≤ stage_of (epoch_of z)) (same_word r.anchor h.0) h.1.from; to = subst (λ (z : ℕ). stage_of (epoch_of z) ≤ 4) (same_word r.anchor h.0) h.1.to },
    subst (λ (z : List Sight). r.version ≤ version_of (seen_at r.anchor z)) (sym e) h.2,
  )
  stands u u' e t (Writing r) h = (h.0, h.1, subst (λ (z : List Sight). r.version ≤ version_of (seen_at r.anchor z)) (sym e) h.2)
  stands u u' e t (Last b) h = h
  stands u u' e t (Freeing f) h = h

  find_same : (b : ℕ) → last_find b w.trail ≡ last_find b v.trail
  find_same b = rw o.quiet refl

  last_later : (b n : ℕ) → IsLastAt s b n → IsLastAt s' b n
  last_later b n l = dite (ℕ_discrete l.i i)
      (λ e. let eq : v ≡ l.view = some-injective v l.view (sym at ∙ subst (λ (z : ℕ). get_elem? s.views z ≡ some l.view) e l.at) in
      record { i = i; view = w; at = at_w; t = l.t; last = subst (λ (u : View X). get_elem? u.tabs l.t ≡ some (Last b)) (sym eq) l.last; find = find_same b ∙ subst (λ (u : View X). last_find b u.trail ≡ n) (sym eq) l.find })
      (λ ne. record { i = l.i; view = l.view; at = set_else s.views i l.i w ne ∙ l.at; t = l.t; last = l.last; find = l.find })

  -- sights and deeds stay
  had : (j : ℕ) (u : View X) → get_elem? (set s.views i w) j ≡ some u → (u' : View X) × (get_elem? s.views j ≡ some u') × (u'.seen ≡ u.seen) × (u'.deeds ≡ u.deeds)
  had j u uat = ⊎_elim
      (λ (t : (j ≡ i) × (w ≡ u)). (v, subst (λ (z : ℕ). get_elem? s.views z ≡ some v) (sym t.0) at, ap View.seen t.1, ap View.deeds t.1))
      (λ (t : (j ≢ i) × (get_elem? s.views j ≡ some u)). (u, t.1, refl, refl))
      (at_set s.views i j w u uat)

  known_before : (b version : ℕ) → IsKnownAt k s' b version → IsKnownAt k s b version
  known_before b version (inl h) = inl (h.0, subst (λ (z : ℕ). version_of (epoch_of z) ≡ version) (sym (same_word b h.0)) h.1)
  known_before b version (inr h) = let q = had h.i h.view h.at in
      inr record { i = h.i; view = q.0; at = q.1; sight = h.sight; seen = subst (λ (z : List Sight). Contains z h.sight) (sym q.2) h.seen; anchor = h.anchor; version_is = h.version_is }

  epoch_before : (b x : ℕ) → IsEpochAt k s' b x → IsEpochAt k s b x
  epoch_before b x (inl h) = inl (h.0, subst (λ (z : ℕ). epoch_of z ≡ x) (sym (same_word b h.0)) h.1)
  epoch_before b x (inr h) = let q = had h.0 h.1 h.2 in inr (h.0, q.0, q.1, subst (λ (z : List Sight). Contains z _) (sym q.2) h.3)

  done_later : (P : Deed → Type 0) → IsDone s P → IsDone s' P
  done_later P d = dite (ℕ_discrete d.i i)
      (λ q. let eq : v ≡ d.view = some-injective v d.view (sym at ∙ subst (λ (z : ℕ). get_elem? s.views z ≡ some d.view) q d.at) in
      record { i = i; view = w; at = at_w; deed = d.deed; done = subst (λ (z : View X). Contains z.deeds d.deed) (sym eq) d.done; so = d.so })
      (λ ne. record { i = d.i; view = d.view; at = set_else s.views i d.i w ne ∙ d.at; deed = d.deed; done = d.done; so = d.so })

  -- nothing above the counter is known
  known_low : (b version : ℕ) → IsKnownAt k s b version → version ≤ counter k s
  known_low b version (inl h) = let x = so.drawn.stand b h.0 in let y = h.1 in omega arith
  known_low b version (inr h) = let inside = so.seen.inside h.i h.view h.at h.sight h.seen in let x = so.seen.known h.i h.view h.at h.sight h.seen in
      let y = so.seen.epochs h.i h.view h.at (sight_anchor h.sight) inside in let z = so.drawn.stand (sight_anchor h.sight) inside in let q = h.version_is in omega arith

  abbrev seen' : SeenStands k s'
  seen' = record {
    epochs = all_views (λ j u. (b : ℕ) → b < k.anchors → seen_at b u.seen ≤ epoch_of (word s b)) (λ j u. (b : ℕ) → b < k.anchors → seen_at b u.seen ≤ epoch_of (word s' b))
        (λ j u _ h b lt. subst (λ (z : ℕ). seen_at b u.seen ≤ epoch_of z) (same_word b lt) (h b lt))
        (λ b lt. subst (λ (z : ℕ). seen_at b v.seen ≤ epoch_of z) (same_word b lt) (so.seen.epochs i v at b lt)) so.seen.epochs;
    no_start = all_views (λ j u. (b version value : ℕ) → Contains u.seen (Named b version Start value) → ⊥) (λ j u. (b version value : ℕ) → Contains u.seen (Named b version Start value) → ⊥) (λ j u _ h. h) (so.seen.no_start i v at) so.seen.no_start;
    inside = all_views (λ j u. (x : Sight) → Contains u.seen x → sight_anchor x < k.anchors) (λ j u. (x : Sight) → Contains u.seen x → sight_anchor x < k.anchors) (λ j u _ h. h) (so.seen.inside i v at) so.seen.inside;
    known = all_views (λ j u. (x : Sight) → Contains u.seen x → sight_version x ≤ version_of (seen_at (sight_anchor x) u.seen)) (λ j u. (x : Sight) → Contains u.seen x → sight_version x ≤ version_of (seen_at (sight_anchor x) u.seen))
        (λ j u _ h. h) (so.seen.known i v at) so.seen.known;
    named = all_views (λ j u. (b version : ℕ) (side : Side) (value : ℕ) → Contains u.seen (Named b version side value) → version_of (epoch_of (word s b)) ≡ version → (get_or s.words (index k (Beside side b)) 0 ≡ value) × HasSlot s b)
        (λ j u. (b version : ℕ) (side : Side) (value : ℕ) → Contains u.seen (Named b version side value) → version_of (epoch_of (word s' b)) ≡ version → (get_or s'.words (index k (Beside side b)) 0 ≡ value) × HasSlot s' b)
        (λ j u uat h b version side value g q. named_later b version side value (so.seen.inside j u uat (Named b version side value) g) (h b version side value g) q)
        (λ b version side value g q. named_later b version side value (so.seen.inside i v at (Named b version side value) g) (so.seen.named i v at b version side value g) q)
        so.seen.named;
    published = all_views (λ j u. (b version many : ℕ) → Contains u.seen (Published b version many) → version_of (epoch_of (word s b)) ≡ version → stage_of (epoch_of (word s b)) ≤ 4 → many ≤ length (chain_of s b).slots)
        (λ j u. (b version many : ℕ) → Contains u.seen (Published b version many) → version_of (epoch_of (word s' b)) ≡ version → stage_of (epoch_of (word s' b)) ≤ 4 → many ≤ length (chain_of s b).slots)
        (λ j u uat h b version many g. published_later b version many (so.seen.inside j u uat (Published b version many) g) (h b version many g))
        (λ b version many g. published_later b version many (so.seen.inside i v at (Published b version many) g) (so.seen.published i v at b version many g))
        so.seen.published;
    agree = λ j l u t uat tat b version side x y hx hy. let p = had j u uat in let q = had l t tat in
        so.seen.agree j l p.0 q.0 p.1 q.1 b version side x y (subst (λ (z : List Sight). Contains z (Named b version side x)) (sym p.2) hx) (subst (λ (z : List Sight). Contains z (Named b version side y)) (sym q.2) hy);
  }
    where
      named_later : (b version : ℕ) (side : Side) (value : ℕ) → b < k.anchors → (version_of (epoch_of (word s b)) ≡ version → (get_or s.words (index k (Beside side b)) 0 ≡ value) × HasSlot s b)
          → version_of (epoch_of (word s' b)) ≡ version → (get_or s'.words (index k (Beside side b)) 0 ≡ value) × HasSlot s' b
      named_later b version side value lt h q = let z = same_word b lt in let r = h (ap (λ (y : ℕ). version_of (epoch_of y)) z ∙ q) in
          (sym (same _ (let q = beside_inside k side b lt in omega arith)) ∙ r.0, λ low. r.1 (subst (λ (y : ℕ). stage_of (epoch_of y) ≤ 4) (sym z) low))

      published_later : (b version many : ℕ) → b < k.anchors → (version_of (epoch_of (word s b)) ≡ version → stage_of (epoch_of (word s b)) ≤ 4 → many ≤ length (chain_of s b).slots)
          → version_of (epoch_of (word s' b)) ≡ version → stage_of (epoch_of (word s' b)) ≤ 4 → many ≤ length (chain_of s b).slots
      published_later b version many lt h q low = let z = same_word b lt in h (ap (λ (y : ℕ). version_of (epoch_of y)) z ∙ q) (subst (λ (y : ℕ). stage_of (epoch_of y) ≤ 4) (sym z) low)

  drawn_new : (u : ℕ) → (sum_by (drawn_by u) (set s.views i w) ≡ sum_by (drawn_by u) s.views)
      ⊎ ((u ≡ counter k s + 1) × (c ≡ counter k s + 1) × (sum_by (drawn_by u) (set s.views i w) ≡ 1))
  drawn_new u = let q = sum_at (drawn_by u) s.views i v w at in ⊎_elim
      (λ (h : drawn u (item ∷ v.trail) ≡ drawn u v.trail). inl (omega arith))
      (λ (h : (u ≡ counter k s + 1) × (c ≡ counter k s + 1) × (drawn u (item ∷ v.trail) ≡ drawn u v.trail + 1)).
      let none_before : sum_by (drawn_by u) s.views ≡ 0 = none u h.0 in let x = h.2 in inr (h.0, h.1, omega arith))
      (o.drawn_add u)
    where
      none : (u : ℕ) → u ≡ counter k s + 1 → sum_by (drawn_by u) s.views ≡ 0
      none u q = dite (ℕ_discrete (sum_by (drawn_by u) s.views) 0) (λ z. z) (λ ne. absurd (let x = (so.drawn.above u (omega arith)).1 in omega arith))

  abbrev drawn' : VersionsDrawn k s'
  drawn' = let now = counter_now in let grows = o.grows in record {
    counted = let q = sum_at draws_by s.views i v w at in let d = so.drawn.counted in let x = o.draws_add in omega arith;
    looked = all_views (λ j u. (x : Item) → Contains u.trail x → x.kind ≡ Looks → x.found ≤ counter k s) (λ j u. (x : Item) → Contains u.trail x → x.kind ≡ Looks → x.found ≤ counter k s')
        (λ j u _ h x g q. let z = h x g q in omega arith)
        (λ x g q. ⊎_elim (λ (p : item ≡ x). let z = o.looked (ap Item.kind p ∙ q) in let y = ap Item.found p in omega arith) (λ (p : Contains v.trail x). let z = so.drawn.looked i v at x p q in omega arith) (cons_contains item x v.trail g))
        so.drawn.looked;
    drew = all_views (λ j u. (x : Item) → Contains u.trail x → x.kind ≡ Drew → x.found < counter k s) (λ j u. (x : Item) → Contains u.trail x → x.kind ≡ Drew → x.found < counter k s')
        (λ j u _ h x g q. let z = h x g q in omega arith)
        (λ x g q. ⊎_elim (λ (p : item ≡ x). let z = o.drew (ap Item.kind p ∙ q) in let y = ap Item.found p in omega arith) (λ (p : Contains v.trail x). let z = so.drawn.drew i v at x p q in omega arith) (cons_contains item x v.trail g))
        so.drawn.drew;
    once = λ version. ⊎_elim (λ (h : sum_by (drawn_by version) (set s.views i w) ≡ sum_by (drawn_by version) s.views). let d = so.drawn.once version in omega arith)
        (λ (h : (version ≡ counter k s + 1) × (c ≡ counter k s + 1) × (sum_by (drawn_by version) (set s.views i w) ≡ 1)). let z = h.2 in omega arith) (drawn_new version);
    above = λ version g. ⊎_elim (λ (h : sum_by (drawn_by version) (set s.views i w) ≡ sum_by (drawn_by version) s.views). let d = so.drawn.above version (omega arith) in (d.0, let y = d.1 in omega arith))
        (λ (h : (version ≡ counter k s + 1) × (c ≡ counter k s + 1) × (sum_by (drawn_by version) (set s.views i w) ≡ 1)). let y = so.drawn.counted in let z = h.0 in let x = h.1 in (omega arith, omega arith)) (drawn_new version);
    stand = λ b lt. let z = so.drawn.stand b lt in subst (λ (y : ℕ). version_of (epoch_of y) ≤ counter k s') (same_word b lt) (omega arith);
    limited = let q = sum_at vain_by s.views i v w at in let d = so.drawn.limited in let m = o.vain_more in ⊎_elim (λ (h : c ≤ version_limit). omega arith) (λ (h : c + draws_in_vain v.trail ≤ counter k s + draws_in_vain (item ∷ v.trail)). omega arith) o.limited;
    vain = all_views (λ j u. 9 * draws_in_vain u.trail ≤ length u.tabs) (λ j u. 9 * draws_in_vain u.trail ≤ length u.tabs) (λ j u _ h. h) o.vain so.drawn.vain;
    stops = all_views (λ j u. 0 < draws_in_vain u.trail → (version_limit ≤ last_count u.trail) × (version_limit ≤ counter k s)) (λ j u. 0 < draws_in_vain u.trail → (version_limit ≤ last_count u.trail) × (version_limit ≤ counter k s'))
        (λ j u _ h g. let z = h g in (z.0, let y = z.1 in omega arith))
        (λ g. let z = o.stops g in (z.0, let y = z.1 in omega arith)) so.drawn.stops;
  }

  fresh_mine : (version : ℕ) → Contains held version → IsFresh k s' w version
  fresh_mine version h = ⊎_elim
      (λ (q : Contains v.held version × (times version held ≡ times version v.held)). let f = so.held.fresh i v at version q.0 in record {
        drawn = more version f.drawn;
        once = q.1 ∙ f.once;
        fits = f.fits;
        unknown = λ b p. f.unknown b (known_before b version p);
      })
      (λ (q : (version ≡ counter k s + 1) × (version ≤ version_limit) × (0 < drawn version (item ∷ v.trail)) × (times version held ≡ 1)). record {
        drawn = q.2;
        once = q.3;
        fits = q.1;
        unknown = λ b p. absurd (let z = known_low b version (known_before b version p) in let y = q.0 in omega arith);
      })
      (o.held_before version h)
    where
      more : (version : ℕ) → 0 < drawn version v.trail → 0 < drawn version (item ∷ v.trail)
      more version h = omega arith

  since_mine : (b version : ℕ) → b < k.anchors → Contains held version → drew_since version b w.trail ≡ true → version_of (epoch_of (last_find b w.trail)) < version
  since_mine b version lt h = rw o.quiet (or_cases (draws_version version item) refl)
    where
      low_find : version_of (epoch_of (last_find b v.trail)) ≤ counter k s
      low_find = let x = so.held.finds i v at b in let y = so.seen.epochs i v at b lt in let z = so.drawn.stand b lt in omega arith

      old : drew_since version b v.trail ≡ true → version_of (epoch_of (last_find b v.trail)) < version
      old g = ⊎_elim (λ (q : Contains v.held version × (times version held ≡ times version v.held)). so.held.since i v at b version lt q.0 g)
          (λ (q : (version ≡ counter k s + 1) × (version ≤ version_limit) × (0 < drawn version (item ∷ v.trail)) × (times version held ≡ 1)). let z = low_find in let y = q.0 in omega arith)
          (o.held_before version h)

      or_cases : (z : Bool) → z ≡ draws_version version item → (z || drew_since version b v.trail) ≡ true → version_of (epoch_of (last_find b v.trail)) < version
      or_cases true e g = let q = o.draws_next version (sym e) in let z = low_find in omega arith
      or_cases false e g = old g

  abbrev held' : VersionsHeld k s'
  held' = record {
    fresh = λ j u uat version h. ⊎_elim
        (λ (t : (j ≡ i) × (w ≡ u)). subst (λ (z : View X). IsFresh k s' z version) t.1 (fresh_mine version (subst (λ (z : View X). Contains z.held version) (sym t.1) h)))
        (λ (t : (j ≢ i) × (get_elem? s.views j ≡ some u)). let f = so.held.fresh j u t.1 version h in record { drawn = f.drawn; once = f.once; fits = f.fits; unknown = λ b p. f.unknown b (known_before b version p) })
        (at_set s.views i j w u uat);
    since = all_views (λ j u. (b version : ℕ) → b < k.anchors → Contains u.held version → drew_since version b u.trail ≡ true → version_of (epoch_of (last_find b u.trail)) < version) (λ j u. (b version : ℕ) → b < k.anchors → Contains u.held version → drew_since version b u.trail ≡ true → version_of (epoch_of (last_find b u.trail)) < version)
        (λ j u _ h. h) since_mine so.held.since;
    one_anchor = λ b d version high p q. so.held.one_anchor b d version high (known_before b version p) (known_before d version q);
    finds = all_views (λ j u. (b : ℕ) → epoch_of (last_find b u.trail) ≤ seen_at b u.seen) (λ j u. (b : ℕ) → epoch_of (last_find b u.trail) ≤ seen_at b u.seen) (λ j u _ h. h) (λ b. let f = find_same b in let x = so.held.finds i v at b in rw f x) so.held.finds;
  }

  alone : k.passes ≡ 1 → (j : ℕ) (u : View X) → j ≢ i → get_elem? s.views j ≡ some u → u.tabs ≡ []
  alone one j u ne uat = none u.tabs (let t = two_le_sum tabs_in s.views i j v u at uat ne in let q = so.shaped.tabs in let p = o.is_pass in omega arith)
    where
      none : (xs : List (Tab X)) → length xs ≡ 0 → xs ≡ []
      none [] h = refl
      none (x ∷ xs) h = absurd (omega arith)

  mirror' : OneMirror k s'
  mirror' one j u uat some_tabs p lt = ⊎_elim
      (λ (t : (j ≡ i) × (w ≡ u)). subst (λ (z : View X). mirrored k p z.mirror ≡ get_or (set s.words (counter_index k) c) p 0) t.1
      (by_eq (λ z. cond z c (mirrored k p v.mirror) ≡ get_or (set s.words (counter_index k) c) p 0) (counter_index k) p
      (λ q. subst (λ (z : ℕ). c ≡ get_or (set s.words (counter_index k) c) z 0) q (sym counter_now))
      (λ ne. so.mirror one i v at tabs_v p lt ∙ sym (get_or-set_other s.words (counter_index k) p c 0 (λ q. ne (sym q))))))
      (λ (t : (j ≢ i) × (get_elem? s.views j ≡ some u)). absurd (some_tabs (alone one j u t.0 t.1)))
      (at_set s.views i j w u uat)

  abbrev deeds' : DeedsExplain k s'
  deeds' = record {
    left = λ b x h. ⊎_elim (λ (r : x ≡ opening_epoch k b). inl r) (λ (r : IsDone s (LeftEpoch b x)). inr (done_later (LeftEpoch b x) r)) (so.deeds.left b x (epoch_before b x h));
    doomed = λ b x h g. done_later (DoomedVersion b (version_of x)) (so.deeds.doomed b x (epoch_before b x h) g);
    undoomed = λ b x h g st. ⊎_elim (λ (r : IsDone s (HaltedVersion b (version_of x))). inl (done_later (HaltedVersion b (version_of x)) r)) (λ (r : IsDone s (EvictedVersion b (version_of x))). inr (done_later (EvictedVersion b (version_of x)) r)) (so.deeds.undoomed b x (epoch_before b x h) g st);
    entered = all_views (λ j u. (b : ℕ) → 0 < count (counts b) u → IsDone s (EnteredBy b u.pass)) (λ j u. (b : ℕ) → 0 < count (counts b) u → IsDone s' (EnteredBy b u.pass))
        (λ j u _ h b g. done_later (EnteredBy b u.pass) (h b g)) (λ b g. done_later (EnteredBy b v.pass) (so.deeds.entered i v at b g)) so.deeds.entered;
    met = all_views (λ j u. (b : ℕ) → Contains u.met b → IsDone s (EnteredByAnother b u.pass)) (λ j u. (b : ℕ) → Contains u.met b → IsDone s' (EnteredByAnother b u.pass))
        (λ j u _ h b g. done_later (EnteredByAnother b u.pass) (h b g)) (λ b g. done_later (EnteredByAnother b v.pass) (so.deeds.met i v at b g)) so.deeds.met;
    numbers = λ j l u t uat tat p q eq. ⊎_elim
        (λ (x : (j ≡ i) × (w ≡ u)). ⊎_elim
        (λ (y : (l ≡ i) × (w ≡ t)). x.0 ∙ sym y.0)
        (λ (y : (l ≢ i) × (get_elem? s.views l ≡ some t)). x.0 ∙ so.deeds.numbers i l v t at y.1 tabs_v q (ap View.pass x.1 ∙ eq))
        (at_set s.views i l w t tat))
        (λ (x : (j ≢ i) × (get_elem? s.views j ≡ some u)). ⊎_elim
        (λ (y : (l ≡ i) × (w ≡ t)). so.deeds.numbers j i u v x.1 at p tabs_v (eq ∙ sym (ap View.pass y.1)) ∙ sym y.0)
        (λ (y : (l ≢ i) × (get_elem? s.views l ≡ some t)). so.deeds.numbers j l u t x.1 y.1 p q eq)
        (at_set s.views i l w t tat))
        (at_set s.views i j w u uat);
  }

  pub at_counter : AnchorsSound k s'
  at_counter = record {
    setting = so.setting;
    shaped = shaped;
    readers = λ b lt. sym (ap readers_of (same_word b lt)) ∙ so.readers b lt ∙ sym (count_same (count (counts b)) refl);
    writers = λ b u g lt. sym (ap (λ (z : ℕ). Rattle.core_model.specs.Anchors.written_at (epoch_of z) u g) (same_word b lt)) ∙ so.writers b u g lt ∙ sym (count_same (count (writes b u g)) refl);
    freers = λ b u d lt. sym (ap (λ (z : ℕ). Rattle.core_model.specs.Anchors.freed_at (epoch_of z) u d) (same_word b lt)) ∙ so.freers b u d lt ∙ sym (count_same (count (frees b u d)) refl);
    tabs = all_views (λ j u. (t : ℕ) (tab : Tab X) → get_elem? u.tabs t ≡ some tab → TabStands k s u t tab) (λ j u. (t : ℕ) (tab : Tab X) → get_elem? u.tabs t ≡ some tab → TabStands k s' u t tab)
        (λ j u _ h t tab tat. stands u u refl t tab (h t tab tat)) (λ t tab tat. stands v w refl t tab (so.tabs i v at t tab tat)) so.tabs;
    lasts = λ b lt over. let z = same_word b lt in subst (IsLastAt s' b) z (last_later b (word s b) (so.lasts b lt (subst (λ (y : ℕ). is_left_over y ≡ true) (sym z) over)));
    seen = seen';
    drawn = drawn';
    held = held';
    mirror = mirror';
    deeds = deeds';
  }
