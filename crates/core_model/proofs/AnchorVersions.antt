-- A step on one anchor leaves versions drawn once and held by one pass, and known at one anchor.
use Rattle.std.proofs.Common.{◌≡◌, ◌≢◌, ◌⊎◌, inl, inr, ⊎_elim, ℕ, ◌+◌, ◌*◌, ◌<◌, ◌≤◌, List, length, sym, refl, ap, ◌∙◌, subst, arith, true, false, cond, ◌&&◌, ◌||◌, ◌==◌, Contains}
use mathlib.Core.Option.{some}
use mathlib.Core.Logic.{dite}
use native.Mathlib.Decide.{ℕ_discrete}
use lib.ListN.{get_elem?}
use Rattle.lock_word.specs.Words.{epoch_of, version_of, version_limit}
use Rattle.core_model.specs.declared.tab.Tab.{Tab}
use Rattle.core_model.specs.declared.view.Kind.{Kind}
use Rattle.core_model.specs.declared.view.Kind.TheVariants.{Counted as Looks, Drew}
use Rattle.core_model.specs.declared.view.Item.{Item}
use Rattle.core_model.specs.declared.view.Sight.TheVariants.{Stood}
use Rattle.core_model.specs.declared.view.Deed.{Deed}
use Rattle.core_model.specs.declared.view.View.{View}
use Rattle.core_model.specs.declared.chain.Chain.{Chain}
use Rattle.core_model.specs.Layout.{Setting, counter_index}
use Rattle.core_model.specs.Chains.{times}
use Rattle.core_model.specs.State.{State, word, counter}
use Rattle.core_model.specs.Trails.{seen_at, sight_anchor, sight_version, last_find, last_count, drew_since, draws_in_vain, is_draw, tells_word}
use Rattle.core_model.specs.Anchors.{opening_counter}
use Rattle.core_model.specs.Versions.{draws_by, vain_by, drawn_by, VersionsDrawn, IsKnownAt, IsFresh, VersionsHeld}
use Rattle.core_model.specs.Sound.{AnchorsSound}
use Rattle.core_model.proofs.Lists.{by_eq, at_set, sum_at, le_sum_at, two_le_sum, cons_contains}
use Rattle.core_model.proofs.AnchorStep.{stepped, moved, Owes}
use Rattle.core_model.proofs.AnchorTabs.{by_anchor, all_views, else_same, find_here, find_else, seen_later}
use Rattle.core_model.proofs.AnchorSeen.{Had, had, e_seen}

module _ {X : Type 0} (k : Setting X) (s : State X) (i : ℕ) (v : View X) (so : AnchorsSound k s) (at : get_elem? s.views i ≡ some v)
    (a n' e : ℕ) (tabs : List (Tab X)) (held : List ℕ) (item : Item) (deeds : List Deed) (met : List ℕ) (chains : List Chain) (o : Owes k s i v a n' e tabs held item deeds met chains) where
  abbrev w : View X
  w = stepped v a n' e tabs held item deeds met

  abbrev s' : State X
  s' = moved s i w a n' chains

  abbrev version' : ℕ
  version' = version_of (epoch_of n')

  pub counter_same : counter k s' ≡ counter k s
  counter_same = else_same k s i v so at a n' e tabs held item deeds met chains o (counter_index k) (λ z. let lt = o.inside in omega arith)

  drawn_same : (version : ℕ) → drawn_by version w ≡ drawn_by version v
  drawn_same version = rw o.no_draw (omega arith)

  draws_same : draws_by w ≡ draws_by v
  draws_same = rw o.no_draw (omega arith)

  vain_same : vain_by w ≡ vain_by v
  vain_same = rw o.no_draw (omega arith)

  not_looks : item.kind ≢ Looks
  not_looks q = absurd (let z : tells_word Looks ≡ true = subst (λ (c : Kind). tells_word c ≡ true) q o.tells in cc)

  not_drew : item.kind ≢ Drew
  not_drew q = absurd (let z : tells_word Drew ≡ true = subst (λ (c : Kind). tells_word c ≡ true) q o.tells in cc)

  -- what was known before the step, and what comes with it
  pub known_before : (b version : ℕ) → IsKnownAt k s' b version → IsKnownAt k s b version ⊎ ((b ≡ a) × (version ≡ version'))
  known_before b version (inl h) = by_anchor k s i v so at a n' e tabs held item deeds met chains o
      (λ b x y. b < k.anchors → version_of (epoch_of y) ≡ version → IsKnownAt k s b version ⊎ ((b ≡ a) × (version ≡ version')))
      (λ lt q. inr (refl, sym q))
      (λ b ne lt q. inl (inl (lt, q)))
      b h.0 h.1
  known_before b version (inr h) = ⊎_elim
      (λ (q : Had k s i v so at a n' e tabs held item deeds met chains o h.i h.sight). inl (inr record { i = h.i; view = q.view; at = q.at_j; sight = h.sight; seen = q.has; anchor = h.anchor; version_is = h.version_is }))
      (λ (q : h.sight ≡ Stood a e). inr (sym h.anchor ∙ ap sight_anchor q, sym h.version_is ∙ ap sight_version q ∙ ap version_of o.sees))
      (had k s i v so at a n' e tabs held item deeds met chains o h.i h.view h.at h.sight h.seen)

  -- the version at the anchor after the step was known there before, or the pass held it
  version_known : IsKnownAt k s a version' ⊎ (Contains v.held version' × (times version' held ≡ 0))
  version_known = ⊎_elim (λ (q : version' ≡ version_of (epoch_of (word s a))). inl (inl (o.inside, sym q))) (λ (q : Contains v.held version' × (times version' held ≡ 0)). inr q) o.version

  unknown_held : (b : ℕ) → Contains v.held version' → IsKnownAt k s b version' → ⊥
  unknown_held b h q = (so.held.fresh i v at version' h).unknown b q

  held_stands : Contains v.held version' → (opening_counter k < version') × (version' ≤ counter k s)
  held_stands h = let f = so.held.fresh i v at version' h in let g = f.drawn in let t = le_sum_at (drawn_by version') s.views i v at in so.drawn.above version' (omega arith)

  pub drawn_kept : VersionsDrawn k s'
  drawn_kept = let c = counter_same in record {
    counted = let q = sum_at draws_by s.views i v w at in let z = draws_same in let d = so.drawn.counted in omega arith;
    looked = all_views k s i v so at a n' e tabs held item deeds met chains o (λ j u. (x : Item) → Contains u.trail x → x.kind ≡ Looks → x.found ≤ counter k s) (λ j u. (x : Item) → Contains u.trail x → x.kind ≡ Looks → x.found ≤ counter k s')
        (λ j u _ h x g q. let z = h x g q in omega arith)
        (λ x g q. ⊎_elim (λ (p : item ≡ x). absurd (not_looks (ap Item.kind p ∙ q))) (λ (p : Contains v.trail x). let z = so.drawn.looked i v at x p q in omega arith) (cons_contains item x v.trail g))
        so.drawn.looked;
    drew = all_views k s i v so at a n' e tabs held item deeds met chains o (λ j u. (x : Item) → Contains u.trail x → x.kind ≡ Drew → x.found < counter k s) (λ j u. (x : Item) → Contains u.trail x → x.kind ≡ Drew → x.found < counter k s')
        (λ j u _ h x g q. let z = h x g q in omega arith)
        (λ x g q. ⊎_elim (λ (p : item ≡ x). absurd (not_drew (ap Item.kind p ∙ q))) (λ (p : Contains v.trail x). let z = so.drawn.drew i v at x p q in omega arith) (cons_contains item x v.trail g))
        so.drawn.drew;
    once = λ version. let q = sum_at (drawn_by version) s.views i v w at in let z = drawn_same version in let d = so.drawn.once version in omega arith;
    above = λ version h. let q = sum_at (drawn_by version) s.views i v w at in let z = drawn_same version in let d = so.drawn.above version (omega arith) in (d.0, let y = d.1 in omega arith);
    stand = λ b lt. by_anchor k s i v so at a n' e tabs held item deeds met chains o (λ b x y. version_of (epoch_of x) ≤ counter k s → version_of (epoch_of y) ≤ counter k s')
        (λ h. ⊎_elim (λ (q : version' ≡ version_of (epoch_of (word s a))). omega arith) (λ (q : Contains v.held version' × (times version' held ≡ 0)). let y = (held_stands q.0).1 in omega arith) o.version)
        (λ b ne h. omega arith) b (so.drawn.stand b lt);
    limited = let q = sum_at vain_by s.views i v w at in let z = vain_same in let d = so.drawn.limited in omega arith;
    vain = all_views k s i v so at a n' e tabs held item deeds met chains o (λ j u. 9 * draws_in_vain u.trail ≤ length u.tabs) (λ j u. 9 * draws_in_vain u.trail ≤ length u.tabs) (λ j u _ h. h)
        (let z = vain_same in let h = so.drawn.vain i v at in let l = o.length_same in omega arith) so.drawn.vain;
    stops = all_views k s i v so at a n' e tabs held item deeds met chains o (λ j u. 0 < draws_in_vain u.trail → (version_limit ≤ last_count u.trail) × (version_limit ≤ counter k s)) (λ j u. 0 < draws_in_vain u.trail → (version_limit ≤ last_count u.trail) × (version_limit ≤ counter k s'))
        (λ j u _ h g. let z = h g in (z.0, let y = z.1 in omega arith))
        (λ g. let z = vain_same in let h = so.drawn.stops i v at (omega arith) in (let x = h.0 in let r = o.no_count item.found (last_count v.trail) in omega arith, let y = h.1 in omega arith))
        so.drawn.stops;
  }

  fresh_mine : (version : ℕ) → Contains held version → IsFresh k s' w version
  fresh_mine version h = let before = o.held_before version h in let f = so.held.fresh i v at version before.0 in record {
    drawn = let z = drawn_same version in let d = f.drawn in omega arith;
    once = before.1 ∙ f.once;
    fits = f.fits;
    unknown = λ b q. ⊎_elim (λ (p : IsKnownAt k s b version). f.unknown b p)
        (λ (p : (b ≡ a) × (version ≡ version')). ⊎_elim
        (λ (r : IsKnownAt k s a version'). f.unknown a (subst (IsKnownAt k s a) (sym p.1) r))
        (λ (r : Contains v.held version' × (times version' held ≡ 0)). let one = before.1 ∙ f.once in let zero_ = subst (λ (z : ℕ). times z held ≡ 0) (sym p.1) r.1 in absurd (omega arith))
        version_known)
        (known_before b version q);
  }

  fresh_other : (j : ℕ) (u : View X) → j ≢ i → get_elem? s.views j ≡ some u → (version : ℕ) → Contains u.held version → IsFresh k s' u version
  fresh_other j u ne uat version h = let f = so.held.fresh j u uat version h in record {
    drawn = f.drawn;
    once = f.once;
    fits = f.fits;
    unknown = λ b q. ⊎_elim (λ (p : IsKnownAt k s b version). f.unknown b p)
        (λ (p : (b ≡ a) × (version ≡ version')). ⊎_elim
        (λ (r : IsKnownAt k s a version'). f.unknown a (subst (IsKnownAt k s a) (sym p.1) r))
        (λ (r : Contains v.held version' × (times version' held ≡ 0)). let g = so.held.fresh i v at version' r.0 in let x = g.drawn in let y = subst (λ (z : ℕ). 0 < drawn_by z u) p.1 f.drawn in
        let t = two_le_sum (drawn_by version') s.views i j v u at uat ne in let c = so.drawn.once version' in absurd (omega arith))
        version_known)
        (known_before b version q);
  }

  since_mine : (b version : ℕ) → b < k.anchors → Contains v.held version → drew_since version b w.trail ≡ true → version_of (epoch_of (last_find b w.trail)) < version
  since_mine b version lt h = by_eq (λ z. cond (tells_word item.kind && z) false ((is_draw item.kind && (item.found + 1 == version)) || drew_since version b v.trail) ≡ true
      → version_of (epoch_of (cond (tells_word item.kind && z) item.found (last_find b v.trail))) < version) item.at b
      (λ q. rw o.tells (λ h. cc))
      (λ ne. rw (o.tells, o.no_draw) (λ g. so.held.since i v at b version lt h g))

  finds_mine : (b : ℕ) → epoch_of (last_find b w.trail) ≤ seen_at b w.seen
  finds_mine b = dite (ℕ_discrete b a)
      (λ q. subst (λ (c : ℕ). epoch_of (last_find c w.trail) ≤ seen_at c w.seen) (sym q)
      (let f = find_here k s i v so at a n' e tabs held item deeds met chains o in let x = e_seen k s i v so at a n' e tabs held item deeds met chains o in let y = o.found in let z = o.sees in rw f (omega arith)))
      (λ ne. let f = find_else k s i v so at a n' e tabs held item deeds met chains o b ne in let x = so.held.finds i v at b in let y = seen_later k s i v so at a n' e tabs held item deeds met chains o b in rw f (omega arith))

  pub held_kept : VersionsHeld k s'
  held_kept = record {
    fresh = λ j u uat version h. ⊎_elim
        (λ (t : (j ≡ i) × (w ≡ u)). subst (λ (z : View X). IsFresh k s' z version) t.1 (fresh_mine version (subst (λ (z : View X). Contains z.held version) (sym t.1) h)))
        (λ (t : (j ≢ i) × (get_elem? s.views j ≡ some u)). fresh_other j u t.0 t.1 version h)
        (at_set s.views i j w u uat);
    since = all_views k s i v so at a n' e tabs held item deeds met chains o (λ j u. (b version : ℕ) → b < k.anchors → Contains u.held version → drew_since version b u.trail ≡ true → version_of (epoch_of (last_find b u.trail)) < version) (λ j u. (b version : ℕ) → b < k.anchors → Contains u.held version → drew_since version b u.trail ≡ true → version_of (epoch_of (last_find b u.trail)) < version)
        (λ j u _ h. h)
        (λ b version lt h. since_mine b version lt (o.held_before version h).0)
        so.held.since;
    one_anchor = λ b c version high p q. ⊎_elim
        (λ (x : IsKnownAt k s b version). ⊎_elim (λ (y : IsKnownAt k s c version). so.held.one_anchor b c version high x y) (λ (y : (c ≡ a) × (version ≡ version')). old_and_new b version high x y.1 ∙ sym y.0) (known_before c version q))
        (λ (x : (b ≡ a) × (version ≡ version')). ⊎_elim (λ (y : IsKnownAt k s c version). x.0 ∙ sym (old_and_new c version high y x.1)) (λ (y : (c ≡ a) × (version ≡ version')). x.0 ∙ sym y.0) (known_before c version q))
        (known_before b version p);
    finds = all_views k s i v so at a n' e tabs held item deeds met chains o (λ j u. (b : ℕ) → epoch_of (last_find b u.trail) ≤ seen_at b u.seen) (λ j u. (b : ℕ) → epoch_of (last_find b u.trail) ≤ seen_at b u.seen) (λ j u _ h. h) finds_mine so.held.finds;
  }
    where
      old_and_new : (b version : ℕ) → opening_counter k < version → IsKnownAt k s b version → version ≡ version' → b ≡ a
      old_and_new b version high x q = ⊎_elim
          (λ (r : IsKnownAt k s a version'). so.held.one_anchor b a version high x (subst (IsKnownAt k s a) (sym q) r))
          (λ (r : Contains v.held version' × (times version' held ≡ 0)). absurd (unknown_held b r.0 (subst (IsKnownAt k s b) q x)))
          version_known
