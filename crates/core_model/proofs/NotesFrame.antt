-- Words, cells and chains stay, a pass comes to have seen more, and notes come and go: what such a change of views is, and what it
-- tells of the views before and after it.
use Rattle.std.proofs.Common.{◌≡◌, ◌⊎◌, inl, inr, ⊎_elim, ℕ, ◌<◌, ◌≤◌, List, [], ◌∷◌, ◌++◌, sym, refl, ap, subst, arith, sum_by, Contains}
use Rattle.std.proofs.lemmas.List.Elements.{Contains-append_cases}
use mathlib.Core.Option.{some}
use lib.ListN.{get_elem?}
use Rattle.lock_word.specs.Words.{epoch_of, version_of}
use Rattle.core_model.specs.declared.tab.Tab.{Tab}
use Rattle.core_model.specs.declared.view.Kind.TheVariants.{Counted as Looks, Drew}
use Rattle.core_model.specs.declared.view.Item.{Item}
use Rattle.core_model.specs.declared.view.Sight.{Sight}
use Rattle.core_model.specs.declared.view.Sight.TheVariants.{Stood}
use Rattle.core_model.specs.declared.view.Deed.{Deed}
use Rattle.core_model.specs.declared.view.View.{View}
use Rattle.core_model.specs.Layout.{Setting}
use Rattle.core_model.specs.State.{State, word}
use Rattle.core_model.specs.Tabs.{count}
use Rattle.core_model.specs.Trails.{last_find, last_count, drew_since, drawn, draws, draws_in_vain, seen_at, sight_anchor, sight_version, find_before}
use Rattle.core_model.specs.Versions.{SeenStands, IsKnownAt}
use Rattle.core_model.specs.Deeds.{IsEpochAt, IsDone}
use Rattle.core_model.proofs.Lists.{contains_none}
use Rattle.core_model.proofs.AnchorTabs.{version_up}
use Rattle.core_model.specs.CellMoves.{note_of}
use Rattle.core_model.specs.TableForms.{renewed}

-- a view before and after: what is new in its trail tells nothing, and it may have seen more
pub record Goes {X : Type 0} (u w : View X) : Type 0 where
  pub pass : w.pass ≡ u.pass
  pub tabs : w.tabs ≡ u.tabs
  pub held : w.held ≡ u.held
  pub mirror : w.mirror ≡ u.mirror
  pub deeds : w.deeds ≡ u.deeds
  pub met : w.met ≡ u.met
  pub find : (a : ℕ) → last_find a w.trail ≡ last_find a u.trail
  pub since : (version a : ℕ) → drew_since version a w.trail ≡ drew_since version a u.trail
  pub before : (version a : ℕ) → find_before version a w.trail ≡ find_before version a u.trail
  pub as_drawn : (version : ℕ) → drawn version w.trail ≡ drawn version u.trail
  pub as_draws : draws w.trail ≡ draws u.trail
  pub as_vain : draws_in_vain w.trail ≡ draws_in_vain u.trail
  pub as_count : last_count w.trail ≡ last_count u.trail
  pub looked : (x : Item) → Contains w.trail x → x.kind ≡ Looks → Contains u.trail x
  pub drew : (x : Item) → Contains w.trail x → x.kind ≡ Drew → Contains u.trail x
  pub sees : (a : ℕ) → seen_at a u.seen ≤ seen_at a w.seen
  pub keeps : (x : Sight) → Contains u.seen x → Contains w.seen x

-- one of these views has this sight
pub record IsSeen {X : Type 0} (views : List (View X)) (x : Sight) : Type 0 where
  pub i : ℕ
  pub view : View X
  pub at : get_elem? views i ≡ some view
  pub seen : Contains view.seen x

-- what holds of the sights of each view
pub record SightsKnown {X : Type 0} (k : Setting X) (s : State X) (seen : List Sight) : Type 0 where
  pub each : (x : Sight) → Contains seen x → IsSeen s.views x
  pub epochs : (a : ℕ) → a < k.anchors → seen_at a seen ≤ epoch_of (word s a)
  pub known : (x : Sight) → Contains seen x → sight_version x ≤ version_of (seen_at (sight_anchor x) seen)

-- what a view was before, and what becomes of one
abbrev pub Before : {X : Type 0} → List (View X) → ℕ → View X → Type 0
Before {X} views j w = (u : View X) × (get_elem? views j ≡ some u) × Goes u w

abbrev pub Later : {X : Type 0} → List (View X) → ℕ → View X → Type 0
Later {X} views j u = (w : View X) × (get_elem? views j ≡ some w) × Goes u w

-- a note that may be gone, of which these views have seen all
abbrev pub Learned : {X : Type 0} → List (View X) → View X → Type 0
Learned views u = (u ≡ note_of u) × ((x : Sight) → Contains u.seen x → IsSeen views x)

pub record Renews {X : Type 0} (k : Setting X) (s : State X) (views : List (View X)) : Type 0 where
  pub now : (j : ℕ) (w : View X) → get_elem? views j ≡ some w → Before s.views j w ⊎ (w ≡ note_of w)
  pub sights : (j : ℕ) (w : View X) → get_elem? views j ≡ some w → SightsKnown k s w.seen
  pub notes : (j : ℕ) (w : View X) → get_elem? views j ≡ some w → w.tabs ≡ [] → w ≡ note_of w
  pub later : (j : ℕ) (u : View X) → get_elem? s.views j ≡ some u → Later views j u ⊎ Learned views u
  pub sums : (f : View X → ℕ) → ((u w : View X) → Goes u w → f w ≡ f u) → ((n : View X) → f (note_of n) ≡ 0) → sum_by f views ≡ sum_by f s.views

-- What was seen.

pub seen_left : (a : ℕ) (xs ys : List Sight) → seen_at a xs ≤ seen_at a (xs ++ ys)
seen_left a [] ys = omega arith
seen_left a (x ∷ xs) ys = let h = seen_left a xs ys in omega arith

pub seen_right : (a : ℕ) (xs ys : List Sight) → seen_at a ys ≤ seen_at a (xs ++ ys)
seen_right a [] ys = omega arith
seen_right a (x ∷ xs) ys = let h = seen_right a xs ys in omega arith

pub seen_joined : (a m : ℕ) (xs ys : List Sight) → seen_at a xs ≤ m → seen_at a ys ≤ m → seen_at a (xs ++ ys) ≤ m
seen_joined a m [] ys p q = q
seen_joined a m (x ∷ xs) ys p q = let h = seen_joined a m xs ys (omega arith) q in omega arith

module _ {X : Type 0} where
  pub goes_same : (u : View X) → Goes u u
  goes_same u = record {
    pass = refl;
    tabs = refl;
    held = refl;
    mirror = refl;
    deeds = refl;
    met = refl;
    find = λ a. refl;
    since = λ version a. refl;
    before = λ version a. refl;
    as_drawn = λ version. refl;
    as_draws = refl;
    as_vain = refl;
    as_count = refl;
    looked = λ x h e. h;
    drew = λ x h e. h;
    sees = λ a. omega arith;
    keeps = λ x h. h;
  }

  module _ (k : Setting X) (s : State X) where
    -- those of a view, none, and those of two together
    pub known_view : SeenStands k s → (j : ℕ) (u : View X) → get_elem? s.views j ≡ some u → SightsKnown k s u.seen
    known_view so j u at = record { each = λ x h. record { i = j; view = u; at = at; seen = h }; epochs = so.epochs j u at; known = so.known j u at }

    pub known_none : SightsKnown k s []
    known_none = record { each = λ x h. absurd (contains_none x h); epochs = λ a lt. omega arith; known = λ x h. absurd (contains_none x h) }

    pub known_both : (xs ys : List Sight) → SightsKnown k s xs → SightsKnown k s ys → SightsKnown k s (xs ++ ys)
    known_both xs ys p q = record {
      each = λ x h. ⊎_elim (λ (c : Contains xs x). p.each x c) (λ (c : Contains ys x). q.each x c) (Contains-append_cases xs ys x h);
      epochs = λ a lt. seen_joined a (epoch_of (word s a)) xs ys (p.epochs a lt) (q.epochs a lt);
      known = λ x h. ⊎_elim
          (λ (c : Contains xs x). version_up (sight_version x) (seen_at (sight_anchor x) xs) (seen_at (sight_anchor x) (xs ++ ys)) (p.known x c) (seen_left (sight_anchor x) xs ys))
          (λ (c : Contains ys x). version_up (sight_version x) (seen_at (sight_anchor x) ys) (seen_at (sight_anchor x) (xs ++ ys)) (q.known x c) (seen_right (sight_anchor x) xs ys))
          (Contains-append_cases xs ys x h);
    }

-- Before and after.

module _ {X : Type 0} (k : Setting X) (s : State X) (views : List (View X)) (r : Renews k s views) where
  abbrev s' : State X
  s' = renewed s views

  -- what holds of each view afterwards
  pub each_now : (Q : ℕ → View X → Type 0) → ((j : ℕ) (u w : View X) → get_elem? s.views j ≡ some u → Goes u w → Q j w) → ((j : ℕ) (n : View X) → Q j (note_of n))
      → (j : ℕ) (w : View X) → get_elem? views j ≡ some w → Q j w
  each_now Q goes note j w at = ⊎_elim (λ (b : Before s.views j w). goes j b.0 w b.1 b.2) (λ (e : w ≡ note_of w). subst (Q j) (sym e) (note j w)) (r.now j w at)

  pub tab_sums : (f : Tab X → ℕ) → sum_by (count f) views ≡ sum_by (count f) s.views
  tab_sums f = r.sums (count f) (λ u w g. ap (sum_by f) g.tabs) (λ n. refl)

  pub was_seen : (j : ℕ) (w : View X) → get_elem? views j ≡ some w → (x : Sight) → Contains w.seen x → IsSeen s.views x
  was_seen j w at x h = let q = r.sights j w at in q.each x h

  pub still_seen : (x : Sight) → IsSeen s.views x → IsSeen views x
  still_seen x h = ⊎_elim (λ (l : Later views h.i h.view). record { i = h.i; view = l.0; at = l.1; seen = l.2.keeps x h.seen }) (λ (l : Learned views h.view). l.1 x h.seen) (r.later h.i h.view h.at)

  pub known_before : (b version : ℕ) → IsKnownAt k s' b version → IsKnownAt k s b version
  known_before b version (inl h) = inl h
  known_before b version (inr h) = let q = was_seen h.i h.view h.at h.sight h.seen in
      inr record { i = q.i; view = q.view; at = q.at; sight = h.sight; seen = q.seen; anchor = h.anchor; version_is = h.version_is }

  pub epoch_before : (b e : ℕ) → IsEpochAt k s' b e → IsEpochAt k s b e
  epoch_before b e (inl h) = inl h
  epoch_before b e (inr h) = let q = was_seen h.0 h.1 h.2 (Stood b e) h.3 in inr (q.i, q.view, q.at, q.seen)

  pub done_later : (P : Deed → Type 0) → IsDone s P → IsDone s' P
  done_later P d = ⊎_elim
      (λ (l : Later views d.i d.view). record { i = d.i; view = l.0; at = l.1; deed = d.deed; done = subst (λ (z : List Deed). Contains z d.deed) (sym l.2.deeds) d.done; so = d.so })
      (λ (l : Learned views d.view). absurd (contains_none d.deed (subst (λ (z : View X). Contains z.deeds d.deed) l.0 d.done)))
      (r.later d.i d.view d.at)
