-- A step on a link, by a tab at an anchor that is left to its pass, finds what the pass has.
use Rattle.std.proofs.Common.{◌≡◌, ◌⊎◌, inl, inr, ⊎_elim, ℕ, ◌≤◌, List, [], ◌∷◌, ◌++◌, true, Bool, sym, refl, ap, ◌∙◌, subst, arith, Contains, Option, Some}
use Rattle.std.proofs.lemmas.List.Elements.{Contains-append_cases, Contains-append_left}
use mathlib.Core.Option.{some}
use lib.ListN.{get_elem?}
use Rattle.link_word.specs.declared.link.Link.{Link as LinkOf}
use Rattle.link_word.specs.declared.link.Link.TheVariants.{Last as LastLink, Next, NotWritten}
use Rattle.core_model.specs.declared.moves.Move.TheVariants.{GetLink, Loosen, Publish}
use Rattle.core_model.specs.declared.tab.Freer.{Freer}
use Rattle.core_model.specs.declared.tab.Reader.{Reader}
use Rattle.core_model.specs.declared.tab.Tab.{Tab}
use Rattle.core_model.specs.declared.tab.Tab.TheVariants.{Free, Freeing, Last, Reading, Retreating, Writing}
use Rattle.core_model.specs.declared.moves.Move.{Move}
use Rattle.core_model.specs.declared.view.Place.{Place}
use Rattle.core_model.specs.declared.view.Place.TheVariants.{Link}
use Rattle.core_model.specs.declared.view.View.{View}
use Rattle.core_model.specs.Anchors.{TabStands}
use Rattle.core_model.specs.Chains.{rest_of, slots_of_link}
use Rattle.core_model.specs.Layout.{Setting, word_in}
use Rattle.core_model.specs.SlotMoves.{IsFront, IsNext, MayLoosen, MayPublish, MayReserve}
use Rattle.core_model.specs.Sound.{Sound}
use Rattle.core_model.specs.State.{State, chain_of}
use Rattle.core_model.specs.Steps.{number_found}
use Rattle.core_model.specs.Table.{MayStep, place}
use Rattle.core_model.specs.Tabs.{IsPass, OfFreer, OfReader, OfWriter, inner, tab_at, anchor_of}
use Rattle.core_model.proofs.FollowsKept.{at_times}
use Rattle.core_model.proofs.Lists.{cons_contains, contains_none}
use Rattle.core_model.proofs.ReservesKept.{of_freer, of_writer, tab_was}
use Rattle.core_model.proofs.Tabs.{times_contains}
use Rattle.core_alone.specs.Alone.{IsTabAt, KnowsAlone, KnowsWord, StandsAlone, has_word}
use Rattle.core_alone.proofs.Finding.{has_tabs}
use Rattle.core_alone.proofs.Spelling.{end_known}

named_by : (x : ℕ) (e : LinkOf) → Contains (slots_of_link e) x → e ≡ Next x
named_by x NotWritten c = absurd (contains_none x c)
named_by x LastLink c = absurd (contains_none x c)
named_by x (Next y) c = ap Next (only (cons_contains y x [] c))
  where
    only : (y ≡ x) ⊎ Contains [] x → y ≡ x
    only (inl e) = e
    only (inr none) = absurd (contains_none x none)

front_in : (x : ℕ) (slots : List ℕ) → slots ≡ x ∷ rest_of slots → Contains slots x
front_in x slots e = subst (λ (z : List ℕ). Contains z x) (sym e) (0, omega arith, refl)

module _ {X : Type 0} (left : ℕ → ℕ → Bool) (k : Setting X) (s : State X) (i : ℕ) (v : View X) (so : Sound k s)
    (alone : StandsAlone left k s) (at : get_elem? s.views i ≡ some v) (a : ℕ) (is : left v.pass a ≡ true) (pass : IsPass v) where
  mine : KnowsAlone left k s v
  mine = alone.each i v at (has_tabs v pass)

  there : (t : ℕ) (x : Tab X) → t ≤ inner → tab_at v t ≡ x → get_elem? v.tabs t ≡ some x
  there t x le e = tab_was k s i v so.anchors so.slots at pass t x le e

  -- the first slot that a tab has yet to take out of a chain
  front_known : (t slot : ℕ) (f : Freer X) → t ≤ inner → tab_at v t ≡ Freeing f → IsTabAt (tab_at v t) a → IsFront slot f
      → KnowsWord k s v (Link slot)
  front_known t slot f le e is_at front = mine.held t a slot (Freeing f) (there t (Freeing f) le e)
      (subst (λ (z : Tab X). IsTabAt z a) e is_at) is (front_in slot f.rest front)

  -- the slot at the place of a tab that reads
  next_known : (t slot : ℕ) (r : Reader X) → get_elem? v.tabs t ≡ some (Reading r) → r.anchor ≡ a → IsNext s slot r
      → KnowsWord k s v (Link slot)
  next_known t slot r was e next = by_part (Contains-append_cases (chain_of s r.anchor).slots (slots_of_link (chain_of s r.anchor).end) slot
      (times_contains slot ((chain_of s r.anchor).slots ++ slots_of_link (chain_of s r.anchor).end)
      (at_times ((chain_of s r.anchor).slots ++ slots_of_link (chain_of s r.anchor).end) r.place slot next)))
    where
      stands : TabStands k s v t (Reading r)
      stands = so.anchors.tabs i v at t (Reading r) was

      own : left v.pass r.anchor ≡ true
      own = subst (λ (z : ℕ). left v.pass z ≡ true) (sym e) is

      by_part : Contains (chain_of s r.anchor).slots slot ⊎ Contains (slots_of_link (chain_of s r.anchor).end) slot
          → KnowsWord k s v (Link slot)
      by_part (inl c) =
          mine.links r.anchor slot stands.0 own (Contains-append_left (chain_of s r.anchor).slots (chain_of s r.anchor).tail slot c)
      by_part (inr c) = end_known left k s i v so at (has_tabs v pass) alone r.anchor stands.0 own slot
          (named_by slot (chain_of s r.anchor).end c) stands.1.from stands.1.to

  pub publish_finds : (t slot : ℕ) (link : LinkOf) → MayStep k s v (Publish t slot link) → IsTabAt (tab_at v t) a
      → KnowsWord k s v (Link slot)
  publish_finds t slot link may is_at = let q = of_writer (MayPublish k s slot link) (tab_at v t) may.allowed.1 in
      mine.held t a slot (Writing q.0) (there t (Writing q.0) (let z = may.allowed.0 in omega arith) q.1)
      (subst (λ (z : Tab X). IsTabAt z a) q.1 is_at) is (front_in slot q.0.reserved q.2.first)

  -- the slot is one of the inner tab, whichever tab is to have it
  pub loosen_finds : (t slot : ℕ) → MayStep k s v (Loosen t slot) → IsTabAt (tab_at v inner) a → KnowsWord k s v (Link slot)
  loosen_finds t slot may is_at = by_tab may.allowed.1
    where
      only_inner : (f : Freer X) → tab_at v t ≡ Freeing f → t ≡ inner
      only_inner f e = (so.anchors.tabs i v at t (Freeing f) (there t (Freeing f) may.allowed.0 e)).1

      by_tab : OfFreer (MayLoosen slot) (tab_at v t) ⊎
          (OfWriter MayReserve (tab_at v t) × OfFreer (λ f. MayLoosen slot f × (f.is_freeing ≡ true)) (tab_at v inner))
          → KnowsWord k s v (Link slot)
      by_tab (inl h) = let q = of_freer (MayLoosen slot) (tab_at v t) h in
          front_known inner slot q.0 (omega arith) (ap (tab_at v) (sym (only_inner q.0 q.1)) ∙ q.1) is_at q.2.0
      by_tab (inr h) = let q = of_freer (λ f. MayLoosen slot f × (f.is_freeing ≡ true)) (tab_at v inner) h.1 in
          front_known inner slot q.0 (omega arith) q.1 is_at q.2.0.0

  pub look_finds : (t slot : ℕ) → MayStep k s v (GetLink t slot) → IsTabAt (tab_at v t) a → KnowsWord k s v (Link slot)
  look_finds t slot may is_at = by_tab (tab_at v t) refl may.allowed.1 is_at
    where
      by_tab : (x : Tab X) → tab_at v t ≡ x → OfReader (IsNext s slot) x ⊎ OfFreer (IsFront slot) x → IsTabAt x a
          → KnowsWord k s v (Link slot)
      by_tab (Reading r) e (inl next) here = next_known t slot r (there t (Reading r) may.allowed.0 e) here next
      by_tab (Freeing f) e (inr front) here = front_known t slot f may.allowed.0 e is_at front
      by_tab (Reading r) e (inr h) here = absurd h
      by_tab (Freeing f) e (inl h) here = absurd h
      by_tab Free e h here = absurd here
      by_tab (Retreating b) e h here = absurd (⊎_elim (λ (z : ⊥). z) (λ (z : ⊥). z) h)
      by_tab (Writing w) e h here = absurd (⊎_elim (λ (z : ⊥). z) (λ (z : ⊥). z) h)
      by_tab (Last b) e h here = absurd (⊎_elim (λ (z : ⊥). z) (λ (z : ⊥). z) h)

-- Where every anchor is left to the pass, as where a store has one, each step on a link finds what the pass has.
module _ {X : Type 0} (left : ℕ → ℕ → Bool) (k : Setting X) (s : State X) (i : ℕ) (v : View X) (so : Sound k s)
    (alone : StandsAlone left k s) (at : get_elem? s.views i ≡ some v) (all : (a : ℕ) → left v.pass a ≡ true) where
  slot_is : (x slot : ℕ) → ◌≡◌ {A = Option Place} (Some (Link x)) (Some (Link slot)) → x ≡ slot
  slot_is x slot e = ap link_slot e
    where
      link_slot : Option Place → ℕ
      link_slot (Some (Link n)) = n
      link_slot o = x

  -- a tab that is not free is at its anchor
  at_its_anchor : (x : Tab X) → (x ≡ Free → ⊥) → IsTabAt x (anchor_of x)
  at_its_anchor Free ne = absurd (ne refl)
  at_its_anchor (Retreating a) ne = refl
  at_its_anchor (Reading r) ne = refl
  at_its_anchor (Writing w) ne = refl
  at_its_anchor (Last a) ne = refl
  at_its_anchor (Freeing f) ne = refl

  publishing : (t x : ℕ) (link : LinkOf) → MayStep k s v (Publish t x link) → KnowsWord k s v (Link x)
  publishing t x link may =
      publish_finds left k s i v so alone at (anchor_of (tab_at v t)) (all (anchor_of (tab_at v t))) may.pass t x link may
      (at_its_anchor (tab_at v t) (λ e. subst (OfWriter (MayPublish k s x link)) e may.allowed.1))

  loosening : (t x : ℕ) → MayStep k s v (Loosen t x) → KnowsWord k s v (Link x)
  loosening t x may = loosen_finds left k s i v so alone at (anchor_of (tab_at v inner)) (all (anchor_of (tab_at v inner))) may.pass t x may
      (at_its_anchor (tab_at v inner) (inner_used may.allowed.1))
    where
      only_inner : (f : Freer X) → tab_at v t ≡ Freeing f → t ≡ inner
      only_inner f e =
          (so.anchors.tabs i v at t (Freeing f) (tab_was k s i v so.anchors so.slots at may.pass t (Freeing f) may.allowed.0 e)).1

      inner_used : OfFreer (MayLoosen x) (tab_at v t)
          ⊎ (OfWriter MayReserve (tab_at v t) × OfFreer (λ f. MayLoosen x f × (f.is_freeing ≡ true)) (tab_at v inner))
          → tab_at v inner ≡ Free → ⊥
      inner_used (inl h) e = let q = of_freer (MayLoosen x) (tab_at v t) h in
          subst (OfFreer (MayLoosen x)) (ap (tab_at v) (only_inner q.0 q.1) ∙ e) h
      inner_used (inr h) e = subst (OfFreer (λ f. MayLoosen x f × (f.is_freeing ≡ true))) e h.1

  looking : (t x : ℕ) → MayStep k s v (GetLink t x) → KnowsWord k s v (Link x)
  looking t x may = look_finds left k s i v so alone at (anchor_of (tab_at v t)) (all (anchor_of (tab_at v t))) may.pass t x may
      (at_its_anchor (tab_at v t) (λ e. ⊎_elim (λ (z : ⊥). z) (λ (z : ⊥). z)
      (subst (λ (y : Tab X). OfReader (IsNext s x) y ⊎ OfFreer (IsFront x) y) e may.allowed.1)))

  pub link_found : (m : Move) (slot : ℕ) → MayStep k s v m → place v m ≡ Some (Link slot) → number_found k s v m ≡ has_word k v (Link slot)
  link_found (Publish t x link) slot may is =
      subst (λ (n : ℕ). word_in k s.words (Link x) ≡ has_word k v (Link n)) (slot_is x slot is) (publishing t x link may)
  link_found (Loosen t x) slot may is =
      subst (λ (n : ℕ). word_in k s.words (Link x) ≡ has_word k v (Link n)) (slot_is x slot is) (loosening t x may)
  link_found (GetLink t x) slot may is =
      subst (λ (n : ℕ). word_in k s.words (Link x) ≡ has_word k v (Link n)) (slot_is x slot is) (looking t x may)
  link_found m slot may is = cc
