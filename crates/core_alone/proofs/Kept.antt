-- A step of any pass keeps what passes know of the anchors that are left to them.
use Rattle.std.proofs.Common.{◌≡◌, ◌≢◌, inl, inr, ⊎_elim, ℕ, ◌<◌, List, [], ◌++◌, Bool, true, sym, refl, ap, ◌∙◌, subst, Contains}
use mathlib.Core.Option.{some, some-ne-none}
use lib.ListN.{get_elem?}
use Rattle.core_model.specs.declared.chain.Chain.{Chain}
use Rattle.core_model.specs.declared.moves.Move.{Move}
use Rattle.core_model.specs.declared.moves.Move.TheVariants.{Enter, Take, Evict, Own, Loosen}
use Rattle.core_model.specs.declared.spot.Spot.{Spot}
use Rattle.core_model.specs.declared.spot.Spot.TheVariants.{Chained}
use Rattle.core_model.specs.declared.tab.Tab.{Tab}
use Rattle.core_model.specs.declared.tab.Tab.TheVariants.{Free, Retreating, Reading, Writing, Last, Freeing}
use Rattle.core_model.specs.declared.view.Place.TheVariants.{Anchor, Beside, Link}
use Rattle.core_model.specs.declared.view.View.{View}
use Rattle.core_model.specs.Holders.{IsTab}
use Rattle.core_model.specs.Layout.{Setting}
use Rattle.core_model.specs.Sound.{Sound}
use Rattle.core_model.specs.Spots.{IsIn}
use Rattle.core_model.specs.State.{State, chain_of}
use Rattle.core_model.specs.Steps.{after, finding, view_after}
use Rattle.core_model.specs.Table.{MayStep}
use Rattle.core_alone.specs.Alone.{ComesRight, HoldsSlot, IsLeftTo, IsTabAt, KnowsAlone, KnowsWord, MayCome, StandsAlone}
use Rattle.core_alone.proofs.Chaining.{Becomes, Grows, HasReserved, chain_becomes}
use Rattle.core_alone.proofs.Finding.{has_tabs}
use Rattle.core_alone.proofs.Following.{follows}
use Rattle.core_alone.proofs.Others.{ComesTo, IsOthers, anchor_stays, others_link}
use Rattle.core_alone.proofs.Inside.{chained_inside, tab_slot_inside, tab_spot}
use Rattle.core_alone.proofs.Linking.{link_follows, loosen_fresh, own_fresh}
use Rattle.core_alone.proofs.Tabbing.{TabsHave, TabHas, News, tabs_have}
use Rattle.core_alone.proofs.Views.{ViewWas, view_was}

module _ {X : Type 0} (left : ℕ → ℕ → Bool) (k : Setting X) (s : State X) (i : ℕ) (v : View X) (m : Move) (so : Sound k s)
    (at : get_elem? s.views i ≡ some v) (may : MayStep k s v m) (alone : StandsAlone left k s) (come : ComesRight left s i m) where
  abbrev t : State X
  t = after k s i v m

  abbrev w : View X
  w = view_after v m (finding k s v m)

  some_tabs : v.tabs ≢ []
  some_tabs = has_tabs v may.pass

  mine : KnowsAlone left k s v
  mine = alone.each i v at some_tabs

  -- where tabs of the pass may be, and what holds then of a slot of theirs
  abbrev A : ℕ → Type 0
  A a = MayCome left s i a

  abbrev Known : ℕ → Type 0
  Known slot = KnowsWord k t w (Link slot)

  abbrev B : ℕ → ℕ → Type 0
  B a slot = left v.pass a ≡ true → Known slot

  known : (slot : ℕ) → slot < k.slots → KnowsWord k s v (Link slot) → Known slot
  known slot lt h = link_follows k s i v so at m may slot lt h

  at_tab : (u a : ℕ) (x : Tab X) → get_elem? v.tabs u ≡ some x → IsTabAt x a → A a
  at_tab u a x there is = λ j z zat owns. sym (alone.apart j i u a z x zat owns record { view = v; at = at; there = there } is)

  tabs_had : TabsHave A B v.tabs
  tabs_had u Free there = tt
  tabs_had u (Retreating a) there = at_tab u a (Retreating a) there refl
  tabs_had u (Reading r) there = at_tab u r.anchor (Reading r) there refl
  tabs_had u (Writing x) there = (
    at_tab u x.anchor (Writing x) there refl,
    λ slot c is. known slot (tab_slot_inside k s so i v at u slot (Writing x) there c)
        (mine.held u x.anchor slot (Writing x) there refl is c),
  )
  tabs_had u (Last a) there = at_tab u a (Last a) there refl
  tabs_had u (Freeing f) there = (
    at_tab u f.anchor (Freeing f) there refl,
    λ slot c is. known slot (tab_slot_inside k s so i v at u slot (Freeing f) there c)
        (mine.held u f.anchor slot (Freeing f) there refl is c),
  )

  comes_to : (m : Move) → ComesRight left s i m → ComesTo A m
  comes_to (Enter u a) h = h
  comes_to (Take u a version) h = h
  comes_to (Evict u a) h = h
  comes_to m h = tt

  old_chain : (a slot : ℕ) → a < k.anchors → left v.pass a ≡ true → Contains ((chain_of s a).slots ++ (chain_of s a).tail) slot → Known slot
  old_chain a slot lt is c = known slot (chained_inside k s so a slot lt c) (mine.links a slot lt is c)

  -- A chain that it takes is at an anchor of the table.
  news : (n : Move) → n ≡ m → News A B k s v tabs_had n
  news (Enter u a) e = subst (ComesTo A) (sym e) (comes_to m come)
  news (Take u a version) e = let may_take = subst (λ (z : Move). MayStep k s v z) (sym e) may in
      (subst (ComesTo A) (sym e) (comes_to m come), λ slot c is. old_chain a slot may_take.allowed.0 is c)
  news (Evict u a) e = let may_evict = subst (λ (z : Move). MayStep k s v z) (sym e) may in
      (subst (ComesTo A) (sym e) (comes_to m come), λ slot c is. old_chain a slot may_evict.allowed.0 is c)
  news (Own u slot) e = λ zero_ a is. subst (λ (z : Move). KnowsWord k (after k s i v z) (view_after v z (finding k s v z)) (Link slot)) e
      (own_fresh k s i v so at u slot (subst (λ (z : Move). MayStep k s v z) (sym e) may) zero_)
  news (Loosen u slot) e = λ a is. subst (λ (z : Move). KnowsWord k (after k s i v z) (view_after v z (finding k s v z)) (Link slot)) e
      (loosen_fresh k s i v so at u slot (subst (λ (z : Move). MayStep k s v z) (sym e) may))
  news n e = tt

  -- The tabs of the pass after the step.
  tabs_now : TabsHave A B w.tabs
  tabs_now = tabs_have A B k s v tabs_had m may.allowed (news m refl)

  may_come_at : (a : ℕ) (x : Tab X) → TabHas A B x → IsTabAt x a → A a
  may_come_at a Free h is = absurd is
  may_come_at a (Retreating b) h is = subst A is h
  may_come_at a (Reading r) h is = subst A is h
  may_come_at a (Writing x) h is = subst A is h.0
  may_come_at a (Last b) h is = subst A is h
  may_come_at a (Freeing f) h is = subst A is h.0

  slot_known : (a slot : ℕ) (x : Tab X) → TabHas A B x → IsTabAt x a → HoldsSlot x slot → left v.pass a ≡ true → Known slot
  slot_known a slot (Writing x) h is c owned = h.1 slot c (subst (λ (z : ℕ). left v.pass z ≡ true) (sym is) owned)
  slot_known a slot (Freeing f) h is c owned = h.1 slot c (subst (λ (z : ℕ). left v.pass z ≡ true) (sym is) owned)
  slot_known a slot Free h is c owned = absurd c
  slot_known a slot (Retreating b) h is c owned = absurd c
  slot_known a slot (Reading r) h is c owned = absurd c
  slot_known a slot (Last b) h is c owned = absurd c

  chain_now : (a : ℕ) → a < k.anchors → Becomes k s i v so at A B tabs_had a (chain_of t a)
  chain_now a lt = chain_becomes k s i v so at A B tabs_had m may (comes_to m come) a lt

  own_link : (a slot : ℕ) → a < k.anchors → left v.pass a ≡ true → Contains ((chain_of t a).slots ++ (chain_of t a).tail) slot → Known slot
  own_link a slot lt is c = ⊎_elim
      (λ (e : chain_of t a ≡ chain_of s a). old_chain a slot lt is (subst (λ (z : Chain). Contains (z.slots ++ z.tail) slot) e c))
      (λ (q : A a × Grows k s i v so at a (chain_of t a)). ⊎_elim
      (λ (h : Contains ((chain_of s a).slots ++ (chain_of s a).tail) slot). old_chain a slot lt is h)
      (λ (h : HasReserved k s i v so at a slot). known slot (tab_slot_inside k s so i v at h.t slot (Writing h.writer) h.there h.reserved)
      (mine.held h.t a slot (Writing h.writer) h.there h.anchor_is is h.reserved))
      (q.1 slot c))
      (chain_now a lt)

  own_knows : KnowsAlone left k t w
  own_knows = record {
    word = λ a lt is. follows k s i v so at m may (Anchor a) (mine.word a lt is);
    sides = λ side a lt is. follows k s i v so at m may (Beside side a) (mine.sides side a lt is);
    links = λ a slot lt is c. own_link a slot lt is c;
    held = λ u a slot x there is_at is c. slot_known a slot x (tabs_now u x there) is_at c is;
  }

  -- Another pass.
  module _ (j : ℕ) (u : View X) (ne : j ≢ i) (uat : get_elem? s.views j ≡ some u) (tabs : u.tabs ≢ []) where
    theirs : KnowsAlone left k s u
    theirs = alone.each j u uat tabs

    never : (a : ℕ) → left u.pass a ≡ true → A a → ⊥
    never a is h = ne (h j u uat (tabs, is))

    their_chain : (a : ℕ) → a < k.anchors → left u.pass a ≡ true → chain_of t a ≡ chain_of s a
    their_chain a lt is = ⊎_elim (λ (e : chain_of t a ≡ chain_of s a). e)
        (λ (q : A a × Grows k s i v so at a (chain_of t a)). absurd (never a is q.0)) (chain_now a lt)

    their_link : (slot : ℕ) → slot < k.slots → (y : Spot) → IsIn k s slot y → IsOthers i y → KnowsWord k s u (Link slot)
        → KnowsWord k t u (Link slot)
    their_link slot lt y is others h = others_link k s i v so at m may slot lt y is others ∙ h

    their_held : (n a slot : ℕ) (x : Tab X) → get_elem? u.tabs n ≡ some x → IsTabAt x a → left u.pass a ≡ true → HoldsSlot x slot
        → KnowsWord k t u (Link slot)
    their_held n a slot x there is_at is c = let y = tab_spot k s so j u uat i n slot x ne there c in
        their_link slot (tab_slot_inside k s so j u uat n slot x there c) y.0 y.1 y.2 (theirs.held n a slot x there is_at is c)

    other_knows : KnowsAlone left k t u
    other_knows = record {
      word = λ a lt is. anchor_stays A B k s v tabs_had i so at m may (comes_to m come) a lt (never a is) (Anchor a) refl
          ∙ theirs.word a lt is;
      sides = λ side a lt is. anchor_stays A B k s v tabs_had i so at m may (comes_to m come) a lt (never a is) (Beside side a) refl
          ∙ theirs.sides side a lt is;
      links = λ a slot lt is c. let d = subst (λ (z : Chain). Contains (z.slots ++ z.tail) slot) (their_chain a lt is) c in
          their_link slot (chained_inside k s so a slot lt d) (Chained a) (lt, d) tt (theirs.links a slot lt is d);
      held = λ n a slot x there is_at is c. their_held n a slot x there is_at is c;
    }

  no_tab : (u : View X) → u.tabs ≡ [] → (n : ℕ) (x : Tab X) → get_elem? u.tabs n ≡ some x → ⊥
  no_tab u none n x e = absurd (some-ne-none x (sym (subst (λ (z : List (Tab X)). get_elem? z n ≡ some x) none e)))

  -- A view as it was: of which pass, and with which tabs.
  record Was (j : ℕ) (u : View X) : Type 0 where
    old : View X
    there : get_elem? s.views j ≡ some old
    pass : old.pass ≡ u.pass
    tabs : old.tabs ≢ []

  was_of : (j : ℕ) (u : View X) → u.tabs ≢ [] → ViewWas k s i v w j u → Was j u
  was_of j u some_ (inl q) = record {
    old = v;
    there = subst (λ (z : ℕ). get_elem? s.views z ≡ some v) (sym q.0) at;
    pass = ap View.pass
        (sym q.1);
    tabs = some_tabs;
  }
  was_of j u some_ (inr (inl r)) = record { old = u; there = r.1; pass = refl; tabs = some_ }
  was_of j u some_ (inr (inr none)) = absurd (some_ none)

  apart_now : (p q n a : ℕ) (u : View X) (tab : Tab X) → get_elem? t.views p ≡ some u → IsLeftTo left u a → IsTab t q n tab → IsTabAt tab a
      → q ≡ p
  apart_now p q n a u tab uat owns is is_at = by_view (view_was k s i v m q is.view is.at)
    where
      owner : Was p u
      owner = was_of p u owns.0 (view_was k s i v m p u uat)

      owned : IsLeftTo left owner.old a
      owned = (owner.tabs, subst (λ (z : ℕ). left z a ≡ true) (sym owner.pass) owns.1)

      by_view : ViewWas k s i v w q is.view → q ≡ p
      by_view (inl h) = h.0
          ∙ sym (may_come_at a tab (tabs_now n tab
          (subst (λ (z : View X). get_elem? z.tabs n ≡ some tab) h.1 is.there)) is_at p owner.old owner.there owned)
      by_view (inr (inl g)) =
          alone.apart p q n a owner.old tab owner.there owned record { view = is.view; at = g.1; there = is.there } is_at
      by_view (inr (inr none)) = absurd (no_tab is.view none n tab is.there)

  pub stands_after : StandsAlone left k t
  stands_after = record { apart = apart_now; each = λ j u uat tabs. knows_now j u tabs (view_was k s i v m j u uat) }
    where
      knows_now : (j : ℕ) (u : View X) → u.tabs ≢ [] → ViewWas k s i v w j u → KnowsAlone left k t u
      knows_now j u tabs (inl h) = subst (KnowsAlone left k t) (sym h.1) own_knows
      knows_now j u tabs (inr (inl g)) = other_knows j u g.0 g.1 tabs
      knows_now j u tabs (inr (inr none)) = absurd (tabs none)
