-- What a step makes of words of which others speak: it leaves those at anchors to which its pass may not come, and the links of slots
-- that are not its own.
use Rattle.std.proofs.Common.{◌≡◌, ◌≢◌, ◌⊎◌, inl, inr, ⊎_elim, ℕ, ◌/◌, ◌<◌, Option, Some, None, sym, refl, ap, ◌∙◌, subst, arith, true, false, List, ◌∷◌, Contains}
use mathlib.Core.Option.{some}
use lib.ListN.{get_elem?}
use Rattle.core_model.specs.declared.moves.Move.{Move}
use Rattle.core_model.specs.declared.moves.Move.TheVariants.{Enter, Leave, Draw, Take, Evict, Raise, Doom, StoreSide, Own, Disown, LogPiece, Publish, Loosen, GetLink, TryTurn, EndTurn}
use Rattle.core_model.specs.declared.spot.Spot.{Spot}
use Rattle.core_model.specs.declared.spot.Spot.TheVariants.{Chained, Free as FreeSpot, Loose, Reserved, Resting}
use Rattle.core_model.specs.declared.tab.Freer.{Freer}
use Rattle.core_model.specs.declared.tab.Writer.{Writer}
use Rattle.core_model.specs.declared.tab.Tab.{Tab}
use Rattle.core_model.specs.declared.tab.Tab.TheVariants.{Free, Retreating, Reading, Writing, Last, Freeing}
use Rattle.core_model.specs.declared.view.Place.{Place}
use Rattle.core_model.specs.declared.view.Place.TheVariants.{Anchor, Beside, Counter, Link, LogCounter, Map, Turn}
use Rattle.core_model.specs.declared.view.View.{View}
use Rattle.core_model.specs.AnchorMoves.{MayEnd, MayRaise, StartsRight}
use Rattle.core_model.specs.SlotMoves.{MayLoosen, MayPublish, MayReserve, MayStore}
use Rattle.core_model.specs.Chains.{rest_of}
use Rattle.core_model.specs.Layout.{Setting, index, word_in}
use Rattle.core_model.specs.Sound.{Sound}
use Rattle.core_model.specs.State.{State}
use Rattle.core_model.specs.Spots.{IsIn}
use Rattle.core_model.specs.Steps.{after, number_found}
use Rattle.core_model.specs.Table.{Allowed, MayStep, left_by, place}
use Rattle.core_model.specs.Tabs.{anchor_of, inner, is_counted, is_reading, tab_at, OfFreer, OfWriter}
use Rattle.core_model.proofs.OneSpot.{one_spot}
use Rattle.core_model.proofs.ReservesKept.{of_freer, of_writer, tab_was}
use Rattle.core_model.proofs.Places.{beside_inside, side_below}
use Rattle.core_alone.proofs.Following.{stays}
use Rattle.core_alone.proofs.Linking.{OffLinks, far_place, far_from_links}
use Rattle.core_alone.proofs.Tabbing.{TabsHave, TabHas, has_there}

-- of an anchor on whose word, or on a word beside it, a step is
abbrev pub OfAnchor : (ℕ → Type 0) → Option Place → Type 0
OfAnchor A (Some (Anchor a)) = A a
OfAnchor A (Some (Beside side a)) = A a
OfAnchor A o = Unit {0}

-- the place is the word of the anchor a, or beside it
abbrev pub IsOf : Place → ℕ → Type 0
IsOf (Anchor b) a = b ≡ a
IsOf (Beside side b) a = b ≡ a
IsOf p a = ⊥

module _ {X : Type 0} (k : Setting X) where
  same_of : (p q : Place) (a : ℕ) → a < k.anchors → IsOf q a → index k p ≡ index k q → IsOf p a
  same_of p (Anchor b) a lt is e = of_anchor p (e ∙ ap (λ (z : ℕ). index k (Anchor z)) is)
    where
      of_anchor : (p : Place) → index k p ≡ index k (Anchor a) → IsOf p a
      of_anchor (Anchor b) e = omega arith
      of_anchor (Beside side b) e = absurd (let h = side_below side in omega arith)
      of_anchor (Map x) e = absurd (omega arith)
      of_anchor (Link x) e = absurd (omega arith)
      of_anchor (Turn x) e = absurd (omega arith)
      of_anchor Counter e = absurd (omega arith)
      of_anchor LogCounter e = absurd (omega arith)
  same_of p (Beside other b) a lt is e = of_side p (e ∙ ap (λ (z : ℕ). index k (Beside other z)) is)
    where
      of_side : (p : Place) → index k p ≡ index k (Beside other a) → IsOf p a
      of_side (Anchor b) e = absurd (let h = side_below other in omega arith)
      of_side (Beside side b) e = let h = side_below side in let j = side_below other in omega arith
      of_side (Map x) e = absurd (let h = beside_inside k other a lt in omega arith)
      of_side (Link x) e = absurd (let h = beside_inside k other a lt in omega arith)
      of_side (Turn x) e = absurd (let h = beside_inside k other a lt in omega arith)
      of_side Counter e = absurd (let h = beside_inside k other a lt in omega arith)
      of_side LogCounter e = absurd (let h = beside_inside k other a lt in omega arith)
  same_of p (Map x) a lt is e = absurd is
  same_of p (Link x) a lt is e = absurd is
  same_of p (Turn x) a lt is e = absurd is
  same_of p Counter a lt is e = absurd is
  same_of p LogCounter a lt is e = absurd is

-- to such an anchor the pass comes
abbrev pub ComesTo : (ℕ → Type 0) → Move → Type 0
ComesTo A (Enter t a) = A a
ComesTo A (Take t a version) = A a
ComesTo A (Evict t a) = A a
ComesTo A m = Unit {0}

module _ {X : Type 0} (A : ℕ → Type 0) (B : ℕ → ℕ → Type 0) where
  counted_at : (x : Tab X) → is_counted x ≡ true → TabHas A B x → A (anchor_of x)
  counted_at Free c h = cc
  counted_at (Retreating a) c h = h
  counted_at (Reading r) c h = h
  counted_at (Writing w) c h = cc
  counted_at (Last a) c h = cc
  counted_at (Freeing f) c h = cc

  reading_at : (x : Tab X) → is_reading x ≡ true → TabHas A B x → A (anchor_of x)
  reading_at Free c h = cc
  reading_at (Retreating a) c h = cc
  reading_at (Reading r) c h = h
  reading_at (Writing w) c h = cc
  reading_at (Last a) c h = cc
  reading_at (Freeing f) c h = cc

  pub raising_at : (P : Writer X → Type 0) (Q : Freer X → Type 0) (x : Tab X) → OfWriter P x ⊎ OfFreer Q x → TabHas A B x → A (anchor_of x)
  raising_at P Q Free o h = absurd (⊎_elim (λ (z : ⊥). z) (λ (z : ⊥). z) o)
  raising_at P Q (Retreating a) o h = absurd (⊎_elim (λ (z : ⊥). z) (λ (z : ⊥). z) o)
  raising_at P Q (Reading r) o h = absurd (⊎_elim (λ (z : ⊥). z) (λ (z : ⊥). z) o)
  raising_at P Q (Writing w) o h = h.0
  raising_at P Q (Last a) o h = absurd (⊎_elim (λ (z : ⊥). z) (λ (z : ⊥). z) o)
  raising_at P Q (Freeing f) o h = h.0

  pub writing_at : (P : Writer X → Type 0) (x : Tab X) → OfWriter P x → TabHas A B x → A (anchor_of x)
  writing_at P Free o h = absurd o
  writing_at P (Retreating a) o h = absurd o
  writing_at P (Reading r) o h = absurd o
  writing_at P (Writing w) o h = h.0
  writing_at P (Last a) o h = absurd o
  writing_at P (Freeing f) o h = absurd o

  module _ (k : Setting X) (s : State X) (v : View X) (all : TabsHave A B v.tabs) where
    -- A step leaves its word as it found it, or comes to such an anchor.
    pub touched : (m : Move) → Allowed k s v m → ComesTo A m
        → (left_by v m (number_found k s v m) ≡ number_found k s v m) ⊎ OfAnchor A (place v m)
    touched Draw may come = inr tt
    touched (Own t slot) may come = inr tt
    touched (Disown t slot) may come = inr tt
    touched (LogPiece t slot durable) may come = inr tt
    touched (Publish t slot link) may come = inr tt
    touched (Loosen t slot) may come = inr tt
    touched (TryTurn t slot) may come = inr tt
    touched (EndTurn t slot then) may come = inr tt
    touched (Enter t a) may come = inr come
    touched (Leave t) may come = inr (counted_at (tab_at v t) may.1 (has_there A B v.tabs t all))
    touched (Take t a u) may come = inr come
    touched (Evict t a) may come = inr come
    touched (Raise t to) may come =
        inr (raising_at (λ w. MayRaise w to × StartsRight k s w) (λ f. MayEnd f to) (tab_at v t) may.1 (has_there A B v.tabs t all))
    touched (Doom t) may come = inr (reading_at (tab_at v t) may.1 (has_there A B v.tabs t all))
    touched (StoreSide t side value) may come =
        inr (writing_at (λ w. (w.is_appending ≡ false) × MayStore k w side value) (tab_at v t) may.2 (has_there A B v.tabs t all))
    touched m may come = inl refl

    -- A word at an anchor to which it does not come stays.
    pub anchor_stays : (i : ℕ) → Sound k s → get_elem? s.views i ≡ some v → (m : Move) → (may : MayStep k s v m) → ComesTo A m → (a : ℕ)
        → a < k.anchors → (A a → ⊥) → (q : Place) → IsOf q a
        → word_in k (after k s i v m).words q ≡ word_in k s.words q
    anchor_stays i so at m may come a lt never q of =
        stays k s i v so at m may q (λ p is e. ⊎_elim (λ (same : left_by v m (number_found k s v m) ≡ number_found k s v m). same)
        (λ (h : OfAnchor A (place v m)). absurd (never (found_there p (subst (OfAnchor A) is h) (same_of k p q a lt of e))))
        (touched m may.allowed come))
      where
        found_there : (p : Place) → OfAnchor A (Some p) → IsOf p a → A a
        found_there (Anchor b) h is = subst A is h
        found_there (Beside side b) h is = subst A is h
        found_there (Map x) h is = absurd is
        found_there (Link x) h is = absurd is
        found_there (Turn x) h is = absurd is
        found_there Counter h is = absurd is
        found_there LogCounter h is = absurd is

-- where the word of a place stands, if there is one
abbrev pub index_if : {X : Type 0} → Setting X → Option Place → ℕ
index_if k (Some p) = index k p
index_if k None = 0

-- a spot of a slot that is not the pass's: in a chain, or at a tab of another one
abbrev pub IsOthers : ℕ → Spot → Type 0
IsOthers i (Chained a) = Unit {0}
IsOthers i (Reserved j t) = j ≢ i
IsOthers i (Resting j t) = j ≢ i
IsOthers i spot = ⊥

module _ {X : Type 0} (k : Setting X) (s : State X) (i : ℕ) (v : View X) (so : Sound k s) (at : get_elem? s.views i ≡ some v) where
  -- a spot at a tab of the pass
  abbrev IsOwn : Spot → Type 0
  IsOwn (Reserved j t) = j ≡ i
  IsOwn (Resting j t) = j ≡ i
  IsOwn spot = ⊥

  abbrev IsOwnSlot : ℕ → Type 0
  IsOwnSlot x = (y : Spot) × IsIn k s x y × IsOwn y

  apart : (slot : ℕ) → slot < k.slots → (y : Spot) → IsIn k s slot y → IsOthers i y → IsOwnSlot slot → ⊥
  apart slot lt y is others own =
      differ y own.0 (let o = one_spot k s so.anchors.shaped so.slots slot lt in o.only y is ∙ sym (o.only own.0 own.1)) others own.2
    where
      differ : (y z : Spot) → y ≡ z → IsOthers i y → IsOwn z → ⊥
      differ y (Reserved j t) e h own = subst (IsOthers i) e h own
      differ y (Resting j t) e h own = subst (IsOthers i) e h own
      differ y (Chained a) e h own = own
      differ y FreeSpot e h own = own
      differ y (Loose j t) e h own = own

  front_there : (x : ℕ) (rest : List ℕ) (tail : List ℕ) → rest ≡ x ∷ tail → Contains rest x
  front_there x rest tail e = subst (λ (z : List ℕ). Contains z x) (sym e) (0, omega arith, refl)

  -- the slot on whose link the step is, where it may change it
  published_own : (t x : ℕ) (link : _) → MayStep k s v (Publish t x link) → IsOwnSlot x
  published_own t x link may = let q = of_writer (MayPublish k s x link) (tab_at v t) may.allowed.1 in (
    Reserved i t,
    (
      q.0,
      record {
        view = v;
        at = at;
        there = tab_was k s i v so.anchors so.slots at may.pass t (Writing q.0)
            (let z = may.allowed.0 in omega arith) q.1;
      },
      front_there x q.0.reserved (rest_of q.0.reserved) q.2.first,
    ),
    refl,
  )

  loosened_own : (t x : ℕ) → MayStep k s v (Loosen t x) → IsOwnSlot x
  loosened_own t x may = ⊎_elim
      (λ (h : OfFreer (MayLoosen x) (tab_at v t)). let f = of_freer (MayLoosen x) (tab_at v t) h in (
        Resting i t,
        (
          f.0,
          record {
            view = v;
            at = at;
            there = tab_was k s i v so.anchors so.slots at may.pass t
                (Freeing f.0) may.allowed.0 f.1;
          },
          front_there x f.0.rest (rest_of f.0.rest) f.2.0,
        ),
        refl,
      ))
      (λ (h : OfWriter MayReserve (tab_at v t) × OfFreer (λ f. MayLoosen x f × (f.is_freeing ≡ true)) (tab_at v inner)). let f = of_freer
      (λ f. MayLoosen x f × (f.is_freeing ≡ true)) (tab_at v inner) h.1 in (
        Resting i inner,
        (
          f.0,
          record {
            view = v;
            at = at;
            there = tab_was k s i v so.anchors so.slots at may.pass inner (Freeing f.0)
                (omega arith) f.1;
          },
          front_there x f.0.rest (rest_of f.0.rest) f.2.0.0,
        ),
        refl,
      ))
      may.allowed.1

  -- The link of a slot that is not the pass's own stays.
  pub others_link : (m : Move) (may : MayStep k s v m) (slot : ℕ) → slot < k.slots → (y : Spot) → IsIn k s slot y → IsOthers i y
      → word_in k (after k s i v m).words (Link slot) ≡ word_in k s.words (Link slot)
  others_link m may slot lt y is others = stays k s i v so at m may (Link slot) (left_same m may)
    where
      off : (m : Move) → MayStep k s v m → OffLinks m → (p : Place) → place v m ≡ Some p → index k p ≡ index k (Link slot)
          → left_by v m (number_found k s v m) ≡ number_found k s v m
      off m may row p there e = absurd (far_place k (place v m) slot lt (far_from_links k s i v so at m may row) p there e)

      same_slot : (x : ℕ) (p : Place) → ◌≡◌ {A = Option Place} (Some (Link x)) (Some p) → index k p ≡ index k (Link slot) → x ≡ slot
      same_slot x p there e = let q : index k (Link x) ≡ index k (Link slot) = subst
          (λ (o : Option Place). index_if k o ≡ index k (Link slot)) (sym there) e in
          omega arith

      not_own : (x : ℕ) → IsOwnSlot x → (p : Place) → ◌≡◌ {A = Option Place} (Some (Link x)) (Some p) → index k p ≡ index k (Link slot) → ⊥
      not_own x own p there e = apart slot lt y is others (subst IsOwnSlot (same_slot x p there e) own)

      left_same : (m : Move) → MayStep k s v m → (p : Place) → place v m ≡ Some p → index k p ≡ index k (Link slot)
          → left_by v m (number_found k s v m) ≡ number_found k s v m
      left_same (Own t x) may p there e = absurd (far_place k (Some (Map (x / 64))) slot lt tt p there e)
      left_same (Publish t x link) may p there e = absurd (not_own x (published_own t x link may) p there e)
      left_same (Loosen t x) may p there e = absurd (not_own x (loosened_own t x may) p there e)
      left_same (GetLink t x) may p there e = refl
      left_same m may p there e = off m may tt p there e
