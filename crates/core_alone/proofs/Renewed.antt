-- What passes know of the anchors that are left to them stays known where views change by no step: notes come and go, a pass comes to have
-- seen more, or a tab has another cell in its hands.
use Rattle.std.proofs.Common.{◌≡◌, ◌≢◌, ◌⊎◌, inl, inr, ⊎_elim, ℕ, List, [], ◌∷◌, ◌++◌, set, Bool, true, cond, sym, refl, ap, ◌∙◌, subst}
use mathlib.Core.Option.{some, some-ne-none}
use lib.ListN.{get_elem?}
use Rattle.core_model.specs.declared.tab.Freer.{Freer}
use Rattle.core_model.specs.declared.tab.Hold.{Hold}
use Rattle.core_model.specs.declared.tab.Tab.{Tab}
use Rattle.core_model.specs.declared.tab.Tab.TheVariants.{Freeing, Writing}
use Rattle.core_model.specs.declared.tab.Turn.TheVariants.{Has}
use Rattle.core_model.specs.declared.tab.Writer.{Writer}
use Rattle.core_model.specs.declared.view.Item.{Item}
use Rattle.core_model.specs.declared.view.Kind.{Kind}
use Rattle.core_model.specs.declared.view.Kind.TheVariants.{Learned, Noted}
use Rattle.core_model.specs.declared.view.Place.TheVariants.{Anchor, Beside, Link}
use Rattle.core_model.specs.declared.view.Sight.{Sight}
use Rattle.core_model.specs.declared.view.View.{View}
use Rattle.core_model.specs.CellMoves.{note_of, spent}
use Rattle.core_model.specs.Deeds.{mirrored}
use Rattle.core_model.specs.Holders.{IsTab}
use Rattle.core_model.specs.Layout.{Setting, index}
use Rattle.core_model.specs.State.{State}
use Rattle.core_model.specs.TableForms.{learned_from, learns, noted_at, noted_behind, renewed, with_held, with_wiped}
use Rattle.core_model.proofs.Lists.{at_set}
use Rattle.core_alone.specs.Alone.{HoldsSlot, IsLeftTo, IsTabAt, StandsAlone, is_on_link, is_owned, is_unlinked, link_in}
use Rattle.core_alone.proofs.Views.{at_more}

module _ {X : Type 0} (left : ℕ → ℕ → Bool) (k : Setting X) (s : State X) where
  -- The view j with tabs was there, as the view of the same pass. It has the same of words, each of its tabs was at the same anchor, and
  -- has no other slots.
  pub record WasThere (j : ℕ) (w : View X) : Type 0 where
    pub old : View X
    pub there : get_elem? s.views j ≡ some old
    pub pass : w.pass ≡ old.pass
    pub mirror : w.mirror ≡ old.mirror
    pub unlinked : (slot : ℕ) → is_unlinked slot w.trail ≡ is_unlinked slot old.trail
    pub many : w.tabs ≢ [] → old.tabs ≢ []
    pub tabs : (t : ℕ) (x : Tab X) → get_elem? w.tabs t ≡ some x
        → (y : Tab X) × (get_elem? old.tabs t ≡ some y) × ((a : ℕ) → IsTabAt x a → IsTabAt y a)
        × ((slot : ℕ) → HoldsSlot x slot → HoldsSlot y slot)

  module _ (views : List (View X)) (alone : StandsAlone left k s)
      (now : (j : ℕ) (w : View X) → get_elem? views j ≡ some w → w.tabs ≢ [] → WasThere j w) where
    owned : {p q : ℕ} → p ≡ q → (a : ℕ) → left p a ≡ true → left q a ≡ true
    owned e a is = subst (λ (z : ℕ). left z a ≡ true) e is

    some_of : (x : View X) (n : ℕ) (tab : Tab X) → get_elem? x.tabs n ≡ some tab → x.tabs ≢ []
    some_of x n tab there e = absurd (some-ne-none tab (sym (subst (λ (z : List (Tab X)). get_elem? z n ≡ some tab) e there)))

    linked : (j : ℕ) (w : View X) → (r : WasThere j w) → (slot : ℕ) → link_in k w slot ≡ link_in k r.old slot
    linked j w r slot = ap (λ (b : Bool). cond b 0 (mirrored k (index k (Link slot)) w.mirror)) (r.unlinked slot)
        ∙ ap (λ z. cond (is_unlinked slot r.old.trail) 0 (mirrored k (index k (Link slot)) z)) r.mirror

    apart_now : (p q n a : ℕ) (u : View X) (tab : Tab X) → get_elem? views p ≡ some u → IsLeftTo left u a → IsTab (renewed s views) q n tab
        → IsTabAt tab a → q ≡ p
    apart_now p q n a u tab uat owns is is_at =
        let r = now p u uat owns.0 in let o = now q is.view is.at (some_of is.view n tab is.there) in let y = o.tabs n tab is.there in
        alone.apart p q n a r.old y.0 r.there (r.many owns.0, owned r.pass a owns.1) record { view = o.old; at = o.there; there = y.1 }
        (y.2 a is_at)

    pub stands_renewed : StandsAlone left k (renewed s views)
    stands_renewed = record {
      apart = apart_now;
      each = λ j w at tabs. let r = now j w at tabs in let h = alone.each j r.old r.there (r.many tabs) in record {
        word = λ a lt is. h.word a lt (owned r.pass a is) ∙ sym (ap (mirrored k (index k (Anchor a))) r.mirror);
        sides = λ side a lt is. h.sides side a lt (owned r.pass a is) ∙ sym (ap (mirrored k (index k (Beside side a))) r.mirror);
        links = λ a slot lt is c. h.links a slot lt (owned r.pass a is) c ∙ sym (linked j w r slot);
        held = λ t a slot x there is_at is c. let y = r.tabs t x there in
            h.held t a slot y.0 y.1 (y.2 a is_at) (owned r.pass a is) (y.3 slot c) ∙ sym (linked j w r slot);
      };
    }

  -- a view that is as it was
  same_view : (j : ℕ) (x : View X) → get_elem? s.views j ≡ some x → WasThere j x
  same_view j x at = record {
    old = x;
    there = at;
    pass = refl;
    mirror = refl;
    unlinked = λ slot. refl;
    many = λ h. h;
    tabs = λ u y e.
        (y, e, λ a h. h, λ slot h. h);
  }

  -- a view without tabs comes behind the others
  pub alone_appended : (n : View X) → n.tabs ≡ [] → StandsAlone left k s → StandsAlone left k (renewed s (s.views ++ n ∷ []))
  alone_appended n none alone = stands_renewed (s.views ++ n ∷ []) alone (λ j x xat tabs. ⊎_elim
      (λ (q : get_elem? s.views j ≡ some x). same_view j x q)
      (λ (q : n ≡ x). absurd (tabs (subst (λ (z : View X). z.tabs ≡ []) q none)))
      (at_more s.views n j x xat))

  -- or in place of another one
  pub alone_emptied : (p : ℕ) (n : View X) → n.tabs ≡ [] → StandsAlone left k s → StandsAlone left k (renewed s (set s.views p n))
  alone_emptied p n none alone = stands_renewed (set s.views p n) alone (λ j x xat tabs. ⊎_elim
      (λ (q : (j ≡ p) × (n ≡ x)). absurd (tabs (subst (λ (z : View X). z.tabs ≡ []) q.1 none)))
      (λ (q : (j ≢ p) × (get_elem? s.views j ≡ some x)). same_view j x q.1)
      (at_set s.views p j n x xat))

  module _ (i : ℕ) (v : View X) (at : get_elem? s.views i ≡ some v) where
    -- the view i becomes another one
    alone_changed : (w : View X) → WasThere i w → StandsAlone left k s → StandsAlone left k (renewed s (set s.views i w))
    alone_changed w was alone = stands_renewed (set s.views i w) alone (λ j x xat some_. ⊎_elim
        (λ (q : (j ≡ i) × (w ≡ x)). subst (λ (z : ℕ). WasThere z x) (sym q.0) (subst (WasThere i) q.1 was))
        (λ (q : (j ≢ i) × (get_elem? s.views j ≡ some x)). same_view j x q.1)
        (at_set s.views i j w x xat))

    -- it has seen more, and its trail tells nothing new of links
    pub alone_learned : (w : View X) → w.pass ≡ v.pass → w.mirror ≡ v.mirror → w.tabs ≡ v.tabs
        → ((slot : ℕ) → is_unlinked slot w.trail ≡ is_unlinked slot v.trail)
        → StandsAlone left k s → StandsAlone left k (renewed s (set s.views i w))
    alone_learned w pass mirror tabs unlinked alone = alone_changed w record {
      old = v;
      there = at;
      pass = pass;
      mirror = mirror;
      unlinked = unlinked;
      many = λ h none. h (tabs ∙ none);
      tabs = λ u y e. (y, subst (λ (z : List (Tab X)). get_elem? z u ≡ some y) tabs e, λ a h. h, λ slot h. h);
    } alone

    -- one of its tabs is another one, at the same anchor and with the same slots
    alone_retabbed : (t : ℕ) (x y : Tab X) → get_elem? v.tabs t ≡ some x → ((a : ℕ) → IsTabAt y a → IsTabAt x a)
        → ((slot : ℕ) → HoldsSlot y slot → HoldsSlot x slot)
        → StandsAlone left k s → StandsAlone left k (renewed s (set s.views i (record v { tabs = set v.tabs t y })))
    alone_retabbed t x y was_x stays keeps alone = alone_changed (record v { tabs = set v.tabs t y }) record {
      old = v;
      there = at;
      pass = refl;
      mirror = refl;
      unlinked = λ slot. refl;
      many = λ h none. some-ne-none x (sym (subst (λ (z : List (Tab X)). get_elem? z t ≡ some x) none was_x));
      tabs = λ u z e. was u z (at_set v.tabs t u y z e);
    } alone
      where
        Was : ℕ → Tab X → Type 0
        Was u z = (o : Tab X) × (get_elem? v.tabs u ≡ some o) × ((a : ℕ) → IsTabAt z a → IsTabAt o a)
            × ((slot : ℕ) → HoldsSlot z slot → HoldsSlot o slot)

        was : (u : ℕ) (z : Tab X) → ((u ≡ t) × (y ≡ z)) ⊎ ((u ≢ t) × (get_elem? v.tabs u ≡ some z)) → Was u z
        was u z (inl q) = subst (Was u) q.1 (x, subst (λ (n : ℕ). get_elem? v.tabs n ≡ some x) (sym q.0) was_x, stays, keeps)
        was u z (inr q) = (z, q.1, λ a h. h, λ slot h. h)

    -- the hold of a tab that writes is another one, and that of a tab that frees
    pub alone_rewritten : (t : ℕ) (w : Writer X) (new : Hold X) → get_elem? v.tabs t ≡ some (Writing w) → StandsAlone left k s
        → StandsAlone left k (with_held s i v t w new)
    alone_rewritten t w new writes = alone_retabbed t (Writing w) (Writing record w { turn = Has new }) writes (λ a h. h) (λ slot h. h)

    pub alone_wiped : (t : ℕ) (f : Freer X) (new : Hold X) → get_elem? v.tabs t ≡ some (Freeing f) → StandsAlone left k s
        → StandsAlone left k (with_wiped s i v t f new)
    alone_wiped t f new frees = alone_retabbed t (Freeing f) (Freeing record f { turn = Has new }) frees (λ a h. h) (λ slot h. h)

-- Notes.

-- an item of such a kind is of a step that reserved no slot and was on no link
pub record TellsNoLink (kind : Kind) : Type 0 where
  pub not_owned : is_owned kind ≡ Bool.false
  pub not_on_link : is_on_link kind ≡ Bool.false

pub noted : TellsNoLink Noted
noted = record { not_owned = refl; not_on_link = refl }

pub learned : TellsNoLink Learned
learned = record { not_owned = refl; not_on_link = refl }

module _ {X : Type 0} (left : ℕ → ℕ → Bool) (k : Setting X) (s : State X) (i : ℕ) (v : View X) (at : get_elem? s.views i ≡ some v)
    (item : Item) (quiet : TellsNoLink item.kind) (alone : StandsAlone left k s) where
  learns_alone : (sights : List Sight) → StandsAlone left k (renewed s (set s.views i (learns v sights item)))
  learns_alone sights =
      alone_learned left k s i v at (learns v sights item) refl refl refl (λ slot. rw (quiet.not_owned, quiet.not_on_link) refl) alone

  pub noted_behind_alone : StandsAlone left k (noted_behind s i v item)
  noted_behind_alone = alone_appended left k (renewed s (set s.views i (learns v [] item))) (note_of v) refl (learns_alone [])

  pub noted_at_alone : (n : ℕ) → StandsAlone left k (noted_at s i v item n)
  noted_at_alone n = alone_emptied left k (renewed s (set s.views i (learns v [] item))) n (note_of v) refl (learns_alone [])

  pub learned_from_alone : (n : ℕ) (u : View X) → StandsAlone left k (learned_from s i v item n u)
  learned_from_alone n u = alone_emptied left k (renewed s (set s.views i (learns v u.seen item))) n spent refl (learns_alone u.seen)
