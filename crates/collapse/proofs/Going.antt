-- What calls leave as it was, one behind the other.
use Rattle.std.proofs.Common.{◌≡◌, ℕ, suc, zero, ◌∙◌, ◌<◌, [], ◌∷◌, List, Bool, ap, arith, get_or, map, refl, set, sym}
use Rattle.std.specs.Prelude.{None, Option, Some, slice_get, slice_index_or, ◌≢◌}
use Rattle.std.proofs.lemmas.List.{get_or-set_other}
use Rattle.rock_disk.specs.Cell.{CellState}
use Rattle.core_model.specs.Tabs.{InnerIsFree, inner, is_free, tab_at, with_tab}
use Rattle.core_model.specs.declared.tab.Tab.{Tab}
use Rattle.core_model.specs.declared.tab.Tab.TheVariants.{Free}
use Rattle.core_model.specs.declared.view.View.{View}
use Rattle.tab_states.specs.declared.desks.Desk.{Desk}
use Rattle.tab_states.specs.Desks.{buffer_at, draft_at}
use Rattle.store_rule.specs.declared.store.Pass.{Pass}
use Rattle.store_rule.specs.declared.store.Store.{Store}
use Rattle.store_rule.specs.Ground.{Offers}
use Rattle.store_rule.specs.Passes.{IsOf}
use Rattle.rock_reader.specs.Wanted.{FollowsReader, SameDesk}
use Rattle.rock_writer.specs.Passes.{FollowsWriting}
use Rattle.slice_chain.specs.Freeing.{FollowsTab}
use Rattle.collapse.specs.Passes.{FollowsForward}

-- what a list has in a place, seen through a function
abbrev seen_as : {A B : Type 0} → (A → B) → B → Option A → B
seen_as f d None = d
seen_as f d (Some x) = f x

mapped : {A B : Type 0} (f : A → B) (d : B) (xs : List A) (i : ℕ) → slice_index_or (map f xs) i d ≡ seen_as f d (slice_get xs i)
mapped f d [] i = refl
mapped f d (x ∷ xs) zero = refl
mapped f d (x ∷ xs) (suc i) = mapped f d xs i

same_mapped : {A B : Type 0} (f : A → B) (d : B) (xs ys : List A) (i : ℕ) → slice_get ys i ≡ slice_get xs i → slice_index_or (map f ys) i d ≡ slice_index_or (map f xs) i d
same_mapped f d xs ys i e = mapped f d ys i ∙ ap (seen_as f d) e ∙ sym (mapped f d xs i)

same_desk : (old new : List Desk) (j : ℕ) → slice_get new j ≡ slice_get old j → SameDesk old new j
same_desk old new j e = (same_mapped (λ (d : Desk). d.page.bytes.items) [] old new j e, same_mapped (λ (d : Desk). d.draft) _ old new j e)

-- the inner tab is free still
pub inner_stays : {X : Type 0} (v w : View X) → tab_at w inner ≡ tab_at v inner → InnerIsFree v → InnerIsFree w
inner_stays v w same free = ap is_free same ∙ free

pub same_tabs : {X : Type 0} (v w : View X) → w.tabs ≡ v.tabs → (j : ℕ) → tab_at w j ≡ tab_at v j
same_tabs {X = X} v w e j = ap (λ (xs : List (Tab X)). get_or xs j Free) e

pub inner_same : {X : Type 0} (v w : View X) → w.tabs ≡ v.tabs → InnerIsFree v → InnerIsFree w
inner_same v w same free = inner_stays v w (same_tabs v w same inner) free

pub other_tab : {X : Type 0} (t : ℕ) (v w : View X) (tab : Tab X) (j : ℕ) → j ≢ t → w.tabs ≡ with_tab v t tab → tab_at w j ≡ tab_at v j
other_tab {X = X} t v w tab j ne is = ap (λ (xs : List (Tab X)). get_or xs j Free) is ∙ get_or-set_other v.tabs t j tab Free ne

not_inner : (t : ℕ) → t < inner → inner ≢ t
not_inner t below same = absurd (omega arith)

-- also where another tab alone has changed
pub inner_beside : {X : Type 0} (t : ℕ) (v w : View X) (tab : Tab X) → t < inner → w.tabs ≡ with_tab v t tab → InnerIsFree v → InnerIsFree w
inner_beside t v w tab below is free = inner_stays v w (other_tab t v w tab inner (not_inner t below) is) free

set_back : {A : Type 0} → (xs : List A) (t : ℕ) (d : A) → get_or (set xs t d) t d ≡ d
set_back [] t d = refl
set_back (x ∷ xs) zero d = refl
set_back (x ∷ xs) (suc t) d = set_back xs t d

-- a tab that was freed is free
pub freed_tab : {X : Type 0} (t : ℕ) (v w : View X) → w.tabs ≡ with_tab v t Free → tab_at w t ≡ Free
freed_tab {X = X} t v w is = ap (λ (xs : List (Tab X)). get_or xs t Free) is ∙ set_back v.tabs t Free

module _ {C O : Type 0} (tells : Bool) (state : C → CellState) (offers : O → Offers) (s : Store C O) (t : ℕ) where
  pub forward_none : (p : Pass C) → IsOf tells state offers s p → FollowsForward tells state offers s t p p
  forward_none p own = record { own = own; others = λ j ne far. refl; left = λ j ne far. refl; places = refl; desks = λ j ne far. (refl, refl); cells = refl }

  pub forward_on : (p u q : Pass C) → FollowsForward tells state offers s t p u → FollowsForward tells state offers s t u q → FollowsForward tells state offers s t p q
  forward_on p u q a b = record {
    own = b.own;
    others = λ j ne far. b.others j ne far ∙ a.others j ne far;
    left = λ j ne far. b.left j ne far ∙ a.left j ne far;
    places = b.places ∙ a.places;
    desks = λ j ne far. let x = a.desks j ne far in let y = b.desks j ne far in (y.0 ∙ x.0, y.1 ∙ x.1);
    cells = b.cells ∙ a.cells;
  }

  pub of_reader : (p q : Pass C) → FollowsReader tells state offers s t p q → FollowsForward tells state offers s t p q
  of_reader p q f = record { own = f.own; others = f.others; left = f.left; places = f.places; desks = f.desks; cells = f.cells }

  pub of_writing : (p q : Pass C) → FollowsWriting tells state offers s t p q → FollowsForward tells state offers s t p q
  of_writing p q f = record { own = f.own; others = f.others; left = f.left; places = f.places; desks = λ j ne far. same_desk p.desks q.desks j (f.desks j ne); cells = f.cells }

  pub reader_none : (p : Pass C) → IsOf tells state offers s p → FollowsReader tells state offers s t p p
  reader_none p own = record { own = own; others = λ j ne far. refl; left = λ j ne far. refl; places = refl; desks = λ j ne far. (refl, refl); hand = refl; cells = refl }

  pub reader_on : (p u q : Pass C) → FollowsReader tells state offers s t p u → FollowsReader tells state offers s t u q → FollowsReader tells state offers s t p q
  reader_on p u q a b = record {
    own = b.own;
    others = λ j ne far. b.others j ne far ∙ a.others j ne far;
    left = λ j ne far. b.left j ne far ∙ a.left j ne far;
    places = b.places ∙ a.places;
    desks = λ j ne far. let x = a.desks j ne far in let y = b.desks j ne far in (y.0 ∙ x.0, y.1 ∙ x.1);
    hand = b.hand ∙ a.hand;
    cells = b.cells ∙ a.cells;
  }

  -- a tab alone has changed, and no buffer or draft
  pub reader_tab : (p q : Pass C) → FollowsTab tells state offers s t p q → FollowsReader tells state offers s t p q
  reader_tab p q f = record {
    own = f.own;
    others = f.others;
    left = f.left;
    places = f.places;
    desks = λ j ne far. (ap (λ (ds : List Desk). buffer_at ds j) f.desks, ap (λ (ds : List Desk). draft_at ds j) f.desks);
    hand = f.hand;
    cells = f.cells;
  }

  pub writing_none : (p : Pass C) → IsOf tells state offers s p → FollowsWriting tells state offers s t p p
  writing_none p own = record { own = own; others = λ j ne far. refl; left = λ j ne far. refl; places = refl; desks = λ j ne. refl; cells = refl }

  pub writing_on : (p u q : Pass C) → FollowsWriting tells state offers s t p u → FollowsWriting tells state offers s t u q → FollowsWriting tells state offers s t p q
  writing_on p u q a b = record {
    own = b.own;
    others = λ j ne far. b.others j ne far ∙ a.others j ne far;
    left = λ j ne far. b.left j ne far ∙ a.left j ne far;
    places = b.places ∙ a.places;
    desks = λ j ne. b.desks j ne ∙ a.desks j ne;
    cells = b.cells ∙ a.cells;
  }

  pub writing_tab : (p q : Pass C) → FollowsTab tells state offers s t p q → FollowsWriting tells state offers s t p q
  writing_tab p q f = record {
    own = f.own;
    others = f.others;
    left = f.left;
    places = f.places;
    desks = λ j ne. ap (λ (ds : List Desk). slice_get ds j) f.desks;
    cells = f.cells;
  }
