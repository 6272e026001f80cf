-- What a call leaves is what its request leaves.
use Rattle.std.proofs.Common.{Bool, List, Option, None, Some, [], ap, arith, map, refl, suc, sym, zero, ◌<◌, ◌≡◌, ◌∙◌, ◌∷◌, get_or, ℕ}
use Rattle.std.specs.Prelude.{slice_get, slice_index_or, ◌≢◌}
use Rattle.std.proofs.lemmas.List.{get_or-set_other}
use Rattle.rock_disk.specs.Cell.{CellState}
use Rattle.core_model.specs.Tabs.{InnerIsFree, inner, is_free, tab_at, with_tab}
use Rattle.core_model.specs.declared.tab.Tab.{Tab}
use Rattle.core_model.specs.declared.tab.Tab.TheVariants.{Free}
use Rattle.core_model.specs.declared.view.View.{View}
use Rattle.store_serve.specs.Growing.{GrowsTo}
use Rattle.tab_states.specs.declared.desks.Desk.{Desk}
use Rattle.store_rule.specs.declared.store.Pass.{Pass}
use Rattle.store_rule.specs.declared.store.Store.{Store}
use Rattle.store_rule.specs.Ground.{Offers}
use Rattle.store_rule.specs.Passes.{view}
use Rattle.slice_chain.specs.Freeing.{FollowsTab}
use Rattle.rock_reader.specs.Wanted.{FollowsReader, SameDesk}
use Rattle.rock_writer.specs.Passes.{FollowsWriting}
use Rattle.store_serve.specs.Tabs.{IsReady, Leaves}
use Rattle.store_serve.proofs.Grown as grown

-- what a list has in a place, seen through a function
abbrev seen_as : {A B : Type 0} → (A → B) → B → Option A → B
seen_as f d None = d
seen_as f d (Some x) = f x

mapped : {A B : Type 0} (f : A → B) (d : B) (xs : List A) (i : ℕ) → slice_index_or (map f xs) i d ≡ seen_as f d (slice_get xs i)
mapped f d [] i = refl
mapped f d (x ∷ xs) zero = refl
mapped f d (x ∷ xs) (suc i) = mapped f d xs i

same_mapped : {A B : Type 0} (f : A → B) (d : B) (xs ys : List A) (i : ℕ) → slice_get ys i ≡ slice_get xs i → slice_index_or (map f ys) i d ≡ slice_index_or (map f xs) i d
same_mapped f d xs ys i e = mapped f d ys i ∙ ap (seen_as f d) e ∙ sym (mapped f d xs i)

same_desk : (old new : List Desk) (j : ℕ) → slice_get new j ≡ slice_get old j → SameDesk old new j
same_desk old new j e = (same_mapped (λ (d : Desk). d.page.bytes.items) [] old new j e, same_mapped (λ (d : Desk). d.draft) _ old new j e)

pub nothing_lost : {X : Type 0} (v : View X) → GrowsTo v v
nothing_lost v = grown.stays v

pub both_kept : {X : Type 0} (u v w : View X) → GrowsTo u v → GrowsTo v w → GrowsTo u w
both_kept u v w a b = grown.on a b

-- the inner tab is free still
pub inner_stays : {X : Type 0} (v w : View X) → tab_at w inner ≡ tab_at v inner → InnerIsFree v → InnerIsFree w
inner_stays v w same free = ap is_free same ∙ free

pub same_tabs : {X : Type 0} (v w : View X) → w.tabs ≡ v.tabs → (j : ℕ) → tab_at w j ≡ tab_at v j
same_tabs {X = X} v w e j = ap (λ (xs : List (Tab X)). get_or xs j Free) e

pub other_tab : {X : Type 0} (t : ℕ) (v w : View X) (tab : Tab X) (j : ℕ) → j ≢ t → w.tabs ≡ with_tab v t tab → tab_at w j ≡ tab_at v j
other_tab {X = X} t v w tab j ne is = ap (λ (xs : List (Tab X)). get_or xs j Free) is ∙ get_or-set_other v.tabs t j tab Free ne

pub not_inner : (t : ℕ) → t < inner → inner ≢ t
not_inner t below same = absurd (omega arith)

-- also where another tab alone has changed
pub inner_beside : {X : Type 0} (t : ℕ) (v w : View X) (tab : Tab X) → t < inner → w.tabs ≡ with_tab v t tab → InnerIsFree v → InnerIsFree w
inner_beside t v w tab below is free = inner_stays v w (other_tab t v w tab inner (not_inner t below) is) free

module _ {C O : Type 0} (tells : Bool) (state : C → CellState) (offers : O → Offers) (s : Store C O) (t : ℕ) where
  pub leaves_writing : (p q : Pass C) → FollowsWriting tells state offers s t p q → InnerIsFree (view q) → GrowsTo (view p) (view q) → Leaves tells state offers s t p q
  leaves_writing p q f free keeps = record {
    own = f.own;
    inner_free = free;
    others = f.others;
    desks = λ j ne far. same_desk p.desks q.desks j (f.desks j ne);
    keeps = keeps;
    places = f.places;
    cells = f.cells;
  }

  pub leaves_reading : (p q : Pass C) → FollowsReader tells state offers s t p q → InnerIsFree (view q) → GrowsTo (view p) (view q) → Leaves tells state offers s t p q
  leaves_reading p q f free keeps = record {
    own = f.own;
    inner_free = free;
    others = f.others;
    desks = f.desks;
    keeps = keeps;
    places = f.places;
    cells = f.cells;
  }

  pub leaves_tab : (p q : Pass C) → FollowsTab tells state offers s t p q → InnerIsFree (view q) → GrowsTo (view p) (view q) → Leaves tells state offers s t p q
  leaves_tab p q f free keeps = record {
    own = f.own;
    inner_free = free;
    others = f.others;
    desks = λ j ne far. same_desk p.desks q.desks j (ap (λ (ds : List Desk). slice_get ds j) f.desks);
    keeps = keeps;
    places = f.places;
    cells = f.cells;
  }

  pub leaves_all : (p : Pass C) → IsReady tells state offers s p → Leaves tells state offers s t p p
  leaves_all p ready = record {
    own = ready.own;
    inner_free = ready.inner_free;
    others = λ j ne far. refl;
    desks = λ j ne far. (refl, refl);
    keeps = nothing_lost (view p);
    places = refl;
    cells = refl;
  }

  pub leaves_both : (p q r : Pass C) → Leaves tells state offers s t p q → Leaves tells state offers s t q r → Leaves tells state offers s t p r
  leaves_both p q r a b = record {
    own = b.own;
    inner_free = b.inner_free;
    others = λ j ne far. b.others j ne far ∙ a.others j ne far;
    desks = λ j ne far. ((b.desks j ne far).0 ∙ (a.desks j ne far).0, (b.desks j ne far).1 ∙ (a.desks j ne far).1);
    keeps = both_kept (view p) (view q) (view r) a.keeps b.keeps;
    places = b.places ∙ a.places;
    cells = b.cells ∙ a.cells;
  }

  -- so does a call on the inner tab that works in its buffer
  pub leaves_inner_reading : (p q : Pass C) → FollowsReader tells state offers s inner p q → InnerIsFree (view q) → GrowsTo (view p) (view q) → Leaves tells state offers s t p q
  leaves_inner_reading p q f free keeps = record {
    own = f.own;
    inner_free = free;
    others = λ j ne far. f.others j far far;
    desks = λ j ne far. f.desks j far far;
    keeps = keeps;
    places = f.places;
    cells = f.cells;
  }

  -- a call on the inner tab alone leaves each tab of the script
  pub leaves_inner : (p q : Pass C) → FollowsTab tells state offers s inner p q → InnerIsFree (view q) → GrowsTo (view p) (view q) → Leaves tells state offers s t p q
  leaves_inner p q f free keeps = record {
    own = f.own;
    inner_free = free;
    others = λ j ne far. f.others j far far;
    desks = λ j ne far. same_desk p.desks q.desks j (ap (λ (ds : List Desk). slice_get ds j) f.desks);
    keeps = keeps;
    places = f.places;
    cells = f.cells;
  }
