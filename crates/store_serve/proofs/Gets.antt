-- An entry is opened, read and closed.
use Rattle.std.proofs.Common.{◌≡◌, ℕ, suc, zero, ◌++◌, ◌∙◌, ◌<◌, ◌⊎◌, [], ◌∷◌, List, Bool, ap, false, get_or, inl, inr, refl, set, sym, true}
use Rattle.std.specs.Prelude.{Err, IfOk, Ok, OnErr, Result, ◌≢◌}
use Rattle.std.proofs.Math.Dec.{eqb}
use Rattle.std.proofs.lemmas.Bool.Decides.{eqb_tells}
use Rattle.rock_disk.specs.Cell.{CellState}
use Rattle.core_model.specs.Tabs.{InnerIsFree, inner, is_free, tab_at, with_tab}
use Rattle.core_model.specs.declared.tab.Tab.{Tab}
use Rattle.core_model.specs.declared.tab.Tab.TheVariants.{Free}
use Rattle.core_model.specs.declared.view.View.{View}
use Rattle.store_rule.specs.declared.store.Pass.{Pass}
use Rattle.store_rule.specs.declared.store.Store.{Store}
use Rattle.store_rule.specs.Ground.{Offers}
use Rattle.store_rule.specs.Calls.{Others}
use Rattle.rock_reader.specs.declared.answer.More.{More}
use Rattle.rock_reader.specs.Reading.{ReadsAs, Standing}
use Rattle.rock_reader.specs.Wanted.{FollowsReader}
use Rattle.slice_chain.specs.Freeing.{FollowsTab}
use Rattle.store_serve.specs.Following.{GaveSome, WentOn}
use Rattle.store_serve.proofs.Inner.{other_tab}

pub nothing_behind : (xs : List ℕ) → xs ≡ xs ++ []
nothing_behind [] = refl
nothing_behind (x ∷ xs) = ap (λ z. x ∷ z) (nothing_behind xs)

pub inner_stays : {X : Type 0} (v w : View X) → tab_at w inner ≡ tab_at v inner → InnerIsFree v → InnerIsFree w
inner_stays v w same free = ap is_free same ∙ free

set_back : {A : Type 0} → (xs : List A) (t : ℕ) (d : A) → get_or (set xs t d) t d ≡ d
set_back [] t d = refl
set_back (x ∷ xs) zero d = refl
set_back (x ∷ xs) (suc t) d = set_back xs t d

-- a tab was free, it was used, and is free again
pub tabs_back : {X : Type 0} (t : ℕ) (v o m w : View X) (tab : Tab X) → tab_at v t ≡ Free → t < inner → o.tabs ≡ with_tab v t tab → Others t o m → tab_at m inner ≡ tab_at o inner → w.tabs ≡ with_tab m t Free
    → (j : ℕ) → tab_at w j ≡ tab_at v j
tabs_back t v o m w tab free below opens others same closes j = at (eqb_tells j t) (eqb_tells j inner)
  where
    at : ((eqb j t ≡ true) × (j ≡ t)) ⊎ ((eqb j t ≡ false) × (j ≢ t)) → ((eqb j inner ≡ true) × (j ≡ inner)) ⊎ ((eqb j inner ≡ false) × (j ≢ inner)) → tab_at w j ≡ tab_at v j
    at (inl is) _ = ap (tab_at w) is.1 ∙ ap (λ xs. get_or xs t Free) closes ∙ set_back m.tabs t Free ∙ sym free ∙ sym (ap (tab_at v) is.1)
    at (inr ne) (inl is) = other_tab t m w Free j ne.1 closes ∙ ap (tab_at m) is.1 ∙ same ∙ sym (ap (tab_at o) is.1) ∙ other_tab t v o tab j ne.1 opens
    at (inr ne) (inr far) = other_tab t m w Free j ne.1 closes ∙ others j ne.1 far.1 ∙ other_tab t v o tab j ne.1 opens

module _ {C O : Type 0} (tells : Bool) (state : C → CellState) (offers : O → Offers) (s : Store C O) (t : ℕ) where
  -- whatever reading came to, the tab reads still
  pub reads_still : {E : Type 0} (e : Standing) (p q : Pass C) (front all : List ℕ) (r : Result More E) → IfOk r (λ answer. (bytes : List ℕ) × (all ≡ front ++ bytes) × WentOn tells state offers s t e p q bytes answer)
      → OnErr r ((bytes : List ℕ) × GaveSome tells state offers s t e p q bytes) → (f : Standing) × ReadsAs tells state offers s q t f
  reads_still e p q front all (Ok answer) went stopped = (went.2.last, went.2.reads)
  reads_still e p q front all (Err fault) went stopped = (stopped.1.standing, stopped.1.reads)

  pub reader_tab : (p q : Pass C) → FollowsTab tells state offers s t p q → FollowsReader tells state offers s t p q
  reader_tab p q h = record { own = h.own; others = h.others; left = h.left; places = h.places; desks = λ j ne far. same_desk j; hand = h.hand; cells = h.cells }
    where
      same_desk : (j : ℕ) → Rattle.rock_reader.specs.Wanted.SameDesk p.desks q.desks j
      same_desk j = (ap (λ d. Rattle.tab_states.specs.Desks.buffer_at d j) h.desks, ap (λ d. Rattle.tab_states.specs.Desks.draft_at d j) h.desks)
