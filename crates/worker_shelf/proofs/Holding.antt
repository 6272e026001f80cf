-- What is kept of the tabs is so with the pass still, where a request worked on one of them.
use Rattle.std.proofs.Common.{Bool, List, [], ap, arith, inl, inr, length, refl, subst, suc, sym, zero, ◌<◌, ◌∷◌, ◌≡◌, ◌∙◌, ◌⊎◌, false, true, ℕ}
use Rattle.std.specs.Prelude.{slice_index_or, slice_set, ◌≢◌}
use Rattle.std.proofs.Math.Dec.{eqb}
use Rattle.std.proofs.lemmas.Bool.Decides.{eqb_tells}
use Rattle.std.proofs.lemmas.List.{get_or-set_other, get_or-set_same, length-set}
use Rattle.rock_disk.specs.Cell.{CellState}
use Rattle.core_model.specs.declared.view.View.{View}
use Rattle.store_serve.specs.Growing.{GrowsTo}
use Rattle.store_rule.specs.declared.store.Pass.{Pass}
use Rattle.store_rule.specs.declared.store.Store.{Store}
use Rattle.store_rule.specs.Ground.{Offers}
use Rattle.store_serve.specs.Tabs.{Entry, Holds, IsFree, Leaves, ReadsAs, Standing, WritesAs}
use Rattle.store_serve.specs.Whole.{whole_tab}
use Rattle.store_serve.specs.declared.tabs.ScriptTab.{ScriptTab}
use Rattle.store_serve.specs.declared.tabs.ScriptTab.TheVariants.{Free, Reading, Writing}
use Rattle.store_serve.proofs.Grown as grown
use Rattle.worker_shelf.specs.Shelves.{AllHold, kept_at}

-- the place of a list that it has, whatever stands for one that it has not
pub same_or : {A : Type 0} (xs : List A) (i : ℕ) (d e : A) → i < length xs → slice_index_or xs i d ≡ slice_index_or xs i e
same_or [] i d e lt = absurd (omega arith)
same_or (x ∷ xs) zero d e lt = refl
same_or (x ∷ xs) (suc i) d e lt = same_or xs i d e (omega arith)

-- what was set in a place last stands there
pub set_twice : {A : Type 0} (xs : List A) (i : ℕ) (a b : A) → slice_set (slice_set xs i a) i b ≡ slice_set xs i b
set_twice [] i a b = refl
set_twice (x ∷ xs) zero a b = refl
set_twice (x ∷ xs) (suc i) a b = ap (λ ys. x ∷ ys) (set_twice xs i a b)

pub nothing_lost : {X : Type 0} (v : View X) → GrowsTo v v
nothing_lost v = grown.stays v

pub both_kept : {X : Type 0} (u v w : View X) → GrowsTo u v → GrowsTo v w → GrowsTo u w
both_kept u v w a b = grown.on a b

module _ {C O : Type 0} (tells : Bool) (state : C → CellState) (offers : O → Offers) (s : Store C O) where
  -- what store_serve says of other tabs than that of a request
  pub record Stays : Type 0 where
    pub writes : (p q : Pass C) (t j : ℕ) (e : Entry) → Leaves tells state offers s t p q → j ≢ t → WritesAs tells state offers s p j e → WritesAs tells state offers s q j e
    pub reads : (p q : Pass C) (t j : ℕ) (e : Standing) → Leaves tells state offers s t p q → j ≢ t → ReadsAs tells state offers s p j e → ReadsAs tells state offers s q j e

  module _ (stays : Stays) (t : ℕ) (p q : Pass C) (leaves : Leaves tells state offers s t p q) where
    pub holds_still : (j : ℕ) → j ≢ t → j < whole_tab → (kept : ScriptTab) → Holds tells state offers s p j kept → Holds tells state offers s q j kept
    holds_still j ne below Free h = leaves.others j ne (λ e. let z = e in omega arith) ∙ h
    holds_still j ne below (Writing body taken) h = record { entry = h.entry; writes = stays.writes p q t j h.entry leaves ne h.writes; body_is = h.body_is; taken_is = h.taken_is; inside = h.inside }
    holds_still j ne below Reading h = (h.0, stays.reads p q t j h.0 leaves ne h.1)

    -- where it was one of the script, of which this is kept now
    pub all_hold : (tabs : List ScriptTab) (kept : ScriptTab) → AllHold tells state offers s p tabs → t < whole_tab → Holds tells state offers s q t kept → AllHold tells state offers s q (slice_set tabs t kept)
    all_hold tabs kept all below h = record {
      ready = record { own = leaves.own; inner_free = leaves.inner_free };
      count = length-set tabs t kept ∙ all.count;
      each = λ j lt. at j lt (eqb_tells j t);
      whole = leaves.others whole_tab (λ e. let z = e in let b = below in omega arith) (λ e. let z = e in omega arith) ∙ all.whole;
    }
      where
        at : (j : ℕ) → j < whole_tab → ((eqb j t ≡ true) × (j ≡ t)) ⊎ ((eqb j t ≡ false) × (j ≢ t)) → Holds tells state offers s q j (kept_at (slice_set tabs t kept) j)
        at j lt (inl is) = subst (λ (z : ℕ). Holds tells state offers s q z (kept_at (slice_set tabs t kept) z)) (sym is.1)
            (subst (λ (k : ScriptTab). Holds tells state offers s q t k) (sym (get_or-set_same tabs t kept Free (let n = all.count in let b = below in omega arith))) h)
        at j lt (inr ne) = subst (λ (k : ScriptTab). Holds tells state offers s q j k) (sym (get_or-set_other tabs t j kept Free ne.1)) (holds_still j ne.1 lt (kept_at tabs j) (all.each j lt))

    -- where it was the tab of whole requests, and is free
    pub all_hold_whole : (tabs : List ScriptTab) → t ≡ whole_tab → AllHold tells state offers s p tabs → IsFree q whole_tab → AllHold tells state offers s q tabs
    all_hold_whole tabs is all free = record {
      ready = record { own = leaves.own; inner_free = leaves.inner_free };
      count = all.count;
      each = λ j lt. holds_still j (λ e. let z = e in let w = is in omega arith) lt (kept_at tabs j) (all.each j lt);
      whole = free;
    }

  -- what was kept of a tab that the list has, taken out of it
  pub holds_taken : (p : Pass C) (t : ℕ) (tabs : List ScriptTab) (kept other : ScriptTab) → AllHold tells state offers s p tabs → t < whole_tab → kept ≡ slice_index_or tabs t other → Holds tells state offers s p t kept
  holds_taken p t tabs kept other all below is = subst (λ (k : ScriptTab). Holds tells state offers s p t k) (sym (is ∙ same_or tabs t other Free (let n = all.count in let b = below in omega arith))) (all.each t below)
