-- A new shelf.
use Rattle.std.proofs.Common.{Bool, List, ap, arith, length, refl, subst, suc, sym, true, zero, ◌+◌, ◌≡◌, ◌≤◌, ◌∙◌, ℕ}
use Rattle.std.specs.Prelude.{replicate, slice_index_or}
use Rattle.slot_cell.specs.declared.header.TheConstants.{HEADER_SIZE}
use Rattle.rock_disk.specs.Cell.{CellState}
use Rattle.core_model.specs.Tabs.{inner, is_free, tab_at}
use Rattle.core_model.specs.declared.tab.Tab.{Tab}
use Rattle.core_model.specs.declared.tab.Tab.TheVariants as tab
use Rattle.store_rule.specs.declared.store.Pass.{Pass}
use Rattle.store_rule.specs.declared.store.Store.{Store}
use Rattle.store_rule.specs.Closing.{IsResting}
use Rattle.store_rule.specs.Ground.{Offers}
use Rattle.store_rule.specs.Passes.{IsOf, basis, view}
use Rattle.store_serve.specs.Tabs.{Holds}
use Rattle.store_serve.specs.Whole.{whole_tab}
use Rattle.store_serve.specs.declared.tabs.ScriptTab.{ScriptTab}
use Rattle.store_serve.specs.declared.tabs.ScriptTab.TheVariants.{Free}
use Rattle.worker_shelf.specs.Shelves.{HasShelf, KeepsCells, kept_at}

of_all : {A : Type 0} (n i : ℕ) (x : A) → slice_index_or (replicate n x) i x ≡ x
of_all zero i x = refl
of_all (suc n) zero x = refl
of_all (suc n) (suc i) x = of_all n i x

is_the_free_one : {X : Type 0} (t : Tab X) → is_free t ≡ true → t ≡ tab.Free
is_the_free_one tab.Free e = refl
is_the_free_one (tab.Writing w) e = absurd (cc)
is_the_free_one (tab.Reading r) e = absurd (cc)
is_the_free_one (tab.Freeing f) e = absurd (cc)
is_the_free_one (tab.Retreating a) e = absurd (cc)
is_the_free_one (tab.Last a) e = absurd (cc)

module _ {C O : Type 0} (tells : Bool) (state : C → CellState) (offers : O → Offers) (s : Store C O) where
  pub new_shelf : (p : Pass C) (tabs : List ScriptTab) (piece : List ℕ) → IsOf tells state offers s p → IsResting p → KeepsCells tells state offers s p → tabs ≡ replicate whole_tab Free → (basis tells state offers s).slot ≤ length piece + HEADER_SIZE → HasShelf tells state offers s p tabs piece
  new_shelf p tabs piece own rest cells is room = record {
    holds = record {
      ready = record { own = own; inner_free = rest.free inner (omega arith) };
      count = ap length is;
      each = λ t lt. subst (λ (k : ScriptTab). Holds tells state offers s p t k) (sym (ap (λ (xs : List ScriptTab). kept_at xs t) is ∙ of_all whole_tab t Free)) (is_the_free_one (tab_at (view p) t) (rest.free t (omega arith)));
      whole = is_the_free_one (tab_at (view p) whole_tab) (rest.free whole_tab (omega arith));
    };
    home = rest.home;
    cells = cells;
    room = room;
  }
