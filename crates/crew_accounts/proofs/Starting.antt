-- A pass of which no line was served.
use Rattle.std.proofs.Common.{Bool, List, [], ap, get_or, inl, refl, replicate, suc, zero, ◌∙◌, ◌≡◌, ℕ}
use Rattle.rock_disk.specs.Cell.{CellState}
use Rattle.core_model.specs.Tabs.{inner, is_free, tab_at}
use Rattle.core_model.specs.declared.tab.Tab.{Tab}
use Rattle.core_model.specs.declared.tab.Tab.TheVariants.{Free}
use Rattle.core_model.specs.declared.view.View.{View}
use Rattle.store_rule.specs.declared.store.Pass.{Pass}
use Rattle.store_rule.specs.declared.store.Store.{Store}
use Rattle.store_rule.specs.Ground.{Offers}
use Rattle.store_rule.specs.Passes.{IsNewOf, view}
use Rattle.store_serve.specs.Whole.{whole_tab}
use Rattle.crew_accounts.specs.Runs.{Past}
use Rattle.crew_accounts.specs.Tracks.{Tracks}

abbrev the_free : {X : Type 0} → Tab X
the_free = Free

all_free : {X : Type 0} (n t : ℕ) → get_or (replicate n (the_free {X = X})) t the_free ≡ the_free
all_free zero t = refl
all_free (suc n) zero = refl
all_free (suc n) (suc t) = all_free n t

module _ {C O : Type 0} (tells : Bool) (state : C → CellState) (offers : O → Offers) (s : Store C O) (told : Bool) (past : Past) (p : Pass C) (h : IsNewOf tells state offers s p) where
  free_at : (t : ℕ) → tab_at (view p) t ≡ Free
  free_at t = ap (λ (v : View (List ℕ)). tab_at v t) h.fresh ∙ all_free 9 t

  pub new_tracks : Tracks tells state offers s told past [] p
  new_tracks = record {
    ready = record { own = h.own; inner_free = ap is_free (free_at inner) };
    whole = free_at whole_tab;
    beyond = λ t from. refl;
    each = λ t below. inl (record { writes = refl; reads = refl; free = free_at t });
  }
