-- A pass that is not the first one of its store is at rest again behind a call that leaves its tabs and its places as they were.
use Rattle.std.proofs.Common.{List, ap, arith, ◌≡◌, ◌∙◌, ℕ, Bool}
use Rattle.std.specs.Prelude.{slice_index_or}
use Rattle.core_model.specs.Tabs.{inner, is_free}
use Rattle.core_model.specs.declared.tab.Tab.{Tab}
use Rattle.core_model.specs.declared.tab.Tab.TheVariants.{Free}
use Rattle.rock_disk.specs.Cell.{CellState}
use Rattle.rock_reader.specs.Wanted.{FollowsReader}
use Rattle.rock_run.specs.Crews.{MayRest}
use Rattle.store_rule.specs.Ground.{Offers}
use Rattle.store_rule.specs.Passes.{view}
use Rattle.store_rule.specs.declared.store.Pass.{Pass}
use Rattle.store_rule.specs.declared.store.Store.{Store}

module _ {C O : Type 0} (tells : Bool) (state : C → CellState) (offers : O → Offers) (s : Store C O) where
  pub rests_again : (p q : Pass C) → MayRest tells state offers s p → FollowsReader tells state offers s inner p q
      → (view q).tabs ≡ (view p).tabs → (view q).pass ≡ 1 → MayRest tells state offers s q
  rests_again p q had follows tabs number = record {
    own = follows.own;
    rest = record {
      free = λ tab below. ap (λ (all : List (Tab (List ℕ))). is_free (slice_index_or all tab Free)) tabs ∙ had.rest.free tab below;
      home = follows.places ∙ had.rest.home;
    };
    cells = λ first. absurd (omega (arith, first, number));
  }
