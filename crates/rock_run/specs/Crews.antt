-- The passes and the stations of a run, as shelves and by themselves.
use Rattle.std.specs.Prelude.{Bool, List, map, ◌≡◌}
use Rattle.std.specs.List.{Contains}
use Rattle.rock_disk.specs.Cell.{CellState}
use Rattle.store_rule.specs.declared.store.Pass.{Pass}
use Rattle.store_rule.specs.declared.store.Store.{Store}
use Rattle.store_rule.specs.Closing.{IsResting}
use Rattle.store_rule.specs.Ground.{Offers}
use Rattle.store_rule.specs.Passes.{IsOf}
use Rattle.worker_shelf.specs.Shelves.{KeepsCells, OnShelf}

module _ {C O : Type 0} (tells : Bool) (state : C → CellState) (offers : O → Offers) (s : Store C O) where
  -- a pass of the store that is at rest, and keeps what the end of the store asks for
  pub record MayRest (p : Pass C) : Type 0 where
    pub own : IsOf tells state offers s p
    pub rest : IsResting p
    pub cells : KeepsCells tells state offers s p

-- these shelves stand on the store, with these passes and these stations, in order
pub record AreShelvesOf {C O St : Type 0} (s : Store C O) (passes : List (Pass C)) (stations : List St) (shelves : List (OnShelf C O St))
    : Type 0 where
  pub passes_are : map (λ shelf. shelf.pass) shelves ≡ passes
  pub stations_are : map (λ shelf. shelf.station) shelves ≡ stations
  pub stores : (shelf : OnShelf C O St) → Contains shelves shelf → shelf.store ≡ s
