-- A store that may be closed with these passes.
use Rattle.std.specs.Prelude.{All, Bool, vec_len, ◌<◌, ◌≡◌}
use Rattle.std.specs.Global.{Vec}
use Rattle.rock_disk.specs.Cell.{CellState}
use Rattle.store_rule.specs.declared.store.Pass.{Pass}
use Rattle.store_rule.specs.declared.store.Store.{Store}
use Rattle.store_rule.specs.Closing.{IsResting}
use Rattle.store_rule.specs.Ground.{Offers}
use Rattle.store_rule.specs.Passes.{IsOf, KeepsRoom, basis}

-- all its passes are here, and all their tabs are free
pub record MayClose {C O : Type 0} (tells : Bool) (state : C → CellState) (offers : O → Offers) (s : Store C O) (ps : Vec (Pass C)) : Type 0 where
  -- there is a pass
  pub some : 0 < vec_len ps
  -- no pass is elsewhere
  pub all : vec_len ps ≡ (basis tells state offers s).setting.passes
  -- each is of this store
  pub own : All (IsOf tells state offers s) ps.items
  -- all tabs of each are free
  pub rest : All IsResting ps.items
  -- the first has room for the cells of all slots
  pub room : KeepsRoom (basis tells state offers s).setting.slots ps.items
