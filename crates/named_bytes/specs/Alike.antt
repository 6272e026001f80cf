-- What two rebuilds keep, where one is told by names.
use Rattle.std.specs.Prelude.{◌≡◌, [], map}
use Rattle.rebuild_model.specs.declared.found.Found.{Found}
use Rattle.rebuild_model.specs.declared.rebuilt.Rebuilt.{Rebuilt}

-- what names tell of an entry: its first slot, its version, its key and its slots
abbrev pub named : Found → Found
named f = record f { url = []; length = 0 }

-- They keep the same: of each entry what names tell of it, the owner of each slot, and the greatest version.
pub record AreAlike (r b : Rebuilt) : Type 0 where
  pub winners : map named r.winners ≡ map named b.winners
  pub owner : r.owner ≡ b.owner
  pub greatest : r.greatest ≡ b.greatest
