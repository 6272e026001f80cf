-- The slots that were read, together.
use Rattle.std.specs.Prelude.{ℕ, List}
use Rattle.rock_rebuild.specs.Kept.{AreHeaders, AreHeads, IsGreatestOf}
use Rattle.rock_rebuild.specs.declared.slots.Slots.{Slots}

-- this is kept of the first slots of a file of so many slots of so many bytes
pub record AreRead (count slot : ℕ) (images : List (List ℕ)) (slots : Slots) : Type 0 where
  pub headers : AreHeaders count slot images slots.table
  pub heads : AreHeads count slot images slots.urls.items slots.heads.items
  pub greatest : IsGreatestOf count slot images slots.greatest
