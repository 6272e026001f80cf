-- A scan, put together.
use Rattle.std.proofs.Common.{◌≡◌, ℕ, List, length, map, arith, ◌∙◌}
use Rattle.std.specs.Prelude.{Bool}
use Rattle.std.proofs.lemmas.List.{length-map}
use Rattle.rock_disk.specs.Cell.{CellState}
use Rattle.rebuild_model.specs.Image.{IsFile, IsGreatest}
use Rattle.rock_rebuild.specs.Kept.{IsGreatestOf}
use Rattle.rock_rebuild.specs.Read.{AreImagesOf}
use Rattle.rock_rebuild.specs.Gathered.{AreFound}
use Rattle.rock_disk.specs.Opened.{AreSlots}
use Rattle.rock_rebuild.specs.Scan.{IsScan}
use Rattle.rock_rebuild.specs.declared.outcome.Scan.{Scan}
use Rattle.rock_rebuild.proofs.Cells.{images}
use Rattle.rock_rebuild.proofs.Completing.{first_belongs}

pub count_of : {C : Type 0} (state : C → CellState) (cells : List C) → length (images (map state cells)) ≡ length cells
count_of state cells = length-map (map state cells) (λ c. c.now) ∙ length-map cells state

-- images of so many cells, each as wide as a slot, are those of a file
pub file_of : {C : Type 0} (state : C → CellState) (tells : Bool) (cells : List C) (slot : ℕ) (images : List (List ℕ)) → AreImagesOf tells slot (map state cells) images → AreSlots slot (map state cells)
    → IsFile slot images
file_of state tells cells slot images are slots = record {
  few = omega (arith, are.count, slots.few);
  sized = omega (arith, slots.size.from);
  wide = are.wide;
}

greatest_of : (slot : ℕ) (images : List (List ℕ)) (greatest : ℕ) → IsGreatestOf (length images) slot images greatest → IsGreatest slot images greatest
greatest_of slot images greatest g = record {
  above = λ s sane. g.above s sane.within sane.sane;
  there = λ some. let k = g.there some in (k.0, record { within = k.1; sane = k.2 }, k.3);
}

pub scanned : (slot : ℕ) (images : List (List ℕ)) (scan : Scan) → AreFound slot images (length images) scan.found → IsGreatestOf (length images) slot images scan.greatest → IsScan slot images scan
scanned slot images scan are greatest = record {
  entries = are.entries;
  told = are.told;
  complete = are.complete;
  every = λ e c. are.every e c (first_belongs slot images e.first e.chain c.chain).sane.within;
  ordered = are.ordered;
  greatest = greatest_of slot images scan.greatest greatest;
}
