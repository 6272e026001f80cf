-- Lines at other anchors than those of a lot, and on other tabs.
use Rattle.std.specs.Prelude.{Bool, List, false, true, ◌<◌, ◌≡◌, ℕ}
use Rattle.rock_disk.specs.Cell.{CellState}
use Rattle.script_text.specs.Shapes.{Shape, shape_of}
use Rattle.script_text.specs.declared.request.Request.{Request}
use Rattle.store_rule.specs.declared.store.Store.{Store}
use Rattle.store_rule.specs.Ground.{Ground, Offers, anchor_for, left_to}
use Rattle.store_rule.specs.Passes.{basis}
use Rattle.store_serve.specs.Whole.{whole_tab}
use Rattle.plain_runs.specs.Words.{Lot}

-- the anchor is none of the lot
abbrev pub IsOutside : Lot → ℕ → Type 0
IsOutside lot a = lot.anchors a ≡ false

-- Each anchor of the lot is left to the pass with this number, and the counter of versions is not the lot's.
pub record IsLeftLot (g : Ground (List ℕ)) (lot : Lot) (pass : ℕ) : Type 0 where
  pub counter : lot.counter ≡ false
  pub anchors : (a : ℕ) → a < g.setting.anchors → lot.anchors a ≡ true → left_to g pass a ≡ true

module _ {C O : Type 0} (tells : Bool) (state : C → CellState) (offers : O → Offers) (s : Store C O) (lot : Lot) where
  -- the URL has an anchor outside
  abbrev IsUrlOutside : List ℕ → Type 0
  IsUrlOutside url = IsOutside lot (anchor_for (basis tells state offers s) url)

  -- the tab is one of the script's, and none of the lot
  abbrev IsOtherTab : ℕ → Type 0
  IsOtherTab t = (t < whole_tab) × (lot.tabs t ≡ false)

  -- a whole request at another anchor, or one on another tab, which it opens at another anchor
  abbrev pub IsElse : Request → Type 0
  IsElse request = of_shape (shape_of request)
    where
      of_shape : Shape → Type 0
      of_shape (Shape.Stores url body durable) = IsUrlOutside url
      of_shape (Shape.Reads url) = IsUrlOutside url
      of_shape (Shape.Purges url) = IsUrlOutside url
      of_shape (Shape.Begins t url body) = IsOtherTab t × IsUrlOutside url
      of_shape (Shape.Opens t url) = IsOtherTab t × IsUrlOutside url
      of_shape (Shape.WritesOn t) = IsOtherTab t
      of_shape (Shape.ReadsOn t) = IsOtherTab t
      of_shape (Shape.AtMark mark) = ⊥
