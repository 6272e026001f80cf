-- The files of a cache while they are opened one after the other, and closed again.
use Rattle.std.specs.Prelude.{Bool, IsTrue, List, None, Some, [], length, replicate, slice_get, vec_capacity, vec_len, ◌+◌, ◌++◌, ◌∷◌, ◌<◌, ◌≡◌, ◌≤◌, ◌⊎◌, ℕ}
use Rattle.std.specs.FinMap.{get}
use Rattle.std.specs.Global.{Vec}
use Rattle.rock_disk.specs.Cell.{CellState}
use Rattle.db_layout.specs.Layout.{IsSlotSize}
use Rattle.rock_disk.specs.File.{Files}
use Rattle.rock_disk.specs.Opened.{IsSmall}
use Rattle.rock_open.specs.declared.fault.OpenStoreFault.{OpenStoreFault}
use Rattle.rock_open.specs.declared.fault.OpenStoreFault.TheVariants.{BadGeometry, Failed, Missing, Small}
use Rattle.rock_disk.specs.Counts.{Counts, EachEnded, NoneFailed}
use Rattle.rock_open.specs.Opening.{FileSays, HasSlots, IsAnchors, IsPasses, OpeningEnds}
use Rattle.store_rule.specs.declared.store.Pass.{Pass}
use Rattle.store_rule.specs.declared.store.Store.{Store}
use Rattle.store_rule.specs.Ground.{Offers}
use Rattle.dir_set.specs.declared.dirs.DirPass.{DirPass}
use Rattle.dir_set.specs.declared.parts.DirHome.{DirHome}
use Rattle.dir_set.specs.declared.parts.Parts.{Parts}
use Rattle.dir_set.specs.Files.{OpensDir}

-- a worker has so many passes, with room for those of so many files, and is new
pub record IsWorker {C : Type 0} (files passes : ℕ) (a : DirPass C) : Type 0 where
  pub many : vec_len a.passes ≡ passes
  pub room : files ≤ vec_capacity a.passes
  pub hand : a.hand ≡ 0
  pub tabs : a.tab_dirs ≡ replicate 8 0

-- there is room for so many files, of which so many are open, each with a pass of each worker
pub record AreParts {C O : Type 0} (files workers many : ℕ) (p : Parts C O) : Type 0 where
  pub stores : vec_len p.stores ≡ many
  pub homes : vec_len p.homes ≡ many
  pub workers_many : length p.passes.items ≡ workers
  pub each : (w : ℕ) (a : DirPass C) → slice_get p.passes.items w ≡ Some a → IsWorker files many a
  pub stores_room : files ≤ vec_capacity p.stores
  pub homes_room : files ≤ vec_capacity p.homes

-- a worker has one more pass, behind the others
pub record Gains {C : Type 0} (a b : DirPass C) (p : Pass C) : Type 0 where
  pub items : b.passes.items ≡ a.passes.items ++ p ∷ []
  pub room : vec_capacity b.passes ≡ vec_capacity a.passes
  pub hand : b.hand ≡ a.hand
  pub tabs : b.tab_dirs ≡ a.tab_dirs

-- so has each worker, of these passes in order
pub record Dealt {C : Type 0} (old new : List (DirPass C)) (ps : List (Pass C)) : Type 0 where
  pub many : length new ≡ length old
  pub each : (w : ℕ) (a b : DirPass C) (p : Pass C) → slice_get old w ≡ Some a → slice_get new w ≡ Some b → slice_get ps w ≡ Some p → Gains a b p

-- a worker has one pass less, and its passes of the files before this one are as they were
pub record Loses {C : Type 0} (d : ℕ) (a b : DirPass C) : Type 0 where
  pub many : vec_len b.passes + 1 ≡ vec_len a.passes
  pub below : (j : ℕ) → j < d → slice_get b.passes.items j ≡ slice_get a.passes.items j

pub record Gathered {C : Type 0} (d : ℕ) (old new : List (DirPass C)) : Type 0 where
  pub many : length new ≡ length old
  pub each : (w : ℕ) (a b : DirPass C) → slice_get old w ≡ Some a → slice_get new w ≡ Some b → Loses d a b

-- one more file is open, with its store, its header area and its passes
pub record Adds {C O : Type 0} (old new : Parts C O) (s : Store C O) (header : C) (ps : Vec (Pass C)) : Type 0 where
  pub stores : new.stores.items ≡ old.stores.items ++ s ∷ []
  pub stores_room : vec_capacity new.stores ≡ vec_capacity old.stores
  pub home : DirHome C
  pub homes : new.homes.items ≡ old.homes.items ++ home ∷ []
  pub homes_room : vec_capacity new.homes ≡ vec_capacity old.homes
  pub header_is : home.header ≡ header
  pub emptied : vec_len home.room ≡ 0
  pub kept : vec_capacity home.room ≡ vec_capacity ps
  pub dealt : Dealt old.passes.items new.passes.items ps.items

module _ {C O : Type 0} (told tells : Bool) (state : C → CellState) (offers : O → Offers) (before after : Files) (slot anchors passes : ℕ) (names : List (List ℕ)) (origins : List O) where
  -- So many of these files are open, the first ones, and each other file is as it was.
  pub record AreOpen (many : ℕ) (p : Parts C O) : Type 0 where
    pub parts : AreParts (length names) passes many p
    pub each : (d : ℕ) (name : List ℕ) (origin : O) (s : Store C O) (h : DirHome C) → slice_get names d ≡ Some name → slice_get origins d ≡ Some origin
        → slice_get p.stores.items d ≡ Some s → slice_get p.homes.items d ≡ Some h → OpensDir told tells state offers before after slot anchors passes p.passes.items d name origin s h
    pub others : IsTrue told → (name : List ℕ) → ((d : ℕ) × (d < many) × (slice_get names d ≡ Some name)) ⊎ (get after name ≡ get before name)

-- what open_store says of a file that it refuses
pub record IsRefused (told : Bool) (files : Files) (before after : Counts) (slot anchors passes : ℕ) (name : List ℕ) (fault : OpenStoreFault) : Type 0 where
  pub ends : OpeningEnds slot anchors passes before after fault
  pub ended : EachEnded before after
  pub unfailed : (fault ≡ Failed → ⊥) → NoneFailed before after
  pub says : IsTrue told → FileSays files name slot anchors fault
  pub bad_slot : ¬ IsSlotSize slot → fault ≡ BadGeometry 1
  pub bad_passes : IsSlotSize slot → ¬ IsPasses passes → fault ≡ BadGeometry 3
  pub missing : IsTrue told → IsSlotSize slot → IsPasses passes → get files name ≡ None → fault ≡ Missing
  pub small : IsTrue told → IsSlotSize slot → IsPasses passes → (bytes : ℕ) → IsSmall files name slot bytes → fault ≡ Small bytes
  pub bad_anchors : IsTrue told → (slots : ℕ) → HasSlots files name slot slots → ¬ IsAnchors anchors slots → after.made ≡ before.made
