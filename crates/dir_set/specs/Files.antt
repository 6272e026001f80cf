-- The files of a cache are opened as stores, and closed again.
use Rattle.std.specs.Prelude.{All, Bool, IfErr, IfOk, IsTrue, List, Result, Some, length, map, replicate, slice_get, vec_capacity, vec_len, ◌+◌, ◌++◌, ◌<◌, ◌≡◌, ◌≤◌, ◌⊎◌, ℕ}
use Rattle.std.specs.FinMap.{get, insert}
use Rattle.std.specs.Global.{Vec}
use Rattle.db_layout.specs.declared.layout.TheConstants.{HEADER_BYTES}
use Rattle.rock_disk.specs.Cell.{CellState, shape}
use Rattle.rock_disk.specs.File.{File, Files, IsNotAway, bytes_of, cut, rest_cut}
use Rattle.rock_disk.specs.File.File.{Away, Home}
use Rattle.rock_disk.specs.declared.cell.TheConstants.{HEADER_NUMBER}
use Rattle.store_rule.specs.declared.store.Pass.{Pass}
use Rattle.store_rule.specs.declared.store.Store.{Store}
use Rattle.store_rule.specs.Closing.{Closed, IsResting, views_of}
use Rattle.store_rule.specs.Ground.{Offers}
use Rattle.store_rule.specs.Passes.{IsOf, KeepsRoom, basis}
use Rattle.rock_open.specs.declared.fault.OpenStoreFault.{OpenStoreFault}
use Rattle.rock_open.specs.declared.fault.OpenStoreFault.TheVariants.{Failed, Memory}
use Rattle.rock_disk.specs.Counts.{Counts, EachEnded, NoneFailed}
use Rattle.rock_open.specs.Opening.{OpeningEnds, OpensStore}
use Rattle.dir_set.specs.declared.dirs.DirPass.{DirPass}
use Rattle.dir_set.specs.declared.dirs.Dirs.{Dirs}
use Rattle.dir_set.specs.declared.fault.DirFault.{DirFault}
use Rattle.dir_set.specs.declared.parts.DirHome.{DirHome}
use Rattle.dir_set.specs.Dirs.{IsDirPass, dir_count}

-- no name stands twice among these
abbrev pub AreDifferent : List (List ℕ) → Type 0
AreDifferent names = (d e : ℕ) (name : List ℕ) → slice_get names d ≡ Some name → slice_get names e ≡ Some name → d ≡ e

-- the cells of none of these files are out
abbrev pub AreHome : Files → List (List ℕ) → Type 0
AreHome files names = (d : ℕ) (name : List ℕ) → slice_get names d ≡ Some name → IsNotAway (get files name)

-- each file but these is as it was
abbrev pub OthersStay : List (List ℕ) → (before after : Files) → Type 0
OthersStay names before after = (name : List ℕ) → ((d : ℕ) × (slice_get names d ≡ Some name)) ⊎ (get after name ≡ get before name)

-- no file is out that was in
abbrev pub StaysHome : (before after : Files) → Type 0
StaysHome before after = (name : List ℕ) → IsNotAway (get before name) → IsNotAway (get after name)

-- these are the passes of a file, one of each worker, in order
pub record ArePassesAt {C : Type 0} (workers : List (DirPass C)) (d : ℕ) (ps : List (Pass C)) : Type 0 where
  pub many : length ps ≡ length workers
  pub each : (w : ℕ) (a : DirPass C) → slice_get workers w ≡ Some a → slice_get ps w ≡ slice_get a.passes.items d

-- what closing a file needs: its header area, and an empty vector with room for so many passes
pub record IsHome {C : Type 0} (state : C → CellState) (passes : ℕ) (h : DirHome C) : Type 0 where
  pub header_shape : shape (state h.header) ≡ (HEADER_NUMBER, HEADER_BYTES)
  pub empty : vec_len h.room ≡ 0
  pub room : passes ≤ vec_capacity h.room

-- so many files were opened by one station each, which was ended with no fault, and no call failed
pub record HaveOpened (many : ℕ) (before after : Counts) : Type 0 where
  pub faults : after.faults ≡ before.faults
  pub made : after.made ≡ before.made + many
  pub ended : after.ended ≡ before.ended ++ replicate many 0

-- The files before the one that was refused were opened, and that one was refused as open_store says.
pub record DirsEnd (slot anchors passes : ℕ) (before after : Counts) (r : DirFault) : Type 0 where
  pub middle : Counts
  pub opened : HaveOpened r.dir before middle
  pub ends : OpeningEnds slot anchors passes middle after r.fault
  pub ended : EachEnded middle after
  pub unfailed : (r.fault ≡ Failed → ⊥) → NoneFailed middle after

-- The call was refused at this file or at an earlier one, and where it was at this one, this holds.
pub record IsRefusedBy {T : Type 0} (d : ℕ) (R : OpenStoreFault → Type 0) (result : Result T DirFault) : Type 0 where
  pub refused : IfOk result (λ o. ⊥)
  pub first : IfErr result (λ r. r.dir ≤ d)
  pub here : IfErr result (λ r. r.dir ≡ d → R r.fault)

-- the file is as it was, or as opening cuts it
abbrev pub KeepsFile : (slot : ℕ) (name : List ℕ) (before after : Files) → Type 0
KeepsFile slot name before after = (get after name ≡ get before name) ⊎ ((was : File) × (get before name ≡ Some was) × (get after name ≡ Some (cut slot (bytes_of was))))

module _ {C O : Type 0} (told tells : Bool) (state : C → CellState) (offers : O → Offers) where
  module _ (before after : Files) where
    module _ (slot anchors passes : ℕ) where
      -- The file of this name was opened as a store, as where it is opened alone, and is out. Each worker has a pass of it.
      pub record OpensDir (workers : List (DirPass C)) (d : ℕ) (name : List ℕ) (origin : O) (s : Store C O) (h : DirHome C) : Type 0 where
        pub files : Files
        pub all : Vec (Pass C)
        pub opened : OpensStore told tells state offers before files name slot anchors passes origin h.header s all
        pub out : IsTrue told → get after name ≡ get files name
        pub passes_are : ArePassesAt workers d all.items
        pub home : IsHome state passes h

      -- so was each of these files, and the passes are new
      pub record OpensDirs (names : List (List ℕ)) (origins : List O) (dirs : Dirs C O) (workers : List (DirPass C)) (homes : List (DirHome C)) : Type 0 where
        pub many : dir_count dirs ≡ length names
        pub homes_many : length homes ≡ length names
        pub workers_many : length workers ≡ passes
        pub own : (w : ℕ) (a : DirPass C) → slice_get workers w ≡ Some a → IsDirPass tells state offers dirs a
        pub new : (w : ℕ) (a : DirPass C) → slice_get workers w ≡ Some a → (a.hand ≡ 0) × (a.tab_dirs ≡ replicate 8 0)
        pub each : (d : ℕ) (name : List ℕ) (origin : O) (s : Store C O) (h : DirHome C) → slice_get names d ≡ Some name → slice_get origins d ≡ Some origin
            → slice_get dirs.stores.items d ≡ Some s → slice_get homes d ≡ Some h → OpensDir workers d name origin s h
        pub others : IsTrue told → OthersStay names before after

      -- The file was opened as a store, and closed again with its new passes. The cells are back, each as it was in its place then, and the
      -- header area and the rest are as opening cuts them.
      pub record ClosesAgain (name : List ℕ) (origin : O) : Type 0 where
        pub files : Files
        pub store : Store C O
        pub header : C
        pub all : Vec (Pass C)
        pub opened : OpensStore told tells state offers before files name slot anchors passes origin header store all
        pub cells : List C
        pub closed : Closed tells state (basis tells state offers store) (views_of all.items) cells
        pub back : (t : IsTrue told) → get after name ≡ Some (Home (state header) (map state cells) (rest_cut slot (bytes_of (opened.out t).was)))

      -- What a refusal leaves of a file: where it was opened before the one that was refused, it was closed again; that one is kept, and where
      -- memory was wanted once it was open, it was closed again; those behind it are as they were.
      pub record LeavesDir (r : DirFault) (d : ℕ) (name : List ℕ) (origin : O) : Type 0 where
        pub before_it : d < r.dir → ClosesAgain name origin
        pub here : d ≡ r.dir → (IsTrue told → KeepsFile slot name before after) ⊎ ((r.fault ≡ Memory) × ClosesAgain name origin)
        pub behind : r.dir < d → IsTrue told → get after name ≡ get before name

    -- The store of a file was closed with the passes that the workers had of it, and the cells are back in the file.
    pub record ClosesDir (workers : List (DirPass C)) (d : ℕ) (name : List ℕ) (s : Store C O) (h : DirHome C) : Type 0 where
      pub passes : List (Pass C)
      pub passes_are : ArePassesAt workers d passes
      pub cells : List C
      pub closed : Closed tells state (basis tells state offers s) (views_of passes) cells
      pub back : IsTrue told → (slots slot : ℕ) (rest : List ℕ) → get before name ≡ Some (Away slots slot rest) → get after name ≡ Some (Home (state h.header) (map state cells) rest)

    -- a store was closed, and its cells given back
    pub record ClosesFile (name : List ℕ) (s : Store C O) (header : C) (passes : List (Pass C)) : Type 0 where
      pub cells : List C
      pub closed : Closed tells state (basis tells state offers s) (views_of passes) cells
      pub back : IsTrue told → (slots slot : ℕ) (rest : List ℕ) → get before name ≡ Some (Away slots slot rest) → after ≡ insert before name (Home (state header) (map state cells) rest)

  -- a store may be closed with these passes, and its file is out
  pub record MayClose (files : Files) (name : List ℕ) (s : Store C O) (passes : List (Pass C)) : Type 0 where
    pub all : length passes ≡ (basis tells state offers s).setting.passes
    pub own : All (IsOf tells state offers s) passes
    pub rest : All IsResting passes
    pub room : KeepsRoom (basis tells state offers s).setting.slots passes
    pub away : IsTrue told → (rest : List ℕ) × (get files name ≡ Some (Away (basis tells state offers s).setting.slots (basis tells state offers s).slot rest))

  -- so may that of a file, with the passes that the workers have of it
  pub record MayCloseDir (files : Files) (workers : List (DirPass C)) (d : ℕ) (name : List ℕ) (s : Store C O) (h : DirHome C) : Type 0 where
    pub passes : List (Pass C)
    pub passes_are : ArePassesAt workers d passes
    pub may : MayClose files name s passes
    pub home : IsHome state (length passes) h
