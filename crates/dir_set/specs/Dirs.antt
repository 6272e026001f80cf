-- The files of a cache, and what a worker's passes of them are before and after a call, file by file.
use Rattle.std.specs.Prelude.{Bool, List, None, Option, Some, length, slice_get, slice_index, slice_index_or, ◌<◌, ◌≡◌, ◌≢◌, ◌≤◌, ℕ}
use Rattle.rock_disk.specs.Cell.{CellState}
use Rattle.store_rule.specs.declared.store.Pass.{Pass}
use Rattle.store_rule.specs.declared.store.Store.{Store}
use Rattle.store_rule.specs.Ground.{Offers}
use Rattle.store_rule.specs.Passes.{IsOf, basis}
use Rattle.dir_set.specs.declared.dirs.DirPass.{DirPass}
use Rattle.dir_set.specs.declared.dirs.Dirs.{Dirs}

-- how many files there are
abbrev pub dir_count : {C O : Type 0} → Dirs C O → ℕ
dir_count dirs = length dirs.stores.items

-- the file at which a tab works, or worked last
abbrev pub dir_of : {C : Type 0} → DirPass C → ℕ → ℕ
dir_of a t = slice_index a.tab_dirs t

-- what stands at a place of a list of answers
abbrev pub answer_at : {T : Type 0} → List (Option T) → ℕ → Option T
answer_at xs d = slice_index_or xs d None

-- no answer stands behind those of so many files
abbrev pub NoneBehind : {T : Type 0} → ℕ → List (Option T) → Type 0
NoneBehind n xs = (d : ℕ) → n ≤ d → answer_at xs d ≡ None

module _ {C O : Type 0} (dirs : Dirs C O) where
  -- this holds of the store of a file
  abbrev pub AtStore : ℕ → (Store C O → Type 0) → Type 0
  AtStore d R = (s : Store C O) → slice_get dirs.stores.items d ≡ Some s → R s

  abbrev pub EachStore : (ℕ → Store C O → Type 0) → Type 0
  EachStore R = (d : ℕ) → AtStore d (R d)

  -- this holds of a file: of its store and of the pass of it
  abbrev pub AtPass : DirPass C → ℕ → (Store C O → Pass C → Type 0) → Type 0
  AtPass a d R = (s : Store C O) (p : Pass C) → slice_get dirs.stores.items d ≡ Some s → slice_get a.passes.items d ≡ Some p → R s p

  abbrev pub EachPass : DirPass C → (ℕ → Store C O → Pass C → Type 0) → Type 0
  EachPass a R = (d : ℕ) → AtPass a d (R d)

  -- this holds of a file: of its store, and of what the pass of it was and is
  abbrev pub AtDir : (a b : DirPass C) → ℕ → (Store C O → (p q : Pass C) → Type 0) → Type 0
  AtDir a b d R = (s : Store C O) (p q : Pass C) → slice_get dirs.stores.items d ≡ Some s → slice_get a.passes.items d ≡ Some p → slice_get b.passes.items d ≡ Some q → R s p q

  abbrev pub EachDir : (a b : DirPass C) → (ℕ → Store C O → (p q : Pass C) → Type 0) → Type 0
  EachDir a b R = (d : ℕ) → AtDir a b d (R d)

-- The hand and the files of the tabs are as they were.
pub record PassesMove {C : Type 0} (a b : DirPass C) : Type 0 where
  pub many : length b.passes.items ≡ length a.passes.items
  pub hand : b.hand ≡ a.hand
  pub tabs : b.tab_dirs ≡ a.tab_dirs

-- only the pass of this file may be another one
pub record OnlyDir {C : Type 0} (d : ℕ) (a b : DirPass C) : Type 0 where
  pub moves : PassesMove a b
  pub others : (j : ℕ) → j ≢ d → slice_get b.passes.items j ≡ slice_get a.passes.items j

-- of what an element of this list was and is
abbrev pub AtItem : {T : Type 0} → (old new : List T) → ℕ → (T → T → Type 0) → Type 0
AtItem {T} old new d R = (x y : T) → slice_get old d ≡ Some x → slice_get new d ≡ Some y → R x y

-- only this element of a list may be another one
pub record OnlyItem {T : Type 0} (d : ℕ) (old new : List T) : Type 0 where
  pub many : length new ≡ length old
  pub others : (j : ℕ) → j ≢ d → slice_get new j ≡ slice_get old j

module _ {C O : Type 0} (tells : Bool) (state : C → CellState) (offers : O → Offers) where
  -- A pass of each file, in order, with its hand and its tabs at some of the files.
  pub record IsDirPass (dirs : Dirs C O) (a : DirPass C) : Type 0 where
    pub many : length a.passes.items ≡ dir_count dirs
    pub own : EachPass dirs a (λ d s p. IsOf tells state offers s p)
    pub hand : a.hand < dir_count dirs
    pub tabs : (t : ℕ) → t < 8 → dir_of a t < dir_count dirs

  -- the slots of all files are of one size
  pub record AreOfOneSize (dirs : Dirs C O) : Type 0 where
    pub slot : ℕ
    pub same : EachStore dirs (λ d s. (basis tells state offers s).slot ≡ slot)
