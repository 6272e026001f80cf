-- The pages of a pool that a seat took one after the other, and how many are left.
use Rattle.std.specs.Prelude.{All, AllPairs, Bool, Contains, List, filter, length, map, replicate, reverse, ◌++◌, ◌<◌, ◌==◌, ◌≡◌, ◌≢◌, ℕ}
use Rattle.std.specs.List.{range_with_len}
use Rattle.page_pool.specs.declared.pool.PoolSize.{PoolSize}
use Rattle.page_pool.specs.declared.view.View.{View}
use Rattle.page_pool.specs.Ruled.{IsPage}
use Rattle.store_rule.specs.Setting.{IsRow}
use Rattle.mem_cache.specs.declared.cell.PageCell.{PageCell}
use Rattle.mem_cache.specs.Cell.{cell_state}

-- the number is none of these
abbrev pub is_none_of : List ℕ → ℕ → Bool
is_none_of held m = length (filter (λ k. k == m) held) == 0

-- the pages of the pool that a seat does not hold
abbrev pub pages_left : PoolSize → View → List ℕ
pages_left about v = filter (is_none_of v.held) (range_with_len 0 about.pages)

-- A seat took these pages, the last one first: each is one of the pool, and none was held before. All else of the seat is as it was.
pub record TookPages (about : PoolSize) (numbers : List ℕ) (before after : View) : Type 0 where
  -- each is a page of the pool
  pub within : All (λ m. m < about.pages) numbers
  -- none was held before
  pub free : All (λ m. Contains before.held m → ⊥) numbers
  -- no two are the same
  pub apart : AllPairs (λ m k. m ≢ k) numbers
  -- they stand in front of those that were held
  pub view : after ≡ record before { held = numbers ++ before.held }

-- a seat took so many pages
abbrev pub TookMany : PoolSize → ℕ → (before after : View) → Type 0
TookMany about many before after = (numbers : List ℕ) × (length numbers ≡ many) × TookPages about numbers before after

module _ {D : Type 0} where
  -- the numbers of the pages that these slots have, that of the last one first
  abbrev pub numbers_of : List (PageCell D) → List ℕ
  numbers_of cells = reverse (map (λ c. c.page.number) cells)

  -- a seat took the pages that these slots have, one after the other
  pub record AreTaken (about : PoolSize) (cells : List (PageCell D)) (before after : View) : Type 0 where
    -- the page of each slot is one of this pool, with all its bytes
    pub pages : All (λ c. IsPage about c.page.number c.page) cells
    -- the seat took these pages
    pub took : TookPages about (numbers_of cells) before after

  -- these are the first slots, in order, each with a page of zeros
  pub record AreNew (slot : ℕ) (cells : List (PageCell D)) : Type 0 where
    -- they are numbered from 0 on, and each is as wide as a slot
    pub row : IsRow cell_state slot cells
    -- each byte is 0
    pub zeros : All (λ c. c.page.bytes.items ≡ replicate slot 0) cells
