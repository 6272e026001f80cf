-- What is left of a store over pages that was closed.
use Rattle.std.specs.Prelude.{All, List, length, ◌≡◌, ℕ}
use Rattle.mem_cache.specs.declared.cell.PageCell.{PageCell}

-- these are so many pages, each of so many bytes
pub record AreWhole {D : Type 0} (slots slot : ℕ) (cells : List (PageCell D)) : Type 0 where
  -- there is one for each slot
  pub many : length cells ≡ slots
  -- each page is as long as a slot
  pub wide : All (λ c. length c.page.bytes.items ≡ slot) cells
