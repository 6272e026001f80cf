-- What a page tells as a slot.
use Rattle.std.specs.Prelude.{length}
use Rattle.rock_disk.specs.Cell.{CellState, settled}
use Rattle.mem_cache.specs.declared.cell.PageCell.{PageCell}

-- the number of its slot, as many bytes as its page has, and these bytes, which are all that a crash may leave of it
abbrev pub cell_state : {D : Type 0} → PageCell D → CellState
cell_state c = settled c.number (length c.page.bytes.items) c.page.bytes.items
