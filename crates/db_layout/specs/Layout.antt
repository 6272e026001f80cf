-- Sizes and offsets in a database file, in bytes.
use Rattle.std.specs.Prelude.{◌≡◌, ℕ, ◌+◌, ◌*◌, ◌-◌, ◌/◌, ◌%◌, ◌<◌, ◌≤◌, min}
use Rattle.db_layout.specs.declared.layout.TheConstants.{HEADER_BYTES, MOST_SLOTS, LEAST_SLOT, GREATEST_SLOT}

-- the sizes that a slot may have
pub record IsSlotSize (slot : ℕ) : Type 0 where
  pub from : LEAST_SLOT ≤ slot
  pub to : slot ≤ GREATEST_SLOT
  pub multiple : slot % LEAST_SLOT ≡ 0

-- how many whole slots a file of so many bytes has behind its header area. Slots past the limit are ignored
abbrev pub slots_of : ℕ → ℕ → ℕ
slots_of bytes slot = min ((bytes - HEADER_BYTES) / slot) MOST_SLOTS

-- where a slot begins
abbrev pub offset_of : ℕ → ℕ → ℕ
offset_of number slot = HEADER_BYTES + number * slot

-- the length of a file of so many slots and no rest
abbrev pub file_size : ℕ → ℕ → ℕ
file_size slots slot = HEADER_BYTES + slots * slot

-- the byte at this place of the file is one of this slot's
pub record IsInSlot (number slot place : ℕ) : Type 0 where
  pub from : offset_of number slot ≤ place
  pub before : place < offset_of number slot + slot
