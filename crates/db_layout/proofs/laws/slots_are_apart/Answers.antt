use Rattle.std.proofs.Common.{ℕ, ◌-◌, ◌/◌, ◌<◌, ◌≤◌, arith}
use Rattle.db_layout.specs.Layout.{IsInSlot, file_size}
use Rattle.db_layout.proofs.laws.slots_are_apart.Goals as goal

-- the slot that a byte behind the header area lies in
slot_at : (slots slot place : ℕ) → 0 < slot → 16384 ≤ place → place < file_size slots slot → (number : ℕ) × (number < slots) × IsInSlot number slot place
slot_at slots slot place some behind before =
    let number : ℕ = (place - 16384) / slot in
    (number, grind arith, record { from = grind arith; before = grind arith })

pub returns-clause-every : goal.returns-clause-every
returns-clause-every c = slot_at
