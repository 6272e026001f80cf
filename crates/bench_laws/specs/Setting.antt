-- The store of a benchmark: for each worker 64 slots of 512 bytes, and 16 anchors.
use Rattle.std.specs.Prelude.{ℕ, ◌*◌}
use Rattle.entry_cut.specs.Content.{room_of}
use Rattle.plain_model.specs.declared.store.Setting.{Setting}
use Rattle.plain_model.specs.declared.store.Plain.{Plain}
use Rattle.plain_model.specs.Serving.{fresh}

abbrev pub setting_for : (workers : ℕ) → Setting
setting_for workers = record { slots = 64 * workers; room = room_of 512; anchors = 16 * workers }

-- it was never written
abbrev pub store_for : (workers : ℕ) → Plain
store_for workers = fresh (16 * workers)
