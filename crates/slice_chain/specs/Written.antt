-- A cell after these bytes were written into it, and how often its station was called.
use Rattle.std.specs.Prelude.{Bool, Contains, List, [], cond, ◌∷◌, ◌≡◌, ◌⊎◌, true, ℕ}
use Rattle.rock_io.specs.Faults.{one_more}
use Rattle.rock_disk.specs.Cell.{CellState, settle}
use Rattle.rock_disk.specs.Crash.{NowMayStay}

-- a read gives the bytes, and where they are durable a crash leaves nothing else
pub record IsWrittenCell (bytes : List ℕ) (durable : Bool) (c : CellState) : Type 0 where
  pub now : c.now ≡ bytes
  pub alone : durable ≡ true → c.possible ≡ bytes ∷ []

-- A crash leaves what it might have left before, or the bytes; and what a read gives may be left.
abbrev pub MayBeLeft : List ℕ → (before after : CellState) → Type 0
MayBeLeft bytes before after = (content : List ℕ) → Contains after.possible content → Contains before.possible content ⊎ (content ≡ bytes)

-- The cell as a write of these bytes left it, whether that was done or failed. It stayed so, or where it is to be durable a sync settled it:
-- then a crash leaves what a read gives, and nothing else.
pub record WentThrough (bytes : List ℕ) (durable : Bool) (before after : CellState) : Type 0 where
  pub written : CellState
  pub adds : MayBeLeft bytes before written
  pub stays : NowMayStay written
  pub after_is : (after ≡ written) ⊎ ((durable ≡ true) × (after ≡ settle written))

-- the count of a station's calls once a cell was written: one more, and another one where the cell was synced
abbrev pub calls_to_write : (durable : Bool) (calls : ℕ) → ℕ
calls_to_write durable calls = cond durable (one_more (one_more calls)) (one_more calls)

-- that count where the station failed: at the write, or at the sync of a cell that is to be durable
abbrev pub StoppedAt : (durable : Bool) (before after : ℕ) → Type 0
StoppedAt durable before after = (after ≡ one_more before) ⊎ ((durable ≡ true) × (after ≡ one_more (one_more before)))
