-- A page that is filled with one piece after the other.
use Rattle.std.specs.Prelude.{◌≡◌, ℕ, ◌+◌, ◌*◌, ◌≤◌, List, length, take, drop}

-- what a cutter tells: the place of the slot that is being filled, how many bytes it holds, and for how many it has room
pub record CutterState : Type 0 where
  pub place : ℕ
  pub held : ℕ
  pub room : ℕ

-- so much was filled in: all slots before this one, and what the page holds of this one
pub record Holds (cutter : CutterState) (page filled : List ℕ) : Type 0 where
  pub within : cutter.held ≤ cutter.room
  pub count : length filled ≡ cutter.place * cutter.room + cutter.held
  pub bytes : take cutter.held page ≡ drop (cutter.place * cutter.room) filled
