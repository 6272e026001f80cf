-- What a caller sees of the marks and of a seat.
use Rattle.std.specs.Prelude.{◌≡◌, ℕ, ◌+◌, ◌<◌, Some, None, [], List, length, slice_index, slice_index_or}
use Rattle.std.specs.List.{Contains}
use Rattle.marks.specs.declared.places.Marks.{Marks}
use Rattle.marks.specs.declared.seat.MarkSeat.{MarkSeat}
use Rattle.marks.specs.declared.view.View.{View}

module _ {N T K : Type 0} where
  abbrev pub view : MarkSeat N T K → View K N
  view s = s.seat.me.0

  -- what the marks were made for
  abbrev pub key : Marks N T K → K
  key marks = marks.table.shared.key

  -- the seat is one of these marks, between two calls
  pub record IsSeatOf (marks : Marks N T K) (s : MarkSeat N T K) : Type 0 where
    pub table : s.seat.table_id ≡ marks.table.shared.table_id
    pub about : s.seat.me.0.about ≡ Some marks.table.shared.key
    pub hand : s.seat.me.1 ≡ []
    pub quiet : s.seat.me.0.moving ≡ []

  -- a seat that was just made for a worker: it may set the marks that `setters` gives to this worker
  pub record Dealt (marks : Marks N T K) (setters : List ℕ) (worker : ℕ) (s : MarkSeat N T K) : Type 0 where
    pub own : IsSeatOf marks s
    pub may : (m : ℕ) → m < 64 → slice_index setters m ≡ worker → Contains s.seat.me.0.held (m, None)
    pub set : s.seat.me.0.set ≡ []
    pub met : s.seat.me.0.met ≡ []

  -- one for each worker, from 1 on
  abbrev pub AreDealt : Marks N T K → List ℕ → List (MarkSeat N T K) → Type 0
  AreDealt marks setters seats = (w : ℕ) (d : MarkSeat N T K) → w < length seats → Dealt marks setters (w + 1) (slice_index_or seats w d)
