-- What a sink took of a response.
use Rattle.std.specs.Prelude.{Bool, IsTrue, List, length, take, ◌++◌, ◌≡◌, ◌≤◌, ℕ}
use Rattle.rock_io.specs.Sink.{TakesPrefix}
use Rattle.collapse.specs.declared.sending.Sent.{Sent}
use Rattle.collapse.specs.declared.sending.Sent.TheVariants.{FetchFault, SinkFault, Whole}

-- where the sink tells, it took these bytes
abbrev pub Sends : Bool → (old new bytes : List ℕ) → Type 0
Sends tells old new bytes = IsTrue tells → new ≡ old ++ bytes

-- where it tells, it took a first part of them
abbrev pub SendsFront : Bool → (old new bytes : List ℕ) → Type 0
SendsFront tells old new bytes = IsTrue tells → TakesPrefix old new bytes

-- a first part that has at least so many of them
abbrev pub SendsAtLeast : Bool → (old new bytes : List ℕ) → (least : ℕ) → Type 0
SendsAtLeast tells old new bytes least = IsTrue tells → (n : ℕ) × (least ≤ n) × (n ≤ length bytes) × (new ≡ old ++ take n bytes)

-- what giving the rest of a fetch to a sink came to
abbrev pub SentAs : Bool → (old new rest : List ℕ) → Sent → Type 0
SentAs tells old new rest Whole = Sends tells old new rest
SentAs tells old new rest FetchFault = SendsFront tells old new rest
SentAs tells old new rest SinkFault = SendsFront tells old new rest
