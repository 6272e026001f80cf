-- The kinds of answers that a benchmark counts.
use Rattle.std.specs.Prelude.{ℕ, Bool, true, false, length}
use Rattle.script_text.specs.declared.answer.Answer.{Answer}
use Rattle.script_text.specs.declared.answer.Answer.TheVariants as answer
use Rattle.workload.specs.declared.kind.Kind.{Kind}
use Rattle.workload.specs.declared.kind.Kind.TheVariants.{Hit, Miss, Stored, Purged, NoEntry, Other}

abbrev pub kind_of : Answer → Kind
kind_of (answer.Hit version bytes) = Hit
kind_of (answer.Miss cause) = Miss
kind_of (answer.Stored version) = Stored
kind_of (answer.Purged epoch) = Purged
kind_of (answer.NoEntry cause) = NoEntry
kind_of _ = Other

abbrev pub is_same : Kind → Kind → Bool
is_same Hit Hit = true
is_same Miss Miss = true
is_same Stored Stored = true
is_same Purged Purged = true
is_same NoEntry NoEntry = true
is_same Other Other = true
is_same _ _ = false

abbrev pub is_of : Kind → Answer → Bool
is_of kind a = is_same (kind_of a) kind

-- how many bytes of a body a hit gives
abbrev pub hit_bytes : Answer → ℕ
hit_bytes (answer.Hit version bytes) = length bytes
hit_bytes _ = 0
