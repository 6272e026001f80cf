-- The numbers and the bytes of an answer fit their types.
use Rattle.std.specs.Prelude.{length, slice_index_or, ◌<◌, ◌≡◌, ℕ}
use Rattle.lock_word.specs.declared.cause.Cause.{Cause}
use Rattle.lock_word.specs.declared.cause.Cause.TheVariants.{OtherKey}
use Rattle.script_text.specs.declared.answer.Answer.{Answer}
use Rattle.script_text.specs.declared.answer.Answer.TheVariants as answer

-- a key that a refusal tells is one: 16 bytes
abbrev pub TellsKey : Cause → Type 0
TellsKey (OtherKey epoch key) = (length key ≡ 16) × ((i : ℕ) → slice_index_or key i 0 < 256)
TellsKey _ = Unit {0}

-- The numbers and the bytes of an answer are those of their types.
abbrev pub IsTyped : Answer → Type 0
IsTyped (answer.Busy looked other) = (looked.readers < 65536) × (other.readers < 65536)
IsTyped (answer.Miss cause) = TellsKey cause
IsTyped (answer.NoEntry cause) = TellsKey cause
IsTyped _ = Unit {0}
