use Rattle.std.proofs.Common.{◌-◌, ◌≤◌, length, take}
use Rattle.hex.specs.Hex.{encode_lower}
use Rattle.rock_io.specs.LineBuffer.{Adds}
use Rattle.answer_text.proofs.hex_digits.put_hex.Given as goal

abbrev pub invariant-loop-taken : goal.invariant-loop-taken
invariant-loop-taken l = record {
  within : l.taken ≤ length l.bytes;
  adds : Adds l.initial.line l.line (encode_lower (take l.taken l.bytes));
}

abbrev pub decreases-loop-taken : goal.decreases-loop-taken
decreases-loop-taken l = length l.bytes - l.taken
