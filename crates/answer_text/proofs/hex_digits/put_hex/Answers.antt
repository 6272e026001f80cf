use Rattle.std.proofs.Common.{arith, ◌+◌}
use Rattle.answer_text.proofs.Digits.{next_added, none_added, room_for_next}
use Rattle.answer_text.proofs.hex_digits.put_hex.Goals as goal

pub loop-taken-init : goal.loop-taken-init
loop-taken-init c = record { within = omega arith; adds = none_added c.args.line.now }

pub put_piece-requires-clause-room : goal.put_piece-requires-clause-room
put_piece-requires-clause-room c = let within = c.loop-taken.invariant.within in
    room_for_next c.args.line.now c.loop-taken.line c.args.bytes.now c.loop-taken.taken (c.loop-taken.taken + c.min-count.result) (omega arith) (omega arith) c.requires c.loop-taken.invariant.adds

pub loop-taken-preserved : goal.loop-taken-preserved
loop-taken-preserved c = let within = c.loop-taken.invariant.within in record {
  within = omega arith;
  adds = next_added c.args.line.now c.loop-taken.line c.put_piece.new.line c.args.bytes.now c.loop-taken.taken (c.loop-taken.taken + c.min-count.result) (omega arith) c.loop-taken.invariant.adds c.put_piece.ensures;
}
