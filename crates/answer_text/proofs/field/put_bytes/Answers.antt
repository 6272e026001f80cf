use Rattle.std.proofs.Common.{length, ap, sym, ◌∙◌, arith}
use Rattle.answer_text.proofs.Sizes.{some_bytes}
use Rattle.answer_text.proofs.field.put_bytes.Goals as goal

pub put_hex-requires : goal.put_hex-requires
put_hex-requires c = omega (arith, ap length (some_bytes c.args.bytes.now (sym c.is_empty.ensures ∙ c.if-is_empty.false)))
