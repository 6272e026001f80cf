use Rattle.std.proofs.Common.{sym, ◌∙◌}
use Rattle.answer_text.proofs.Sizes.{some_bytes_count}
use Rattle.answer_text.proofs.field.bytes_size.Goals as goal

pub returns : goal.returns
returns c = some_bytes_count c.args.bytes.now c.checked_mul.result (sym c.is_empty.ensures ∙ c.if-is_empty.false) c.checked_mul.ensures
