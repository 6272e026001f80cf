use Rattle.std.proofs.Common.{◌≡◌, ◌+◌, length, drop}
use Rattle.answer_text.specs.Lines.{spaced}
use Rattle.answer_text.specs.Fields.{field_words}
use Rattle.answer_text.proofs.line.fields_size.Given as goal

abbrev pub invariant-fields : goal.invariant-fields
invariant-fields l = l.size + length (spaced (field_words (drop l.field-index l.fields))) ≡ length (spaced (field_words l.fields))
