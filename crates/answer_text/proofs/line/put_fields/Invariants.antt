use Rattle.std.proofs.Common.{◌≡◌, ◌+◌, ◌++◌, length, drop}
use Rattle.rock_io.specs.LineBuffer.{held_of, size_of}
use Rattle.answer_text.specs.Lines.{spaced}
use Rattle.answer_text.specs.Fields.{field_words}
use Rattle.answer_text.proofs.line.put_fields.Given as goal

abbrev pub invariant-fields : goal.invariant-fields
invariant-fields l = record {
  held : held_of l.line ++ spaced (field_words (drop l.field-index l.fields)) ≡ held_of l.initial.line ++ spaced (field_words l.fields);
  count : length (held_of l.line) + length (spaced (field_words (drop l.field-index l.fields))) ≡ length (held_of l.initial.line) + length (spaced (field_words l.fields));
  size : size_of l.line ≡ size_of l.initial.line;
}
