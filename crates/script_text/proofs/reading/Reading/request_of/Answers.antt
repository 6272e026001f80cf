use Rattle.std.proofs.Common.{map}
use Rattle.script_text.specs.Causes.{HasFieldCause, IsFirst}
use Rattle.script_text.specs.Requests.{kinds_of}
use Rattle.script_text.specs.Reading.{lines_read}
use Rattle.script_text.proofs.Firsts.{fields_first}
use Rattle.script_text.proofs.Passing.{passed_on}
use Rattle.script_text.proofs.reading.Reading.request_of.Goals as goal

pub returns-in_err-request : goal.returns-in_err-request
returns-in_err-request c =
    let words = map (λ w. w.now) c.args.fields.now in
    passed_on c.from_residual.result c.in_err-request.field-0.0 _ (IsFirst (HasFieldCause (kinds_of c.args.name) words)) _ c.from_residual.ensures.1
    (λ cause first. fields_first (lines_read c.args.self.now) c.args.name words cause first) c.in_err-request.ensures
