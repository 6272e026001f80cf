use Rattle.std.proofs.Common.{map}
use Rattle.script_text.specs.Causes.{HasRequestCause, IsFirst}
use Rattle.script_text.specs.Reading.{lines_read, HasHead}
use Rattle.script_text.proofs.Firsts.{request_first}
use Rattle.script_text.proofs.Passing.{passed_on, head_read}
use Rattle.script_text.proofs.reading.Reading.line_of.Goals as goal

pub returns-in_err-request : goal.returns-in_err-request
returns-in_err-request c =
    let before = lines_read c.args.self.now in
    let text = c.args.text.now in
    let name = c.in_ok-worker.name in
    let fields = map (λ w. w.now) c.in_ok-worker.fields.now in
    let head : HasHead c.args.self.now.workers text c.in_ok-worker.worker name fields =
    head_read c.args.self.now.workers text c.in_ok-worker.worker name c.in_ok-words.words.items c.deref.result.now c.in_ok-worker.fields.now c.in_ok-words.ensures c.deref.ensures.value c.in_ok-worker.ensures in
    passed_on c.from_residual-in_err-request.result c.in_err-request.field-0.0 _ (IsFirst (HasRequestCause before name fields)) _ c.from_residual-in_err-request.ensures.1
    (λ cause first. request_first c.args.self.now.workers before text c.in_ok-worker.worker name fields cause c.in_ok-check_bounds.ensures head first) c.in_err-request.ensures
