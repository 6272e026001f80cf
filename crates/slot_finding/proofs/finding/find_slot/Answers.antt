use Rattle.std.specs.Prelude.{Err, Ok}
use Rattle.slot_finding.specs.declared.finding.FindFault.TheVariants as finding
use Rattle.slot_finding.proofs.Judging.{of_misfit, of_none, of_other, of_slot}
use Rattle.slot_finding.proofs.Refused.{answered, field_says, handed_on, look_failed}
use Rattle.slot_finding.proofs.finding.find_slot.Goals as goal

pub returns-in_err-looked-clause-small : goal.returns-in_err-looked-clause-small
returns-in_err-looked-clause-small g c tells bytes = handed_on c.in_err-looked.field-0.0 (finding.Small bytes) c.from_residual.result c.from_residual.ensures.1 (c.in_err-looked.ensures.small tells bytes).1

pub returns-in_err-looked-clause-complete : goal.returns-in_err-looked-clause-complete
returns-in_err-looked-clause-complete g c tells slot f = look_failed _ c.args.name.now c.in_err-looked.field-0.0 (Ok slot) c.from_residual.result c.from_residual.ensures.1
    (c.in_err-looked.ensures.missing tells) (c.in_err-looked.ensures.small tells) c.in_err-looked.ensures.fields f.file

pub returns-in_err-looked-clause-wrong : goal.returns-in_err-looked-clause-wrong
returns-in_err-looked-clause-wrong g c tells f = look_failed _ c.args.name.now c.in_err-looked.field-0.0 (Err (finding.BadGeometry 6)) c.from_residual.result c.from_residual.ensures.1
    (c.in_err-looked.ensures.missing tells) (c.in_err-looked.ensures.small tells) c.in_err-looked.ensures.fields f.file

pub returns-in_err-looked-clause-differs : goal.returns-in_err-looked-clause-differs
returns-in_err-looked-clause-differs g c tells f = look_failed _ c.args.name.now c.in_err-looked.field-0.0 (Err (finding.BadGeometry 5)) c.from_residual.result c.from_residual.ensures.1
    (c.in_err-looked.ensures.missing tells) (c.in_err-looked.ensures.small tells) c.in_err-looked.ensures.fields f.file

pub returns-in_err-looked-clause-unknown : goal.returns-in_err-looked-clause-unknown
returns-in_err-looked-clause-unknown g c tells f = look_failed _ c.args.name.now c.in_err-looked.field-0.0 (Err (finding.BadGeometry 7)) c.from_residual.result c.from_residual.ensures.1
    (c.in_err-looked.ensures.missing tells) (c.in_err-looked.ensures.small tells) c.in_err-looked.ensures.fields f.file

pub returns-in-Ok-clause-complete : goal.returns-in-Ok-clause-complete
returns-in-Ok-clause-complete g c tells slot f = answered (record { one = c.geometries_are_read_as_written.ensures.one; marked = c.geometries_are_read_as_written.ensures.marked }) _ c.args.name.now c.args.given (Ok c.in-Ok.slot) (Ok slot)
    (record { recorded = c.in_ok-looked.looked.recorded; bytes = c.in_ok-looked.looked.bytes; file = c.in_ok-looked.ensures.looked tells; judged = c.in-Ok.ensures.judged }) (of_slot f)

pub returns-in-Ok-clause-wrong : goal.returns-in-Ok-clause-wrong
returns-in-Ok-clause-wrong g c tells f = answered (record { one = c.geometries_are_read_as_written.ensures.one; marked = c.geometries_are_read_as_written.ensures.marked }) _ c.args.name.now c.args.given (Ok c.in-Ok.slot) (Err 6)
    (record { recorded = c.in_ok-looked.looked.recorded; bytes = c.in_ok-looked.looked.bytes; file = c.in_ok-looked.ensures.looked tells; judged = c.in-Ok.ensures.judged }) (of_misfit f)

pub returns-in-Ok-clause-differs : goal.returns-in-Ok-clause-differs
returns-in-Ok-clause-differs g c tells f = answered (record { one = c.geometries_are_read_as_written.ensures.one; marked = c.geometries_are_read_as_written.ensures.marked }) _ c.args.name.now c.args.given (Ok c.in-Ok.slot) (Err 5)
    (record { recorded = c.in_ok-looked.looked.recorded; bytes = c.in_ok-looked.looked.bytes; file = c.in_ok-looked.ensures.looked tells; judged = c.in-Ok.ensures.judged }) (of_other f)

pub returns-in-Ok-clause-unknown : goal.returns-in-Ok-clause-unknown
returns-in-Ok-clause-unknown g c tells f = answered (record { one = c.geometries_are_read_as_written.ensures.one; marked = c.geometries_are_read_as_written.ensures.marked }) _ c.args.name.now c.args.given (Ok c.in-Ok.slot) (Err 7)
    (record { recorded = c.in_ok-looked.looked.recorded; bytes = c.in_ok-looked.looked.bytes; file = c.in_ok-looked.ensures.looked tells; judged = c.in-Ok.ensures.judged }) (of_none f)

pub returns-in-Err-clause-says : goal.returns-in-Err-clause-says
returns-in-Err-clause-says g c tells = field_says c.in_ok-looked.looked.recorded c.in-Err.field (c.in_ok-looked.ensures.looked tells) c.in-Err.ensures.judged

pub returns-in-Err-clause-complete : goal.returns-in-Err-clause-complete
returns-in-Err-clause-complete g c tells slot f = answered (record { one = c.geometries_are_read_as_written.ensures.one; marked = c.geometries_are_read_as_written.ensures.marked }) _ c.args.name.now c.args.given (Err c.in-Err.field) (Ok slot)
    (record { recorded = c.in_ok-looked.looked.recorded; bytes = c.in_ok-looked.looked.bytes; file = c.in_ok-looked.ensures.looked tells; judged = c.in-Err.ensures.judged }) (of_slot f)

pub returns-in-Err-clause-wrong : goal.returns-in-Err-clause-wrong
returns-in-Err-clause-wrong g c tells f = answered (record { one = c.geometries_are_read_as_written.ensures.one; marked = c.geometries_are_read_as_written.ensures.marked }) _ c.args.name.now c.args.given (Err c.in-Err.field) (Err 6)
    (record { recorded = c.in_ok-looked.looked.recorded; bytes = c.in_ok-looked.looked.bytes; file = c.in_ok-looked.ensures.looked tells; judged = c.in-Err.ensures.judged }) (of_misfit f)

pub returns-in-Err-clause-differs : goal.returns-in-Err-clause-differs
returns-in-Err-clause-differs g c tells f = answered (record { one = c.geometries_are_read_as_written.ensures.one; marked = c.geometries_are_read_as_written.ensures.marked }) _ c.args.name.now c.args.given (Err c.in-Err.field) (Err 5)
    (record { recorded = c.in_ok-looked.looked.recorded; bytes = c.in_ok-looked.looked.bytes; file = c.in_ok-looked.ensures.looked tells; judged = c.in-Err.ensures.judged }) (of_other f)

pub returns-in-Err-clause-unknown : goal.returns-in-Err-clause-unknown
returns-in-Err-clause-unknown g c tells f = answered (record { one = c.geometries_are_read_as_written.ensures.one; marked = c.geometries_are_read_as_written.ensures.marked }) _ c.args.name.now c.args.given (Err c.in-Err.field) (Err 7)
    (record { recorded = c.in_ok-looked.looked.recorded; bytes = c.in_ok-looked.looked.bytes; file = c.in_ok-looked.ensures.looked tells; judged = c.in-Err.ensures.judged }) (of_none f)
