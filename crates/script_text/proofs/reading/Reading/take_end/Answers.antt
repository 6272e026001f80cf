use Rattle.std.proofs.Common.{ℕ, List, sym, subst}
use Rattle.script_text.specs.Script.{IsBadScript}
use Rattle.script_text.proofs.Ended.{ended_well, ended_badly}
use Rattle.script_text.proofs.Fronts.{bad_fed}
use Rattle.script_text.proofs.Passing.{refused_on}
use Rattle.script_text.proofs.reading.Reading.take_end.Goals as goal

pub returns-in_err-take_part-clause-bad : goal.returns-in_err-take_part-clause-bad
returns-in_err-take_part-clause-bad c =
    refused_on c.from_residual.result c.in_err-take_part.field-0.0 _ _ c.from_residual.ensures.1
    (λ cause is front rest was. rw is.0 (bad_fed c.args.self.now front c.args.part.now rest was c.requires.reading.unbroken c.requires.unbroken is.1)) c.in_err-take_part.ensures.bad

pub returns-clause-front : goal.returns-clause-front
returns-clause-front c = let taken = c.in_ok-take_part.ensures in
    ended_well c.args.self.now c.take_part.new.self c.end_line.new.self c.args.part.now c.end_line.result taken.kept taken.workers taken.begun taken.reading.unbroken c.end_line.ensures.line c.end_line.ensures.begun c.end_line.ensures.workers

pub returns-clause-bad : goal.returns-clause-bad
returns-clause-bad c = let taken = c.in_ok-take_part.ensures in
    ended_badly _ c.args.self.now c.take_part.new.self c.args.part.now c.end_line.result taken.kept taken.workers taken.begun taken.reading.unbroken c.end_line.ensures.line
