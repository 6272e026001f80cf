use Rattle.std.proofs.Common.{ap, drop, subst, ◌++◌, ◌+◌, ◌∙◌, sym, ℕ, List, length}
use Rattle.script_text.specs.Reading.{lines_read}
use Rattle.script_text.specs.Script.{IsBadScript}
use Rattle.script_text.proofs.Fronts.{bad_long}
use Rattle.script_text.proofs.Passing.{refused_on}
use Rattle.script_text.proofs.Told.{cut_at_feed}
use Rattle.script_text.proofs.reading.Reading.take_some.Goals as goal

pub returns-in_err-take_end-in-Some-clause-bad : goal.returns-in_err-take_end-in-Some-clause-bad
returns-in_err-take_end-in-Some-clause-bad c = let end = c.in-Some.end in let feed = c.in-Some.ensures in
    refused_on c.from_residual.result c.in_err-take_end-in-Some.field-0.0 _ _ c.from_residual.ensures.1
    (λ cause bad front rest was. subst (λ (text : List ℕ). IsBadScript c.args.self.now.workers (front ++ text) (length (lines_read c.args.self.now) + 1) cause)
    (cut_at_feed c.args.bytes.now rest end feed.0 feed.1) (bad front (drop (end + 1) c.args.bytes.now ++ rest) was))
    c.in_err-take_end-in-Some.ensures.bad

pub returns-in_err-take_part-in-None-clause-bad : goal.returns-in_err-take_part-in-None-clause-bad
returns-in_err-take_part-in-None-clause-bad c =
    refused_on c.from_residual-in_err-take_part-in-None.result c.in_err-take_part-in-None.field-0.0 _ _ c.from_residual-in_err-take_part-in-None.ensures.1
    (λ cause is front rest was. rw is.0 (bad_long c.args.self.now front c.args.bytes.now rest was c.requires.reading.unbroken c.in-None.ensures c.requires.some is.1))
    c.in_err-take_part-in-None.ensures.bad
