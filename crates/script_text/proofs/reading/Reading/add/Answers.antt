use Rattle.std.proofs.Common.{◌+◌, ◌∙◌, arith, ap}
use Rattle.script_text.specs.Lines.{total_of}
use Rattle.script_text.proofs.Adding.{reading_more, marks_stay, marks_grow}
use Rattle.script_text.proofs.reading.Reading.add.Goals as goal

pub returns-in_default-clause-reading : goal.returns-in_default-clause-reading
returns-in_default-clause-reading c =
    let reading = c.requires.reading in
    let total = ap (λ n. n + c.offered_size-size.result) reading.total ∙ ap (λ n. total_of c.args.self.now.lines.items + n) c.offered_size-size.ensures in
    reading_more _ c.args.self.now.lines.items c.args.line c.in_ok-push.ensures.items c.requires.few total (omega (arith, total, c.requires.admitted.room)) reading.short reading.unbroken
    (marks_stay c.args.self.now.marked c.args.self.now.lines.items c.args.line c.in_default.ensures reading.marked)

pub returns-in-Some-clause-reading : goal.returns-in-Some-clause-reading
returns-in-Some-clause-reading c =
    let reading = c.requires.reading in
    let total = ap (λ n. n + c.offered_size-size.result) reading.total ∙ ap (λ n. total_of c.args.self.now.lines.items + n) c.offered_size-size.ensures in
    reading_more _ c.args.self.now.lines.items c.args.line c.in_ok-push.ensures.items c.requires.few total (omega (arith, total, c.requires.admitted.room)) reading.short reading.unbroken
    (marks_grow c.args.self.now.marked c.args.self.now.lines.items c.args.line c.in-Some.mark c.in-Some.ensures (omega (arith, c.requires.mark c.in-Some.mark c.in-Some.ensures)) reading.marked)
