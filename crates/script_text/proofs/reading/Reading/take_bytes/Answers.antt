use Rattle.std.proofs.Common.{arith, ap, length, ◌∙◌}
use Rattle.script_text.specs.Reading.{lines_read}
use Rattle.script_text.proofs.Told.{told, bad_at, front_on}
use Rattle.script_text.proofs.reading.Reading.take_bytes.Goals as goal

pub loop-taken-preserved : goal.loop-taken-preserved
loop-taken-preserved c = let i = c.loop-taken.invariant in let ok = c.in-Ok.ensures in record {
  reading = ok.reading;
  within = let w = ok.count.1 in let below = c.loop-taken-test.true in omega arith;
  front = λ front was. front_on c.take_some.new.self front c.args.bytes.now c.loop-taken.taken c.in-Ok.count (ok.front _ (i.front front was));
  workers = ok.workers ∙ i.workers;
  further = let a = ok.further in let b = i.further in omega arith;
}

pub returns-in-Err-clause-bad : goal.returns-in-Err-clause-bad
returns-in-Err-clause-bad c =
    told _ c.in-Err.refusal c.fault_of.result _ _ c.fault_of.ensures c.in-Err.ensures.bad
    (λ cause bad. bad_at c.args.self.now c.loop-taken.self c.args.bytes.now c.loop-taken.taken (length (lines_read c.take_some.new.self)) cause (ap length c.in-Err.ensures.kept) c.loop-taken.invariant.workers c.loop-taken.invariant.front bad)
