use Rattle.std.proofs.Common.{arith, length, sym, subst, List, ◌+◌}
use Rattle.script_text.specs.Script.{IsScript, IsBadScript}
use Rattle.script_text.specs.declared.line.Line.{Line}
use Rattle.script_text.proofs.Finishing.{finished, no_bytes, some_bytes}
use Rattle.script_text.proofs.Fronts.{whole_script, bad_last}
use Rattle.script_text.proofs.Told.{told}
use Rattle.script_text.proofs.reading.Reading.finish.Goals as goal

pub returns-then-is_empty-clause-script : goal.returns-then-is_empty-clause-script
returns-then-is_empty-clause-script c front was =
    subst (λ (lines : List Line). IsScript c.args.self.workers front lines) (sym c.from_vec.ensures)
    (whole_script c.args.self front was (no_bytes c.args.self.begun.items (grind (arith, c.is_empty.ensures, c.if-is_empty.true))))

pub returns-in-Err-clause-bad : goal.returns-in-Err-clause-bad
returns-in-Err-clause-bad c =
    told _ c.in-Err.refusal c.fault_of.result _ _ c.fault_of.ensures c.in-Err.ensures.line
    (λ cause first front was.
    subst (λ (lines : List Line). IsBadScript c.args.self.workers front (length lines + 1) cause) (sym c.in-Err.ensures.kept)
    (bad_last c.args.self front cause was c.requires.unbroken (some_bytes c.args.self.begun.items (grind (arith, c.is_empty.ensures, c.if-is_empty.false))) first))

pub returns-clause-script : goal.returns-clause-script
returns-clause-script c front was =
    subst (λ (lines : List Line). IsScript c.args.self.workers front lines) (sym c.from_vec-2.ensures)
    (finished c.args.self c.end_line.new.self.lines.items c.requires.unbroken (some_bytes c.args.self.begun.items (grind (arith, c.is_empty.ensures, c.if-is_empty.false))) c.in_default.ensures.line front was)
