use Rattle.workload.specs.Script.{turns_of, IsDraft}
use Rattle.workload.proofs.script.bench_script.Given as goal

abbrev pub invariant-rounds : goal.invariant-rounds
invariant-rounds l = IsDraft l.seed l.draft (turns_of l.workers l.round)
