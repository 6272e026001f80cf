use Rattle.std.proofs.Common.{arith}
use Rattle.test_pools.proofs.workers.run.Goals as goal

pub run_workers-requires-clause-workers : goal.run_workers-requires-clause-workers
run_workers-requires-clause-workers g c κs within line among =
    let h = c.scripts_may_be_run.ensures.workers _ _ _ line c.in_ok-script.ensures.1 among in
    (h.0, let few = h.1 in let many = c.in_ok-shelves.ensures in omega arith)
