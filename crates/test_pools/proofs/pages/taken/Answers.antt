use Rattle.test_pools.proofs.Held.{kept_taking}
use Rattle.test_pools.proofs.pages.taken.Goals as goal

pub returns-in-Ok-clause-kept : goal.returns-in-Ok-clause-kept
returns-in-Ok-clause-kept c m h = kept_taking _ m _ _ c.in-Ok.ensures.took h
