use Rattle.store_rule.proofs.FreshEpochs.{fresh_epochs}
use Rattle.pass_laws.proofs.steps.epochs_are_fresh.Goals as goal

pub returns : goal.returns
returns c start g v w m n a st is misses = fresh_epochs g v w m n a st is misses
