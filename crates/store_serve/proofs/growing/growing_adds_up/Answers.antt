use Rattle.store_serve.proofs.Grown.{by_run, by_step, on, stays}
use Rattle.store_serve.proofs.growing.growing_adds_up.Goals as goal

pub returns-clause-none : goal.returns-clause-none
returns-clause-none c start v = stays v

pub returns-clause-behind : goal.returns-clause-behind
returns-clause-behind c start u v w first second = on first second

pub returns-clause-step : goal.returns-clause-step
returns-clause-step c start g v w m n step = by_step step

pub returns-clause-run : goal.returns-clause-run
returns-clause-run c start g v w added went = by_run went
