use Rattle.worker_pool.proofs.Scripts.{has_marks, has_workers}
use Rattle.worker_pool.proofs.laws.scripts_may_be_run.Goals as goal

pub returns-clause-marks : goal.returns-clause-marks
returns-clause-marks c workers texts lines are = has_marks are

pub returns-clause-workers : goal.returns-clause-workers
returns-clause-workers c workers texts lines line are among = has_workers are line among
