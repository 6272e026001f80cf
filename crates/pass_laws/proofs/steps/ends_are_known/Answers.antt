use Rattle.store_rule.proofs.HaltedLinks.{end_on, halted_on, linked_end, looked_halted}
use Rattle.pass_laws.proofs.steps.ends_are_known.Goals as goal

pub returns-clause-looked : goal.returns-clause-looked
returns-clause-looked c start g v w n a version step says = looked_halted g v w n a version step says

pub returns-clause-followed : goal.returns-clause-followed
returns-clause-followed c start g v w n t a version slot step had none = linked_end g v w n t a version slot step had none

pub returns-clause-halted : goal.returns-clause-halted
returns-clause-halted c start g v w m n a version step had = halted_on g v w m n a version step had

pub returns-clause-end : goal.returns-clause-end
returns-clause-end c start g v w m n a version slot step had = end_on g v w m n a version slot step had
