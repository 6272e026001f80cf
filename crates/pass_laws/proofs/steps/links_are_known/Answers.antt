use Rattle.store_rule.proofs.MyWords.{looked_known, loosened_known, published_known}
use Rattle.pass_laws.proofs.steps.links_are_known.Goals as goal

pub returns-clause-published : goal.returns-clause-published
returns-clause-published c start g v w n t a slot link step is_at left = published_known g v w n t a slot link step is_at left

pub returns-clause-loosened : goal.returns-clause-loosened
returns-clause-loosened c start g v w n t a slot step is_at left = loosened_known g v w n t a slot step is_at left

pub returns-clause-looked : goal.returns-clause-looked
returns-clause-looked c start g v w n t a slot step is_at left = looked_known g v w n t a slot step is_at left
