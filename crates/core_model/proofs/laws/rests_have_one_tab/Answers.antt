use Rattle.core_model.proofs.laws.rests_have_one_tab.Goals as goal
use Rattle.core_model.proofs.Rests.{replaced, one_rest}

pub returns-clause-one : goal.returns-clause-one
returns-clause-one c start k s i j t u f g so x y same = one_rest k s so.anchors so.slots i j t u f g x y same

pub returns-clause-replaced : goal.returns-clause-replaced
returns-clause-replaced c start k s i t f so x not = replaced k s so.anchors so.slots i t f x not
