use Rattle.core_model.proofs.laws.turns_have_one_holder.Goals as goal
use Rattle.core_model.proofs.Holders.{one_holder, is_away, has_holder}

pub returns-clause-one : goal.returns-clause-one
returns-clause-one c start k s i j t u x y g h so p q gx hy same = one_holder k s so i j t u x y g h p q gx hy same

pub returns-clause-away : goal.returns-clause-away
returns-clause-away c start k s i t x h so p e = is_away k s so i t x h p e

pub returns-clause-taken : goal.returns-clause-taken
returns-clause-taken c start k s slot so lt ne = has_holder k s so slot lt ne

pub returns-clause-home : goal.returns-clause-home
returns-clause-home c start k s slot so lt e = so.cells.holders.home slot lt e
