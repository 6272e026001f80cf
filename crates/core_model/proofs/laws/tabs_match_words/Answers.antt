use Rattle.core_model.proofs.laws.tabs_match_words.Goals as goal
use Rattle.std.proofs.Common.{refl}
use Rattle.core_model.proofs.Matching.{matches_writer, has_writer, one_writer, matches_freer, matches_freed, has_freer}

pub returns-clause-writer : goal.returns-clause-writer
returns-clause-writer c start k s i t w so x = (matches_writer k s so i t w x).1

pub returns-clause-written : goal.returns-clause-written
returns-clause-written c start k s a so lt h = has_writer k s so a lt h

pub returns-clause-one_writer : goal.returns-clause-one_writer
returns-clause-one_writer c start k s i j t u w x so iw jx same = one_writer k s so x.anchor i j t u w x (matches_writer k s so j u x jx).0 iw jx same refl

pub returns-clause-freer : goal.returns-clause-freer
returns-clause-freer c start k s i t f so x freeing = matches_freer k s so i t f x freeing

pub returns-clause-freer_knows : goal.returns-clause-freer_knows
returns-clause-freer_knows c start k s i t f so x freeing = matches_freed k s so i t f x freeing

pub returns-clause-freed : goal.returns-clause-freed
returns-clause-freed c start k s a so lt h = has_freer k s so a lt h
