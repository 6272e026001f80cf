use Rattle.core_halts.proofs.Ends.{no_link, reads_halted, reads_no_link}
use Rattle.core_halts.proofs.laws.halted_entries_go_no_further.Goals as goal

pub returns-clause-stays : goal.returns-clause-stays
returns-clause-stays c start k s i t v r so h at there f = reads_halted k s so h i v at t r there f

pub returns-clause-found : goal.returns-clause-found
returns-clause-found c start k s i t slot v r so h at may is f = reads_no_link k s so h i v at t slot may r is f

pub returns-clause-unwritten : goal.returns-clause-unwritten
returns-clause-unwritten c start k s i a version slot v so h at says f there = no_link k s so h i v at a version slot says f there
