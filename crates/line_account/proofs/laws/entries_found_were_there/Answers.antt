use Rattle.line_account.specs.Order.{FindsEntry}
use Rattle.line_account.proofs.Gathered.{tells_at}
use Rattle.line_account.proofs.Found.{found_new, found_old, found_there, opened_so}
use Rattle.line_account.proofs.laws.entries_found_were_there.Goals as goal

pub returns-clause-opened : goal.returns-clause-opened
returns-clause-opened c start r crew x closed p = opened_so r (closed.view_at p.j) p.earlier p.served (tells_at r crew closed (λ earlier s. FindsEntry s.answer x) p) x p.so

pub returns-clause-there : goal.returns-clause-there
returns-clause-there c start r crew a x url closed p low = found_there r crew closed a x url p low

pub returns-clause-old : goal.returns-clause-old
returns-clause-old c start r crew a x url kept closed p low old = found_old r crew closed a x url p kept low old

pub returns-clause-new : goal.returns-clause-new
returns-clause-new c start r crew a x url closed p high = found_new r crew closed a x url p high
