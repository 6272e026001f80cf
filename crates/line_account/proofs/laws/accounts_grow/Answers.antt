use Rattle.line_account.proofs.Courses.{account_after, account_along, account_begins, account_left}
use Rattle.line_account.proofs.Idle.{new_begins}
use Rattle.line_account.proofs.laws.accounts_grow.Goals as goal

pub returns-clause-opened : goal.returns-clause-opened
returns-clause-opened c start r pass = new_begins r pass

pub returns-clause-begin : goal.returns-clause-begin
returns-clause-begin c start r v b = account_begins r v b

pub returns-clause-line : goal.returns-clause-line
returns-clause-line c start r v w served s a n = account_after r v w served s a n

pub returns-clause-end : goal.returns-clause-end
returns-clause-end c start r v w served a n = account_left r v w served a n

pub returns-clause-course : goal.returns-clause-course
returns-clause-course c start r first end stages b course = account_along r first end stages b course
