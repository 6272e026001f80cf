use Rattle.collapse.proofs.asking.is_overtaken.Goals as goal

pub returns-in-Absent-Busy-clause-yes : goal.returns-in-Absent-Busy-clause-yes
returns-in-Absent-Busy-clause-yes c is = (c.in-Absent-Busy.epoch-0, c.in-Absent-Busy.looked-1, c.in-Absent-Busy.found-1, c.in-Absent-Busy.is-0, c.in-Absent-Busy.is-1)
