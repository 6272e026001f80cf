use Rattle.line_account.proofs.Tabs.{front_new, front_old, halted_same, never_both, part_same}
use Rattle.line_account.proofs.Stopping.{ended_stays, halted_stays, turned_stays}
use Rattle.line_account.proofs.laws.tabs_stay_at_their_entries.Goals as goal

pub returns-clause-part : goal.returns-clause-part
returns-clause-part c start r crew a x epoch closed p = part_same r crew closed a x epoch p

pub returns-clause-halted : goal.returns-clause-halted
returns-clause-halted c start r crew a x closed p = halted_same r crew closed a x p

pub returns-clause-old : goal.returns-clause-old
returns-clause-old c start r crew a x closed y p low = front_old r crew closed a x y p low

pub returns-clause-new : goal.returns-clause-new
returns-clause-new c start r crew a x closed y p high = front_new r crew closed a x y p high

pub returns-clause-behind_end : goal.returns-clause-behind_end
returns-clause-behind_end c start r crew tab closed p = ended_stays r crew closed tab p

pub returns-clause-behind_other : goal.returns-clause-behind_other
returns-clause-behind_other c start r crew tab closed p = turned_stays r crew closed tab p

pub returns-clause-behind_halted : goal.returns-clause-behind_halted
returns-clause-behind_halted c start r crew tab closed p = halted_stays r crew closed tab p

pub returns-clause-one_url : goal.returns-clause-one_url
returns-clause-one_url c start r crew a x url closed y p q = never_both r crew closed y a x url p q
