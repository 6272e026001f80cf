use Rattle.line_account.proofs.Printing.{answer_told, busy_words, cause_told, long_told, part_told, short_told, small_enough, tab_told, too_large}
use Rattle.line_account.proofs.laws.refusals_have_causes.Goals as goal

pub returns-clause-answer : goal.returns-clause-answer
returns-clause-answer c start r crew closed p = answer_told r crew closed (λ earlier s. Unit {0}) p

pub returns-clause-cause : goal.returns-clause-cause
returns-clause-cause c start r crew cause closed p = cause_told r crew closed cause p

pub returns-clause-busy : goal.returns-clause-busy
returns-clause-busy c start r crew looked other closed p = busy_words r crew closed looked other p

pub returns-clause-large : goal.returns-clause-large
returns-clause-large c start r crew first url body closed p offers = too_large r crew closed first url body p offers

pub returns-clause-small : goal.returns-clause-small
returns-clause-small c start r crew first url body closed p offers = small_enough r crew closed first url body p offers

pub returns-clause-long : goal.returns-clause-long
returns-clause-long c start r crew closed p = long_told r crew closed p

pub returns-clause-short : goal.returns-clause-short
returns-clause-short c start r crew url body closed p far = short_told r crew closed url body p far

pub returns-clause-tab : goal.returns-clause-tab
returns-clause-tab c start r crew closed p = tab_told r crew closed (λ earlier s. Unit {0}) p

pub returns-clause-part : goal.returns-clause-part
returns-clause-part c start r crew epoch bytes closed p = part_told r crew closed epoch bytes p
