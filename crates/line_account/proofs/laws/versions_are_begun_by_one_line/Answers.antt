use Rattle.line_account.proofs.Versions.{began_prints, begun_alone, begun_at_one, begun_once, told_begun, told_once}
use Rattle.line_account.proofs.laws.versions_are_begun_by_one_line.Goals as goal

pub returns-clause-line : goal.returns-clause-line
returns-clause-line c start r crew a b x closed p q = begun_once r crew closed a b x p q

pub returns-clause-anchor : goal.returns-clause-anchor
returns-clause-anchor c start r crew a b x closed p q = begun_at_one r crew closed a b x p q

pub returns-clause-version : goal.returns-clause-version
returns-clause-version c start anchors s a b x y p q = begun_alone anchors s a b x y p q

pub returns-clause-printed : goal.returns-clause-printed
returns-clause-printed c start anchors s a x p = began_prints s.asked.request s.answer x p.began

pub returns-clause-told : goal.returns-clause-told
returns-clause-told c start r crew a x closed p = told_begun r crew closed a x p

pub returns-clause-once : goal.returns-clause-once
returns-clause-once c start r crew a b x closed p q = told_once r crew closed a b x p q
