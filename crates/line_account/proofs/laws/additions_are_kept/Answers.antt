use Rattle.line_account.proofs.Quiet.{deeds_after, drawn_after, draws_after, keeps}
use Rattle.line_account.proofs.laws.additions_are_kept.Goals as goal

pub returns-clause-keeps : goal.returns-clause-keeps
returns-clause-keeps c start v w items sights done meetings h = keeps v w items sights done meetings h

pub returns-clause-drawn : goal.returns-clause-drawn
returns-clause-drawn c start v w items sights done meetings x h = drawn_after v w items sights done meetings h x

pub returns-clause-draws : goal.returns-clause-draws
returns-clause-draws c start v w items sights done meetings h = draws_after v w items sights done meetings h

pub returns-clause-deeds : goal.returns-clause-deeds
returns-clause-deeds c start v w items sights done meetings d h is = deeds_after v w items sights done meetings h d is
