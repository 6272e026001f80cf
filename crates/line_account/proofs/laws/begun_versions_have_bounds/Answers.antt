use Rattle.line_account.proofs.Versions.{bounded}
use Rattle.line_account.proofs.laws.begun_versions_have_bounds.Goals as goal

pub returns : goal.returns
returns c start r crew a x closed p = bounded r crew closed a x p
