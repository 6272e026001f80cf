use Rattle.core_openings.proofs.Rebuilds.{kept_so}
use Rattle.core_openings.proofs.laws.rebuilds_may_be_opened.Goals as goal

pub returns : goal.returns
returns c slot images anchors r b = kept_so slot images anchors r b
