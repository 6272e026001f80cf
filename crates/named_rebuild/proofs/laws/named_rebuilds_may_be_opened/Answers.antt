use Rattle.named_rebuild.proofs.Gathering.{kept_so}
use Rattle.named_rebuild.proofs.laws.named_rebuilds_may_be_opened.Goals as goal

pub returns : goal.returns
returns c file contents anchors r are b = kept_so file contents anchors r b are
