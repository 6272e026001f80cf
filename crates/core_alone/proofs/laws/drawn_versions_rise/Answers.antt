use Rattle.core_alone.proofs.Coming.{drawn_below}
use Rattle.core_alone.proofs.laws.drawn_versions_rise.Goals as goal

pub returns : goal.returns
returns c start k s i v w version so at drew = drawn_below k s so i v w version at drew
