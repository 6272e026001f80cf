use Rattle.core_model.proofs.laws.views_tell_what_is_allowed.Goals as goal
use Rattle.core_model.proofs.AllowedByView.{may_step}

pub returns : goal.returns
returns c start k s i v m so at may = may_step k s i v m so at may
