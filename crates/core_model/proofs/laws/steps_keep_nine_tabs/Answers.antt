use Rattle.core_model.proofs.laws.steps_keep_nine_tabs.Goals as goal
use Rattle.std.proofs.Common.{◌∙◌}
use Rattle.core_model.proofs.StepsKeepTabs.{as_many_tabs}

pub returns : goal.returns
returns c start v m x pass = as_many_tabs v m x ∙ pass
