use Rattle.core_log.proofs.LogOpened.{no_log}
use Rattle.core_openings.proofs.Settings.{opened_setting}
use Rattle.core_openings.proofs.Sounding.{opens_sound}
use Rattle.core_openings.proofs.laws.kept_openings_have_no_log.Goals as goal

pub returns : goal.returns
returns c start k r s few opened kept = no_log k r s (opened_setting k r s opened kept) opened (opens_sound k r s opened kept) few
