use Rattle.core_log.proofs.LogOpened.{no_log}
use Rattle.core_log.proofs.laws.openings_have_no_log.Goals as goal

pub returns : goal.returns
returns g c k r s slot images few is o b many = no_log k r s is o (c.opened_stores_are_sound.ensures k r s slot images is o b many) few
