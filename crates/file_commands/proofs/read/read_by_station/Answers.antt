use Rattle.std.proofs.Common.{◌∙◌}
use Rattle.file_commands.proofs.Telling.{none_ended, one_ended, one_station, not_failed_station, not_failed_text}
use Rattle.file_commands.proofs.read.read_by_station.Goals as goal

pub returns-in-Err-clause-unfailed : goal.returns-in-Err-clause-unfailed
returns-in-Err-clause-unfailed g c none =
    none_ended (record { made = c.in-Err.ensures.refused; ended = c.in-Err.ensures.ended }) (c.in-Err.ensures.unfailed (not_failed_station c.in-Err.fault c.no_station.result c.no_station.ensures none))

pub returns-in-Ok-outcome-clause-unfailed : goal.returns-in-Ok-outcome-clause-unfailed
returns-in-Ok-outcome-clause-unfailed g c none =
    one_ended (one_station _ c.in-Ok.ensures.made c.in-Ok.ensures.ended c.end_station.ensures.made c.end_station.ensures.ended)
    (c.in-Ok-outcome.ensures.unfailed (λ w. cc) ∙ c.in-Ok.ensures.fresh)
    (c.end_station.ensures.faults ∙ c.in-Ok.ensures.unfailed (λ w. cc))

pub returns-in-Err-outcome-clause-unfailed : goal.returns-in-Err-outcome-clause-unfailed
returns-in-Err-outcome-clause-unfailed g c none =
    one_ended (one_station _ c.in-Ok.ensures.made c.in-Ok.ensures.ended c.end_station.ensures.made c.end_station.ensures.ended)
    (c.in-Err-outcome.ensures.unfailed (not_failed_text c.in-Err-outcome.fault c.not_read.result c.not_read.ensures none) ∙ c.in-Ok.ensures.fresh)
    (c.end_station.ensures.faults ∙ c.in-Ok.ensures.unfailed (λ w. cc))
