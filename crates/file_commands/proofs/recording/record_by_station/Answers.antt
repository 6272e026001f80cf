use Rattle.file_commands.proofs.recording.record_by_station.Goals as goal

pub returns-in-Err-outcome-clause-left : goal.returns-in-Err-outcome-clause-left
returns-in-Err-outcome-clause-left g c t = (c.in-Err-outcome.ensures.possible t, c.in-Err-outcome.ensures.unsure t)
