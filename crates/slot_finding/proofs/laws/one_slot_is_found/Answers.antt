use Rattle.slot_finding.proofs.Causes.{found_agrees, found_fits, found_known, one_slot}
use Rattle.slot_finding.proofs.Judging.{found_size}
use Rattle.slot_finding.proofs.laws.one_slot_is_found.Goals as goal

pub returns-clause-one : goal.returns-clause-one
returns-clause-one c = one_slot

pub returns-clause-size : goal.returns-clause-size
returns-clause-size c files name given slot may h = found_size h.recorded h.bytes given slot may h.gives

pub returns-clause-fits : goal.returns-clause-fits
returns-clause-fits c = found_fits

pub returns-clause-agrees : goal.returns-clause-agrees
returns-clause-agrees c = found_agrees

pub returns-clause-known : goal.returns-clause-known
returns-clause-known c = found_known
