use Rattle.rock_disk.proofs.Out.{out_when_shaped, kept_when_back}
use Rattle.rock_disk.proofs.file_laws.opened_cells_may_be_given_back.Goals as goal

pub returns-clause-out : goal.returns-clause-out
returns-clause-out c before after name slot bytes header header_now cells cells_now s o h shapes = out_when_shaped s o h shapes

pub returns-clause-kept : goal.returns-clause-kept
returns-clause-kept c before after final name slot bytes header cells o back = kept_when_back o back
