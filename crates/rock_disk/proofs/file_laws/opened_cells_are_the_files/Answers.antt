use Rattle.rock_disk.proofs.Out.{away_when_opened, there_when_opened, others_when_opened}
use Rattle.rock_disk.proofs.file_laws.opened_cells_are_the_files.Goals as goal

pub returns-clause-away : goal.returns-clause-away
returns-clause-away c before after name slot bytes header cells o = away_when_opened o

pub returns-clause-there : goal.returns-clause-there
returns-clause-there c before after name slot bytes header cells o = there_when_opened o

pub returns-clause-others : goal.returns-clause-others
returns-clause-others c before after name slot bytes header cells o = others_when_opened o
