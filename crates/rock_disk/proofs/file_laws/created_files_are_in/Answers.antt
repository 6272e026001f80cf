use Rattle.rock_disk.specs.File.{zeros}
use Rattle.rock_disk.proofs.Homes.{none_away_uncut, none_away_maybe}
use Rattle.rock_disk.proofs.file_laws.created_files_are_in.Goals as goal

pub returns-clause-created : goal.returns-clause-created
returns-clause-created c before after name size is home = none_away_uncut before after name (zeros size) is home

pub returns-clause-maybe : goal.returns-clause-maybe
returns-clause-maybe c = none_away_maybe
