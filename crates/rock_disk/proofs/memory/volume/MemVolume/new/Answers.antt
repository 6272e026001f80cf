use Rattle.rock_disk.proofs.Homes.{none_away_at_first}
use Rattle.rock_disk.proofs.memory.volume.MemVolume.new.Goals as goal

pub returns-clause-home : goal.returns-clause-home
returns-clause-home c = none_away_at_first c.new.result.items c.new.ensures.items
