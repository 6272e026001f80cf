use Rattle.rock_disk.proofs.Homes.{none_away_put}
use Rattle.rock_disk.proofs.memory.volume.MemVolume.put_file.Goals as goal

pub returns-clause-home : goal.returns-clause-home
returns-clause-home c = none_away_put c.put_entry.result _ _ c.args.name.now c.args.bytes.now _ c.in_ok-file.ensures c.put_entry.ensures.ok c.put_entry.ensures.err
