use Rattle.rock_disk.proofs.Peeking.{peeked_when_kept, read_at_home, read_when_opened}
use Rattle.rock_disk.proofs.file_laws.peeked_headers_are_read.Goals as goal

pub returns-clause-home : goal.returns-clause-home
returns-clause-home c files name bytes front header cells rest p found wide = read_at_home p found wide

pub returns-clause-opened : goal.returns-clause-opened
returns-clause-opened c before after name slot bytes seen front header cells p o = read_when_opened p o

pub returns-clause-kept : goal.returns-clause-kept
returns-clause-kept c before after name slot bytes front p kept = peeked_when_kept slot p kept
