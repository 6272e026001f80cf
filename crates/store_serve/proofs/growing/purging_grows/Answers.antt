use Rattle.store_serve.proofs.Purges as purges
use Rattle.store_serve.proofs.Readers as readers
use Rattle.store_serve.proofs.growing.purging_grows.Goals as goal

pub returns-clause-purged : goal.returns-clause-purged
returns-clause-purged c start g t url left v w h = purges.purged g t h

pub returns-clause-refused : goal.returns-clause-refused
returns-clause-refused c start g t url cause v w h = readers.refused g t url v cause w h
