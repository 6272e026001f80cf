use Rattle.store_serve.proofs.PurgeDeeds as purges
use Rattle.store_serve.proofs.ReaderDeeds as readers
use Rattle.store_serve.proofs.acting.purging_acts.Goals as goal

pub returns-clause-purged : goal.returns-clause-purged
returns-clause-purged c start g t url left v w h = purges.purged g t h

pub returns-clause-refused : goal.returns-clause-refused
returns-clause-refused c start g t url cause v w h = readers.refused g t url v cause w h
