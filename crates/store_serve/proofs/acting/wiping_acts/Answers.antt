use Rattle.store_serve.proofs.WipeDeeds as wipes
use Rattle.store_serve.proofs.acting.wiping_acts.Goals as goal

pub returns-clause-last : goal.returns-clause-last
returns-clause-last c start g t url done left v w h = wipes.last g t h

pub returns-clause-later : goal.returns-clause-later
returns-clause-later c start g t url left v w h = wipes.later g t h
