use Rattle.rock_open.proofs.opening.open_store.Goals as goal

pub returns-clause-small : goal.returns-clause-small
returns-clause-small g c t size some bytes is = c.open_within.ensures.small t bytes is
