use Rattle.dir_set.proofs.Kept.{missed_each, purges_if, some_inside}
use Rattle.dir_set.specs.Dirs.{answer_at, dir_count}
use Rattle.dir_set.proofs.purging.dir_purge.Goals as goal

pub returns-then-has_some-clause-ok : goal.returns-then-has_some-clause-ok
returns-then-has_some-clause-ok g c d s p q es ep eq = purges_if g.C.Cell.tells g.C.Cell.state g.O.Origin.offers c.args.url.now s p q (answer_at c.purge_all-purges.result.left d) (answer_at c.purge_all-purges.result.causes d) (c.purge_all-purges.ensures.says d s p q es ep eq)

pub returns-then-has_some-clause-some : goal.returns-then-has_some-clause-some
returns-then-has_some-clause-some g c = some_inside c.purge_all-purges.result.left (dir_count c.args.dirs.now) (c.has_some.ensures.some c.if-has_some.true) c.purge_all-purges.ensures.behind.0

pub returns-else-has_some-clause-err : goal.returns-else-has_some-clause-err
returns-else-has_some-clause-err g c d s p q es ep eq = missed_each g.C.Cell.tells g.C.Cell.state g.O.Origin.offers c.args.url.now s p q (answer_at c.purge_all-purges.result.left d) (answer_at c.purge_all-purges.result.causes d)
    (c.has_some.ensures.none c.if-has_some.false d) (c.purge_all-purges.ensures.says d s p q es ep eq)
