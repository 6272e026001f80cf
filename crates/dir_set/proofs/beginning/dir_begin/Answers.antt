use Rattle.std.proofs.Common.{arith, refl, subst, ℕ}
use Rattle.store_rule.specs.declared.store.Pass.{Pass}
use Rattle.store_rule.specs.declared.store.Store.{Store}
use Rattle.dir_set.specs.Beginning.{BeginsAt, RefusesBegin}
use Rattle.dir_set.proofs.Kept.{may_begin_then, may_purge, purged_first}
use Rattle.dir_set.proofs.Opens.{missed_none, tab_own}
use Rattle.dir_set.proofs.beginning.dir_begin.Goals as goal

pub purge_all-requires-clause-may : goal.purge_all-requires-clause-may
purge_all-requires-clause-may g c d s p es ep = may_purge g.C.Cell.tells g.C.Cell.state g.O.Origin.offers c.args.tab c.args.line c.args.url.now d s p (c.requires.may d s p es ep)

pub begin_round-requires-clause-may : goal.begin_round-requires-clause-may
begin_round-requires-clause-may g c = may_begin_then g.C.Cell.tells g.C.Cell.state g.O.Origin.offers c.args.url.now c.args.dirs.now c.args.pass.now c.purge_all.new.pass c.purge_all.new.pass c.purge_all.result.left c.purge_all.result.causes c.purge_all.ensures.own.many c.purge_all.ensures.says
    c.args.tab c.args.line c.requires.pass.many c.requires.may

pub returns-in-Some-clause-ok : goal.returns-in-Some-clause-ok
returns-in-Some-clause-ok g c = let then = c.in-Some.ensures.some.1 in
    purged_first g.C.Cell.tells g.C.Cell.state g.O.Origin.offers c.args.url.now c.args.dirs.now c.args.pass.now c.purge_all.new.pass c.begin_round.new.pass c.purge_all.result.left c.purge_all.result.causes c.purge_all.ensures.own.many c.purge_all.ensures.says
    (λ (d : ℕ) (s : Store g.row.C.Denot g.row.O.Denot) (p q : Pass g.row.C.Denot). BeginsAt g.C.Cell.tells g.C.Cell.state g.O.Origin.offers c.args.tab c.args.line c.args.url.now c.args.durable c.args.pass.now.hand c.in-Some.begun.0 c.in-Some.begun.1 d s p q)
    (λ d s p q es ep eq. subst (λ (n : ℕ). BeginsAt g.C.Cell.tells g.C.Cell.state g.O.Origin.offers c.args.tab c.args.line c.args.url.now c.args.durable n c.in-Some.begun.0 c.in-Some.begun.1 d s p q) c.purge_all.ensures.moves.hand (then d s p q es ep eq))

pub returns-in-Some-clause-own : goal.returns-in-Some-clause-own
returns-in-Some-clause-own g c = tab_own g.C.Cell.tells g.C.Cell.state g.O.Origin.offers c.args.dirs.now c.begin_round.new.pass c.args.tab c.in-Some.begun.0 c.next_of-pass.result c.begin_round.ensures.own (omega (arith, c.next_of-pass.ensures.inside, c.count.ensures.value)) c.in-Some.ensures.some.0

pub returns-in-None-clause-err : goal.returns-in-None-clause-err
returns-in-None-clause-err g c = (
  purged_first g.C.Cell.tells g.C.Cell.state g.O.Origin.offers c.args.url.now c.args.dirs.now c.args.pass.now c.purge_all.new.pass c.begin_round.new.pass c.purge_all.result.left c.purge_all.result.causes c.purge_all.ensures.own.many c.purge_all.ensures.says
      (RefusesBegin g.C.Cell.tells g.C.Cell.state g.O.Origin.offers c.args.tab c.args.line c.args.url.now c.args.durable c.begin_round.new.faults) (c.in-None.ensures.none refl),
  c.begin_round.ensures.behind (missed_none 8 _),
)
