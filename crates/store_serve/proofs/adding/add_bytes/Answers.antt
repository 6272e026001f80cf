use Rattle.std.proofs.Common.{arith, refl, subst, ◌∙◌, ℕ}
use Rattle.rock_io.specs.Faults.{Rose}
use Rattle.store_serve.specs.Adding.{Added}
use Rattle.store_rule.specs.Passes.{basis, view}
use Rattle.store_serve.proofs.Adds.{added_below, added_none, added_not, added_on, adds_still, error_as, follows_none, follows_on, more_taken}
use Rattle.store_serve.proofs.adding.add_bytes.Goals as goal

pub loop-taken-init : goal.loop-taken-init
loop-taken-init g c = let may = c.requires.1 in record {
  over = omega arith;
  under = may.order;
  added = λ e h. added_none g.C.Cell.tells g.C.Cell.state g.O.Origin.offers c.args.store.now c.args.tab e c.args.pass.now h.writes _ (omega arith);
  durable = λ e h logged. more_taken (basis g.C.Cell.tells g.C.Cell.state g.O.Origin.offers c.args.store.now) e (view c.args.pass.now) e.taken _ (omega arith) logged;
  follows = follows_none g.C.Cell.tells g.C.Cell.state g.O.Origin.offers c.args.store.now c.args.tab c.args.pass.now may.writes.rests.own;
  station = refl;
}

pub append_some-requires-clause-may : goal.append_some-requires-clause-may
append_some-requires-clause-may g c = let i = c.loop-taken.invariant in let e = c.requires.0 in let may = c.requires.1 in
    (_, adds_still g.C.Cell.tells g.C.Cell.state g.O.Origin.offers c.args.store.now c.args.tab e c.args.pass.now _ c.args.from c.args.upto c.loop-taken.taken c.loop-taken.pass may i.over i.under (i.added e may))

pub loop-taken-preserved : goal.loop-taken-preserved
loop-taken-preserved g c = let i = c.loop-taken.invariant in let ok = c.in-Ok.ensures in record {
  over = let h = i.over in omega arith;
  under = ok.some.1;
  added = λ e may. let a = i.added e may in
      let h = ok.ok _ (adds_still g.C.Cell.tells g.C.Cell.state g.O.Origin.offers c.args.store.now c.args.tab e c.args.pass.now _ c.args.from c.args.upto c.loop-taken.taken c.loop-taken.pass may i.over i.under a) in
      added_on g.C.Cell.tells g.C.Cell.state g.O.Origin.offers c.args.store.now c.args.tab e c.args.pass.now c.loop-taken.pass c.append_some.new.pass _ c.in-Ok.count _ h.0 a h.1 (let over = i.over in omega arith);
  durable = λ e may logged. let i = c.loop-taken.invariant in let a = i.added e may in
      let d = ok.durable _ (adds_still g.C.Cell.tells g.C.Cell.state g.O.Origin.offers c.args.store.now c.args.tab e c.args.pass.now _ c.args.from c.args.upto c.loop-taken.taken c.loop-taken.pass may i.over i.under a) (i.durable e may logged) in
      more_taken (basis g.C.Cell.tells g.C.Cell.state g.O.Origin.offers c.args.store.now) e (view c.append_some.new.pass) _ _ (let over = i.over in omega arith) d;
  follows = follows_on g.C.Cell.tells g.C.Cell.state g.O.Origin.offers c.args.store.now c.args.tab c.args.pass.now c.loop-taken.pass c.append_some.new.pass i.follows ok.others;
  station = ok.unfailed (λ w. cc) ∙ i.station;
}

pub returns-in-Err-clause-err : goal.returns-in-Err-clause-err
returns-in-Err-clause-err g c e may = let i = c.loop-taken.invariant in let a = i.added e may in
    let h = c.in-Err.ensures.err _ (adds_still g.C.Cell.tells g.C.Cell.state g.O.Origin.offers c.args.store.now c.args.tab e c.args.pass.now _ c.args.from c.args.upto c.loop-taken.taken c.loop-taken.pass may i.over i.under a) in
    added_not g.C.Cell.tells g.C.Cell.state g.O.Origin.offers c.args.store.now c.args.tab e c.args.pass.now c.loop-taken.pass c.append_some.new.pass _ h.0 c.in-Err.fault a h.1

pub returns-in-Err-clause-fewer : goal.returns-in-Err-clause-fewer
returns-in-Err-clause-fewer g c e may = let i = c.loop-taken.invariant in let a = i.added e may in
    let h = c.in-Err.ensures.err _ (adds_still g.C.Cell.tells g.C.Cell.state g.O.Origin.offers c.args.store.now c.args.tab e c.args.pass.now _ c.args.from c.args.upto c.loop-taken.taken c.loop-taken.pass may i.over i.under a) in
    added_below g.C.Cell.tells g.C.Cell.state g.O.Origin.offers c.args.store.now c.args.tab e c.args.pass.now c.loop-taken.pass c.append_some.new.pass _ _ h.0 c.in-Err.fault
    (let over = i.over in let below = c.loop-taken-test.true in omega arith) a h.1

pub returns-in-Err-clause-others : goal.returns-in-Err-clause-others
returns-in-Err-clause-others g c = follows_on g.C.Cell.tells g.C.Cell.state g.O.Origin.offers c.args.store.now c.args.tab c.args.pass.now c.loop-taken.pass c.append_some.new.pass c.loop-taken.invariant.follows c.in-Err.ensures.others

pub returns-in-Err-clause-unfailed : goal.returns-in-Err-clause-unfailed
returns-in-Err-clause-unfailed g c not = c.in-Err.ensures.unfailed (λ w. not (error_as w)) ∙ c.loop-taken.invariant.station

pub returns-in-Err-clause-failed : goal.returns-in-Err-clause-failed
returns-in-Err-clause-failed g c w = subst (λ z. Rose z (g.St.Station.faults c.append_some.new.station)) c.loop-taken.invariant.station (c.in-Err.ensures.failed (error_as w))

pub returns-clause-ok : goal.returns-clause-ok
returns-clause-ok g c e may = let i = c.loop-taken.invariant in
    subst (λ (n : ℕ). Added g.C.Cell.tells g.C.Cell.state g.O.Origin.offers c.args.store.now c.args.tab e c.args.pass.now c.loop-taken.pass n) (let over = i.under in let past = c.loop-taken-test.false in omega arith) (i.added e may)

pub returns-clause-durable : goal.returns-clause-durable
returns-clause-durable g c e may logged = let i = c.loop-taken.invariant in
    more_taken (basis g.C.Cell.tells g.C.Cell.state g.O.Origin.offers c.args.store.now) e (view c.loop-taken.pass) _ _ (let over = i.under in let past = c.loop-taken-test.false in omega arith) (i.durable e may logged)
