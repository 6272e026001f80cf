use Rattle.std.proofs.Common.{ap, arith, drop, length, refl, subst, take, ◌+◌, ◌-◌, ◌<◌, ◌∙◌}
use Rattle.rock_io.specs.Faults.{Rose}
use Rattle.collapse.proofs.Faults.{error_as}
use Rattle.collapse.proofs.Going.{writing_none, writing_on}
use Rattle.collapse.proofs.Takes.{added_at, added_none, added_not, added_one, length_rest, may_append_rest}
use Rattle.collapse.proofs.writing.append_all.Goals as goal

pub loop-taken-init : goal.loop-taken-init
loop-taken-init g c = record {
  within = omega arith;
  added = λ e may. added_none g.C.Cell.tells g.C.Cell.state g.O.Origin.offers c.args.store.now c.args.tab e c.args.pass.now _ may.writes (omega arith);
  follows = writing_none g.C.Cell.tells g.C.Cell.state g.O.Origin.offers c.args.store.now c.args.tab c.args.pass.now c.requires.1.writes.rests.own;
  station = refl;
}

pub append-requires : goal.append-requires
append-requires g c = let i = c.loop-taken.invariant in let e = c.requires.0 in let may = c.requires.1 in
    (_, may_append_rest g.C.Cell.tells g.C.Cell.state g.O.Origin.offers c.args.store.now c.args.tab e c.args.pass.now c.loop-taken.pass c.args.bytes.now c.loop-taken.taken (e.taken + c.loop-taken.taken) may (i.added e may) refl i.within)

pub loop-taken-smaller : goal.loop-taken-smaller
loop-taken-smaller g c =
    let some : 0 < c.in-Ok.count = c.in-Ok.ensures.some (λ same. absurd (let l = ap length same in let m = length_rest c.args.bytes.now c.loop-taken.taken in let below = c.loop-taken-test.true in omega (arith, l, m))) in
    let n = c.in-Ok.ensures.within in let m = length_rest c.args.bytes.now c.loop-taken.taken in let below = c.loop-taken-test.true in omega (arith, n, m, some)

pub loop-taken-preserved : goal.loop-taken-preserved
loop-taken-preserved g c = let i = c.loop-taken.invariant in let ok = c.in-Ok.ensures in record {
  within = let n = ok.within in let m = length_rest c.args.bytes.now c.loop-taken.taken in let below = c.loop-taken-test.true in omega (arith, n, m);
  added = λ e may. let a = i.added e may in
      added_one g.C.Cell.tells g.C.Cell.state g.O.Origin.offers c.args.store.now c.args.tab e c.args.pass.now c.loop-taken.pass c.append.new.pass (e.taken + c.loop-taken.taken) c.in-Ok.count _ (take (length c.args.bytes.now - c.loop-taken.taken) (drop c.loop-taken.taken c.args.bytes.now)) a
      (ok.ok _ (may_append_rest g.C.Cell.tells g.C.Cell.state g.O.Origin.offers c.args.store.now c.args.tab e c.args.pass.now c.loop-taken.pass c.args.bytes.now c.loop-taken.taken (e.taken + c.loop-taken.taken) may a refl i.within)) (omega arith);
  follows = writing_on g.C.Cell.tells g.C.Cell.state g.O.Origin.offers c.args.store.now c.args.tab c.args.pass.now c.loop-taken.pass c.append.new.pass i.follows ok.others;
  station = ok.unfailed (λ w. cc) ∙ i.station;
}

pub returns-in-Err-clause-err : goal.returns-in-Err-clause-err
returns-in-Err-clause-err g c e may = let i = c.loop-taken.invariant in let a = i.added e may in
    added_not g.C.Cell.tells g.C.Cell.state g.O.Origin.offers c.args.store.now c.args.tab e c.args.pass.now c.loop-taken.pass c.append.new.pass (e.taken + c.loop-taken.taken) (take (length c.args.bytes.now - c.loop-taken.taken) (drop c.loop-taken.taken c.args.bytes.now)) c.in-Err.fault a
    (c.in-Err.ensures.err _ (may_append_rest g.C.Cell.tells g.C.Cell.state g.O.Origin.offers c.args.store.now c.args.tab e c.args.pass.now c.loop-taken.pass c.args.bytes.now c.loop-taken.taken (e.taken + c.loop-taken.taken) may a refl i.within))

pub returns-in-Err-clause-others : goal.returns-in-Err-clause-others
returns-in-Err-clause-others g c = writing_on g.C.Cell.tells g.C.Cell.state g.O.Origin.offers c.args.store.now c.args.tab c.args.pass.now c.loop-taken.pass c.append.new.pass c.loop-taken.invariant.follows c.in-Err.ensures.others

pub returns-in-Err-clause-unfailed : goal.returns-in-Err-clause-unfailed
returns-in-Err-clause-unfailed g c not = c.in-Err.ensures.unfailed (λ w. not (error_as w)) ∙ c.loop-taken.invariant.station

pub returns-in-Err-clause-failed : goal.returns-in-Err-clause-failed
returns-in-Err-clause-failed g c w = subst (λ z. Rose z (g.St.Station.faults c.append.new.station)) c.loop-taken.invariant.station (c.in-Err.ensures.failed (error_as w))

pub returns-clause-ok : goal.returns-clause-ok
returns-clause-ok g c e may = let i = c.loop-taken.invariant in
    added_at g.C.Cell.tells g.C.Cell.state g.O.Origin.offers c.args.store.now c.args.tab e c.args.pass.now c.loop-taken.pass _ _ (let over = i.within in let past = c.loop-taken-test.false in omega arith) (i.added e may)
