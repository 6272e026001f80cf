use Rattle.std.proofs.Common.{ap, arith, length, refl, ◌-◌}
use Rattle.std.specs.Prelude.{Err, Ok}
use Rattle.store_serve.specs.Adding.{taken_on}
use Rattle.store_serve.proofs.Faults.{as_told, faults_of_add}
use Rattle.store_serve.proofs.Keeping.{may_add, may_add_any}
use Rattle.store_serve.proofs.Leaving.{leaves_writing}
use Rattle.store_serve.proofs.writing.add_some.Goals as goal

pub returns-in-Ok-clause-served : goal.returns-in-Ok-clause-served
returns-in-Ok-clause-served g c e writes = let h = c.requires.writes in
    let may = may_add_any g.C.Cell.tells g.C.Cell.state g.O.Origin.offers c.args.store.now c.args.pass.now c.args.tab _ c.args.taken c.min-upto.result h (let a = h.inside in omega arith) (omega arith) e writes in record {
      outcome = Ok _;
      answer_is = refl;
      all = let a = ap length may.body_is in let b = may.from_is in let d = h.inside in omega arith;
      added = c.in-Ok.ensures.ok e may;
      given_up = tt;
      fewer = tt;
    }

pub returns-in-Ok-clause-holds : goal.returns-in-Ok-clause-holds
returns-in-Ok-clause-holds g c = let h = c.requires.writes in
    let may = may_add g.C.Cell.tells g.C.Cell.state g.O.Origin.offers c.args.store.now c.args.pass.now c.args.tab _ c.args.taken c.min-upto.result h (let a = h.inside in omega arith) (omega arith) in let added = c.in-Ok.ensures.ok h.entry may in record {
      entry = taken_on h.entry (c.min-upto.result - c.args.taken);
      writes = added.writes;
      body_is = h.body_is;
      taken_is = let a = h.taken_is in let b = h.inside in omega arith;
      inside = omega arith;
    }

pub returns-in-Ok-clause-faults : goal.returns-in-Ok-clause-faults
returns-in-Ok-clause-faults g c = record { rose = λ is. absurd (cc); same = λ is. c.in-Ok.ensures.unfailed (λ w. cc) }

pub returns-in-Ok-clause-leaves : goal.returns-in-Ok-clause-leaves
returns-in-Ok-clause-leaves g c = let p = c.args.pass.now in let q = c.add_bytes.new.pass in let h = c.requires.writes in
    let may = may_add g.C.Cell.tells g.C.Cell.state g.O.Origin.offers c.args.store.now p c.args.tab _ c.args.taken c.min-upto.result h (let a = h.inside in omega arith) (omega arith) in let added = c.in-Ok.ensures.ok h.entry may in
    leaves_writing g.C.Cell.tells g.C.Cell.state g.O.Origin.offers c.args.store.now c.args.tab p q c.in-Ok.ensures.others added.writes.rests.inner_free (c.serving_grows.ensures.added c.args.store.now c.args.tab _ h.entry p q added)

pub returns-in-Err-clause-served : goal.returns-in-Err-clause-served
returns-in-Err-clause-served g c e writes = let h = c.requires.writes in
    let may = may_add_any g.C.Cell.tells g.C.Cell.state g.O.Origin.offers c.args.store.now c.args.pass.now c.args.tab _ c.args.taken c.min-upto.result h (let a = h.inside in omega arith) (omega arith) e writes in record {
      outcome = Err c.in-Err.fault;
      answer_is = c.given_up.ensures;
      all = tt;
      added = tt;
      given_up = c.in-Err.ensures.err e may;
      fewer = let f = c.in-Err.ensures.fewer e may in record { not_added = f.not_added; fewer = let lt = f.fewer in let a = ap length may.body_is in let b = may.from_is in let d = h.inside in omega arith };
    }

pub returns-in-Err-clause-holds : goal.returns-in-Err-clause-holds
returns-in-Err-clause-holds g c = let h = c.requires.writes in
    let may = may_add g.C.Cell.tells g.C.Cell.state g.O.Origin.offers c.args.store.now c.args.pass.now c.args.tab _ c.args.taken c.min-upto.result h (let a = h.inside in omega arith) (omega arith) in (c.in-Err.ensures.err h.entry may).stopped.halts.parted.free

pub returns-in-Err-clause-faults : goal.returns-in-Err-clause-faults
returns-in-Err-clause-faults g c = as_told _ _ _ _ c.given_up.ensures (faults_of_add c.in-Err.fault _ _ c.in-Err.ensures.unfailed c.in-Err.ensures.failed)

pub returns-in-Err-clause-leaves : goal.returns-in-Err-clause-leaves
returns-in-Err-clause-leaves g c = let p = c.args.pass.now in let q = c.add_bytes.new.pass in let h = c.requires.writes in
    let may = may_add g.C.Cell.tells g.C.Cell.state g.O.Origin.offers c.args.store.now p c.args.tab _ c.args.taken c.min-upto.result h (let a = h.inside in omega arith) (omega arith) in let stopped = c.in-Err.ensures.err h.entry may in
    leaves_writing g.C.Cell.tells g.C.Cell.state g.O.Origin.offers c.args.store.now c.args.tab p q c.in-Err.ensures.others stopped.stopped.halts.parted.inner_free (c.serving_grows.ensures.not_added c.args.store.now c.args.tab h.entry c.in-Err.fault p q stopped)
