use Rattle.std.proofs.Common.{arith}
use Rattle.store_serve.proofs.Faults.{as_told, faults_of_end}
use Rattle.store_serve.proofs.Keeping.{may_add, may_add_any}
use Rattle.store_serve.proofs.Leaving.{leaves_writing}
use Rattle.store_serve.proofs.Outcomes.{either_way}
use Rattle.store_serve.proofs.writing.end_body.Goals as goal

pub end_entry-requires : goal.end_entry-requires
end_entry-requires g c = (_, may_add g.C.Cell.tells g.C.Cell.state g.O.Origin.offers c.args.store.now c.args.pass.now c.args.tab _ c.args.taken _ c.requires.writes c.requires.writes.inside (omega arith))

pub returns-clause-served : goal.returns-clause-served
returns-clause-served g c e writes = let may = may_add_any g.C.Cell.tells g.C.Cell.state g.O.Origin.offers c.args.store.now c.args.pass.now c.args.tab _ c.args.taken _ c.requires.writes c.requires.writes.inside (omega arith) e writes in record {
  outcome = c.end_entry.result;
  answer_is = c.ended.ensures;
  ended = c.end_entry.ensures.ok e may;
  given_up = c.end_entry.ensures.err e may;
}

pub returns-clause-leaves : goal.returns-clause-leaves
returns-clause-leaves g c = let p = c.args.pass.now in let q = c.end_entry.new.pass in
    let may = may_add g.C.Cell.tells g.C.Cell.state g.O.Origin.offers c.args.store.now p c.args.tab _ c.args.taken _ c.requires.writes c.requires.writes.inside (omega arith) in
    leaves_writing g.C.Cell.tells g.C.Cell.state g.O.Origin.offers c.args.store.now c.args.tab p q c.end_entry.ensures.others c.end_entry.ensures.inner
    (either_way c.end_entry.result (λ ended h. c.serving_grows.ensures.ended c.args.store.now c.args.tab _ ended p q h) (λ fault h. c.serving_grows.ensures.not_ended c.args.store.now c.args.tab _ fault p q h)
    (c.end_entry.ensures.ok _ may) (c.end_entry.ensures.err _ may))

pub returns-clause-faults : goal.returns-clause-faults
returns-clause-faults g c = as_told _ _ _ _ c.ended.ensures (faults_of_end c.end_entry.result _ _ c.end_entry.ensures.unfailed c.end_entry.ensures.failed)
