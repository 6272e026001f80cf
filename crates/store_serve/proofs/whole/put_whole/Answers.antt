use Rattle.store_serve.specs.Whole.{whole_tab}
use Rattle.store_serve.proofs.Faults.{as_told, faults_of_put}
use Rattle.store_serve.proofs.Leaving.{leaves_writing}
use Rattle.store_serve.proofs.Outcomes.{either_way, put_long}
use Rattle.store_serve.proofs.whole.put_whole.Goals as goal

pub returns-clause-served : goal.returns-clause-served
returns-clause-served g c = record {
  outcome = c.put_entry-outcome.result;
  answer_is = c.stored.ensures;
  stored = c.put_entry-outcome.ensures.ok;
  refused = c.put_entry-outcome.ensures.err;
  long = put_long _ _ _ c.stored.ensures c.put_entry-outcome.ensures.long;
  free = c.put_entry-outcome.ensures.free;
  stays = c.put_entry-outcome.ensures.stays;
  known = c.put_entry-outcome.ensures.durable;
}

pub returns-clause-leaves : goal.returns-clause-leaves
returns-clause-leaves g c = let p = c.args.pass.now in let q = c.put_entry-outcome.new.pass in
    leaves_writing g.C.Cell.tells g.C.Cell.state g.O.Origin.offers c.args.store.now whole_tab p q c.put_entry-outcome.ensures.others c.put_entry-outcome.ensures.inner
    (either_way c.put_entry-outcome.result (λ ended h. c.serving_grows.ensures.put c.args.store.now whole_tab c.args.offer c.args.url.now c.args.durable ended p q h)
    (λ fault h. c.serving_grows.ensures.not_put c.args.store.now whole_tab c.args.offer c.args.url.now c.args.durable fault p q h) c.put_entry-outcome.ensures.ok c.put_entry-outcome.ensures.err)

pub returns-clause-faults : goal.returns-clause-faults
returns-clause-faults g c = as_told _ _ _ _ c.stored.ensures (faults_of_put c.put_entry-outcome.result _ _ c.put_entry-outcome.ensures.unfailed c.put_entry-outcome.ensures.failed)
