use Rattle.std.proofs.Common.{ap, subst, ◌++◌, ◌∙◌}
use Rattle.store_rule.specs.Passes.{view}
use Rattle.store_serve.specs.Answers.{AnswersMore}
use Rattle.store_serve.proofs.Faults.{faults_of_more}
use Rattle.store_serve.proofs.Leaving.{inner_beside, inner_stays, leaves_both, leaves_reading, leaves_tab}
use Rattle.store_serve.proofs.reading.read_or_close.Goals as goal

pub read-requires : goal.read-requires
read-requires g c count is = (c.in-Ok.ensures.went c.requires.reads.0 c.requires.reads.1).2.no_piece count is

pub close_entry-requires : goal.close_entry-requires
close_entry-requires g c = let h = c.in-Err.ensures.stopped c.requires.reads.0 c.requires.reads.1 in
    c.reading_tabs_may_go_on.ensures.close _ c.read_on.new.pass _ _ h.1.reads (inner_stays (view c.args.pass.now) (view c.read_on.new.pass) c.in-Err.ensures.inner c.requires.ready.inner_free)

pub returns-in-Ok-clause-served : goal.returns-in-Ok-clause-served
returns-in-Ok-clause-served g c e reads = let h = c.in-Ok.ensures.went e reads in record {
  why = c.in-Ok.why;
  bytes = h.0;
  answer_is = subst (λ z. AnswersMore c.in-Ok.why z c.read.result) (c.from_vec.ensures ∙ h.1 ∙ ap (λ z. z ++ h.0) c.new-out.ensures.items) c.read.ensures;
  went = h.2;
  stays = c.in-Ok.ensures.others.hand;
}

pub returns-in-Ok-clause-reads : goal.returns-in-Ok-clause-reads
returns-in-Ok-clause-reads g c = let h = c.in-Ok.ensures.went c.requires.reads.0 c.requires.reads.1 in (h.2.last, h.2.reads)

pub returns-in-Ok-clause-faults : goal.returns-in-Ok-clause-faults
returns-in-Ok-clause-faults g c = faults_of_more c.in-Ok.why _ _ _ _ c.read.ensures c.in-Ok.ensures.failed c.in-Ok.ensures.unfailed

pub returns-in-Ok-clause-leaves : goal.returns-in-Ok-clause-leaves
returns-in-Ok-clause-leaves g c = let p = c.args.pass.now in let q = c.read_on.new.pass in let h = c.in-Ok.ensures.went c.requires.reads.0 c.requires.reads.1 in
    leaves_reading g.C.Cell.tells g.C.Cell.state g.O.Origin.offers c.args.store.now c.args.tab p q c.in-Ok.ensures.others (inner_stays (view p) (view q) c.in-Ok.ensures.inner c.requires.ready.inner_free)
    (c.serving_grows.ensures.went c.args.store.now c.args.tab _ h.0 c.in-Ok.why p q h.2)

pub returns-in-Err-clause-leaves : goal.returns-in-Err-clause-leaves
returns-in-Err-clause-leaves g c = let p = c.args.pass.now in let m = c.read_on.new.pass in let q = c.close_entry.new.pass in let h = c.in-Err.ensures.stopped c.requires.reads.0 c.requires.reads.1 in
    let free = inner_stays (view p) (view m) c.in-Err.ensures.inner c.requires.ready.inner_free in
    leaves_both g.C.Cell.tells g.C.Cell.state g.O.Origin.offers c.args.store.now c.args.tab p m q
    (leaves_reading g.C.Cell.tells g.C.Cell.state g.O.Origin.offers c.args.store.now c.args.tab p m c.in-Err.ensures.others free (c.serving_grows.ensures.gave_some c.args.store.now c.args.tab _ h.0 p m h.1))
    (leaves_tab g.C.Cell.tells g.C.Cell.state g.O.Origin.offers c.args.store.now c.args.tab m q c.close_entry.ensures.others (inner_beside c.args.tab (view m) (view q) _ c.requires.reads.1.below c.close_entry.ensures.free free)
    (c.reading_grows.ensures.parted _ _ (view m) (view q) c.close_entry.ensures.parted))
