use Rattle.core_model.specs.Tabs.{inner}
use Rattle.store_rule.specs.Passes.{view}
use Rattle.store_serve.proofs.Gets.{inner_stays, reader_tab, reads_still, tabs_back}
use Rattle.store_serve.proofs.Gives.{reader_on}
use Rattle.store_serve.proofs.Inner.{not_inner, other_tab}
use Rattle.store_serve.proofs.getting.get_entry.Goals as goal

pub close_entry-requires : goal.close_entry-requires
close_entry-requires g c = let reads = c.in-Ok.ensures.reads in
    let still = reads_still g.C.Cell.tells g.C.Cell.state g.O.Origin.offers c.args.store.now c.args.tab _ c.open_entry.new.pass c.read_on-ended.new.pass _ _ c.read_on-ended.result (c.read_on-ended.ensures.went _ reads.1) (c.read_on-ended.ensures.stopped _ reads.1) in
    c.reading_tabs_may_go_on.ensures.close _ _ _ still.0 still.1
    (inner_stays (view c.open_entry.new.pass) (view c.read_on-ended.new.pass) c.read_on-ended.ensures.inner
    (inner_stays (view c.args.pass.now) (view c.open_entry.new.pass) (other_tab c.args.tab (view c.args.pass.now) (view c.open_entry.new.pass) _ inner (not_inner c.args.tab c.requires.may.below) c.in-Ok.ensures.ok.tabs) c.requires.may.inner_free))

pub returns-in-Ok-ended-clause-got : goal.returns-in-Ok-ended-clause-got
returns-in-Ok-ended-clause-got g c = let reads = c.in-Ok.ensures.reads in let went = c.in-Ok-ended.ensures.went _ reads.1 in (
  went.0,
  went.1,
  record {
    opened = c.open_entry.new.pass;
    opens = c.in-Ok.ensures.ok;
    offer = reads.0;
    reads = reads.1;
    read = c.read_on-ended.new.pass;
    went = went.2;
    parted = c.close_entry.ensures.parted;
  },
)

pub returns-in-Ok-ended-clause-free : goal.returns-in-Ok-ended-clause-free
returns-in-Ok-ended-clause-free g c = tabs_back c.args.tab (view c.args.pass.now) (view c.open_entry.new.pass) (view c.read_on-ended.new.pass) (view c.close_entry.new.pass) _ c.requires.may.free c.requires.may.below c.in-Ok.ensures.ok.tabs c.read_on-ended.ensures.others.others c.read_on-ended.ensures.inner c.close_entry.ensures.free

pub returns-in-Ok-ended-clause-failed : goal.returns-in-Ok-ended-clause-failed
returns-in-Ok-ended-clause-failed g c is = c.in-Ok-ended.ensures.failed is

pub returns-in-Ok-ended-clause-unfailed : goal.returns-in-Ok-ended-clause-unfailed
returns-in-Ok-ended-clause-unfailed g c not = c.in-Ok-ended.ensures.unfailed not

pub returns-in-Ok-ended-clause-others : goal.returns-in-Ok-ended-clause-others
returns-in-Ok-ended-clause-others g c = reader_on g.C.Cell.tells g.C.Cell.state g.O.Origin.offers c.args.store.now c.args.tab _ _ _ (reader_on g.C.Cell.tells g.C.Cell.state g.O.Origin.offers c.args.store.now c.args.tab _ _ _ c.in-Ok.ensures.others c.read_on-ended.ensures.others) (reader_tab g.C.Cell.tells g.C.Cell.state g.O.Origin.offers c.args.store.now c.args.tab _ _ c.close_entry.ensures.others)

pub returns-in-Err-ended-clause-stopped : goal.returns-in-Err-ended-clause-stopped
returns-in-Err-ended-clause-stopped g c = let reads = c.in-Ok.ensures.reads in let some = c.in-Err-ended.ensures.stopped _ reads.1 in (
  some.0,
  record {
    version = _;
    opened = c.open_entry.new.pass;
    opens = c.in-Ok.ensures.ok;
    offer = reads.0;
    reads = reads.1;
    read = c.read_on-ended.new.pass;
    some = some.1;
    parted = c.close_entry.ensures.parted;
  },
)

pub returns-in-Err-ended-clause-free : goal.returns-in-Err-ended-clause-free
returns-in-Err-ended-clause-free g c = tabs_back c.args.tab (view c.args.pass.now) (view c.open_entry.new.pass) (view c.read_on-ended.new.pass) (view c.close_entry.new.pass) _ c.requires.may.free c.requires.may.below c.in-Ok.ensures.ok.tabs c.read_on-ended.ensures.others.others c.read_on-ended.ensures.inner c.close_entry.ensures.free

pub returns-in-Err-ended-clause-others : goal.returns-in-Err-ended-clause-others
returns-in-Err-ended-clause-others g c = reader_on g.C.Cell.tells g.C.Cell.state g.O.Origin.offers c.args.store.now c.args.tab _ _ _ (reader_on g.C.Cell.tells g.C.Cell.state g.O.Origin.offers c.args.store.now c.args.tab _ _ _ c.in-Ok.ensures.others c.read_on-ended.ensures.others) (reader_tab g.C.Cell.tells g.C.Cell.state g.O.Origin.offers c.args.store.now c.args.tab _ _ c.close_entry.ensures.others)
