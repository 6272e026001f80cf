use Rattle.std.proofs.Common.{false, true}
use Rattle.std.proofs.lemmas.Result.{on_err_weaker, on_ok_weaker}
use Rattle.store_rule.specs.Passes.{basis, view}
use Rattle.store_rule.proofs.Quieting.{quiet_then}
use Rattle.purge_entry.proofs.Blanking.{may_free, tabs_kept, wiped_and_freed}
use Rattle.purge_entry.proofs.Following.{follows_wiped}
use Rattle.purge_entry.proofs.wiping.wipe_and_free.Goals as goal

pub free_chain-requires : goal.free_chain-requires
free_chain-requires g c = may_free g.C.Cell.tells g.C.Cell.state g.O.Origin.offers c.args.store.now c.args.pass.now c.wipe_first-wiped.new.pass c.requires c.wipe_first-wiped.ensures.others.own
    (tabs_kept (basis g.C.Cell.tells g.C.Cell.state g.O.Origin.offers c.args.store.now) (view c.args.pass.now) (view c.wipe_first-wiped.new.pass) c.wipe_first-wiped.result c.wipe_first-wiped.ensures.ok c.wipe_first-wiped.ensures.err)

pub returns-clause-ok : goal.returns-clause-ok
returns-clause-ok g c = on_ok_weaker c.wipe_first-wiped.result (λ h. wiped_and_freed (basis g.C.Cell.tells g.C.Cell.state g.O.Origin.offers c.args.store.now) (view c.args.pass.now) (view c.wipe_first-wiped.new.pass) (view c.free_chain.new.pass) true h c.free_chain.ensures.freed) c.wipe_first-wiped.ensures.ok

pub returns-clause-err : goal.returns-clause-err
returns-clause-err g c = on_err_weaker c.wipe_first-wiped.result (λ h. wiped_and_freed (basis g.C.Cell.tells g.C.Cell.state g.O.Origin.offers c.args.store.now) (view c.args.pass.now) (view c.wipe_first-wiped.new.pass) (view c.free_chain.new.pass) false h c.free_chain.ensures.freed) c.wipe_first-wiped.ensures.err

pub returns-clause-others : goal.returns-clause-others
returns-clause-others g c = follows_wiped g.C.Cell.tells g.C.Cell.state g.O.Origin.offers c.args.store.now c.args.pass.now c.wipe_first-wiped.new.pass c.free_chain.new.pass
    (tabs_kept (basis g.C.Cell.tells g.C.Cell.state g.O.Origin.offers c.args.store.now) (view c.args.pass.now) (view c.wipe_first-wiped.new.pass) c.wipe_first-wiped.result c.wipe_first-wiped.ensures.ok c.wipe_first-wiped.ensures.err)
    c.wipe_first-wiped.ensures.others c.free_chain.ensures.others

pub returns-clause-quiet : goal.returns-clause-quiet
returns-clause-quiet g c = quiet_then c.wipe_first-wiped.ensures.quiet c.free_chain.ensures.quiet
