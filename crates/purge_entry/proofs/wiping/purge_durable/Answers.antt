use Rattle.std.proofs.Common.{false, sym, true}
use Rattle.lock_word.proofs.Parts.{epoch_of-word_number}
use Rattle.core_model.specs.Tabs.{inner}
use Rattle.store_rule.specs.Passes.{basis, view}
use Rattle.rock_reader.proofs.Parting.{done_tabs, follows_tab}
use Rattle.purge_entry.proofs.Answering.{follows, free_again, may_doom, may_part}
use Rattle.purge_entry.proofs.Following.{follows_none, follows_read}
use Rattle.purge_entry.proofs.LastUser.{as_last, free_last, may_leave, may_wipe, to_others}
use Rattle.purge_entry.proofs.wiping.purge_durable.Goals as goal

pub doom-requires : goal.doom-requires
doom-requires g c = may_doom g.C.Cell.tells g.C.Cell.state g.O.Origin.offers c.args.store.now c.args.pass.now c.args.url.now c.requires c.in_default.field-0 c.come.new.pass c.come.ensures.others.own c.in_default.ensures.ok

pub leave-requires-clause-counted : goal.leave-requires-clause-counted
leave-requires-clause-counted g c = λ other. may_leave g.C.Cell.tells g.C.Cell.state g.O.Origin.offers c.args.store.now c.doom.new.pass inner (may_part g.C.Cell.tells g.C.Cell.state g.O.Origin.offers c.args.store.now c.args.pass.now c.args.url.now c.requires c.in_default.field-0 c.come.new.pass c.come.ensures.others.own c.in_default.ensures.ok c.doom.new.pass _ c.doom.ensures.made)

pub wipe_and_free-requires : goal.wipe_and_free-requires
wipe_and_free-requires g c = may_wipe g.C.Cell.tells g.C.Cell.state g.O.Origin.offers c.args.store.now c.args.pass.now c.args.url.now c.requires c.in_default.field-0 c.come.new.pass c.come.ensures.others.own c.in_default.ensures.ok c.doom.new.pass _ c.doom.ensures.made c.leave.new.pass c.in-MustFree.ensures.left c.leave.ensures.others.own

pub returns-in-Done-clause-ok : goal.returns-in-Done-clause-ok
returns-in-Done-clause-ok g c = to_others g.C.Cell.tells g.C.Cell.state g.O.Origin.offers c.args.store.now c.args.pass.now c.args.url.now c.requires c.in_default.field-0 c.come.new.pass c.come.ensures.others.own c.in_default.ensures.ok c.doom.new.pass _ c.doom.ensures.made c.leave.new.pass c.in-Done.ensures.left c.doom.result.epoch (sym (epoch_of-word_number c.doom.result c.doom.ensures.in_range.readers))

pub returns-in-Done-clause-free : goal.returns-in-Done-clause-free
returns-in-Done-clause-free g c = free_again g.C.Cell.tells g.C.Cell.state g.O.Origin.offers c.args.store.now c.args.pass.now c.args.url.now c.requires c.in_default.field-0 c.come.new.pass c.come.ensures.others.own c.in_default.ensures.ok c.doom.new.pass _ c.doom.ensures.made (view c.leave.new.pass)
    (done_tabs (basis g.C.Cell.tells g.C.Cell.state g.O.Origin.offers c.args.store.now) inner (view c.doom.new.pass) (may_part g.C.Cell.tells g.C.Cell.state g.O.Origin.offers c.args.store.now c.args.pass.now c.args.url.now c.requires c.in_default.field-0 c.come.new.pass c.come.ensures.others.own c.in_default.ensures.ok c.doom.new.pass _ c.doom.ensures.made).counted (view c.leave.new.pass) c.in-Done.ensures.left)

pub returns-in-Done-clause-others : goal.returns-in-Done-clause-others
returns-in-Done-clause-others g c = follows_none g.C.Cell.tells g.C.Cell.state g.O.Origin.offers c.args.store.now c.args.pass.now c.leave.new.pass (follows g.C.Cell.tells g.C.Cell.state g.O.Origin.offers c.args.store.now c.args.pass.now c.args.url.now c.requires c.in_default.field-0 c.come.new.pass c.come.ensures.others.own c.in_default.ensures.ok c.doom.new.pass _ c.doom.ensures.made
    c.leave.new.pass c.come.ensures.others (follows_tab g.C.Cell.tells g.C.Cell.state g.O.Origin.offers c.args.store.now c.doom.new.pass inner c.leave.new.pass c.leave.ensures.others))

pub returns-in-Ok-clause-ok : goal.returns-in-Ok-clause-ok
returns-in-Ok-clause-ok g c = as_last g.C.Cell.tells g.C.Cell.state g.O.Origin.offers c.args.store.now c.args.pass.now c.args.url.now c.requires c.in_default.field-0 c.come.new.pass c.come.ensures.others.own c.in_default.ensures.ok c.doom.new.pass _ c.doom.ensures.made c.leave.new.pass c.in-MustFree.ensures.left true (view c.wipe_and_free.new.pass) c.in-Ok.ensures.ok c.doom.result.epoch (sym (epoch_of-word_number c.doom.result c.doom.ensures.in_range.readers))

pub returns-in-Ok-clause-free : goal.returns-in-Ok-clause-free
returns-in-Ok-clause-free g c = free_again g.C.Cell.tells g.C.Cell.state g.O.Origin.offers c.args.store.now c.args.pass.now c.args.url.now c.requires c.in_default.field-0 c.come.new.pass c.come.ensures.others.own c.in_default.ensures.ok c.doom.new.pass _ c.doom.ensures.made (view c.wipe_and_free.new.pass) (free_last g.C.Cell.tells g.C.Cell.state g.O.Origin.offers c.args.store.now c.args.pass.now c.args.url.now c.requires c.in_default.field-0 c.come.new.pass c.come.ensures.others.own c.in_default.ensures.ok c.doom.new.pass _ c.doom.ensures.made c.leave.new.pass c.in-MustFree.ensures.left true (view c.wipe_and_free.new.pass) c.in-Ok.ensures.ok)

pub returns-in-Ok-clause-others : goal.returns-in-Ok-clause-others
returns-in-Ok-clause-others g c = follows_read g.C.Cell.tells g.C.Cell.state g.O.Origin.offers c.args.store.now c.args.pass.now c.leave.new.pass c.wipe_and_free.new.pass (follows g.C.Cell.tells g.C.Cell.state g.O.Origin.offers c.args.store.now c.args.pass.now c.args.url.now c.requires c.in_default.field-0 c.come.new.pass c.come.ensures.others.own c.in_default.ensures.ok c.doom.new.pass _ c.doom.ensures.made
    c.leave.new.pass c.come.ensures.others (follows_tab g.C.Cell.tells g.C.Cell.state g.O.Origin.offers c.args.store.now c.doom.new.pass inner c.leave.new.pass c.leave.ensures.others)) c.wipe_and_free.ensures.others

pub returns-in-Err-wipe_and_free-clause-err : goal.returns-in-Err-wipe_and_free-clause-err
returns-in-Err-wipe_and_free-clause-err g c = (c.doom.result.epoch, as_last g.C.Cell.tells g.C.Cell.state g.O.Origin.offers c.args.store.now c.args.pass.now c.args.url.now c.requires c.in_default.field-0 c.come.new.pass c.come.ensures.others.own c.in_default.ensures.ok c.doom.new.pass _ c.doom.ensures.made c.leave.new.pass c.in-MustFree.ensures.left false (view c.wipe_and_free.new.pass) c.in-Err-wipe_and_free.ensures.err c.doom.result.epoch (sym (epoch_of-word_number c.doom.result c.doom.ensures.in_range.readers)))

pub returns-in-Err-wipe_and_free-clause-free : goal.returns-in-Err-wipe_and_free-clause-free
returns-in-Err-wipe_and_free-clause-free g c = free_again g.C.Cell.tells g.C.Cell.state g.O.Origin.offers c.args.store.now c.args.pass.now c.args.url.now c.requires c.in_default.field-0 c.come.new.pass c.come.ensures.others.own c.in_default.ensures.ok c.doom.new.pass _ c.doom.ensures.made (view c.wipe_and_free.new.pass) (free_last g.C.Cell.tells g.C.Cell.state g.O.Origin.offers c.args.store.now c.args.pass.now c.args.url.now c.requires c.in_default.field-0 c.come.new.pass c.come.ensures.others.own c.in_default.ensures.ok c.doom.new.pass _ c.doom.ensures.made c.leave.new.pass c.in-MustFree.ensures.left false (view c.wipe_and_free.new.pass) c.in-Err-wipe_and_free.ensures.err)

pub returns-in-Err-wipe_and_free-clause-others : goal.returns-in-Err-wipe_and_free-clause-others
returns-in-Err-wipe_and_free-clause-others g c = follows_read g.C.Cell.tells g.C.Cell.state g.O.Origin.offers c.args.store.now c.args.pass.now c.leave.new.pass c.wipe_and_free.new.pass (follows g.C.Cell.tells g.C.Cell.state g.O.Origin.offers c.args.store.now c.args.pass.now c.args.url.now c.requires c.in_default.field-0 c.come.new.pass c.come.ensures.others.own c.in_default.ensures.ok c.doom.new.pass _ c.doom.ensures.made
    c.leave.new.pass c.come.ensures.others (follows_tab g.C.Cell.tells g.C.Cell.state g.O.Origin.offers c.args.store.now c.doom.new.pass inner c.leave.new.pass c.leave.ensures.others)) c.wipe_and_free.ensures.others
