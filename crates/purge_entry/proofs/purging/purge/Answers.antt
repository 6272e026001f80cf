use Rattle.std.proofs.Common.{sym}
use Rattle.lock_word.proofs.Parts.{epoch_of-word_number}
use Rattle.store_rule.specs.Passes.{view}
use Rattle.purge_entry.proofs.Answering.{follows, free_again, may_doom, may_part, purged}
use Rattle.purge_entry.proofs.purging.purge.Goals as goal

pub doom-word-requires : goal.doom-word-requires
doom-word-requires g c = may_doom g.C.Cell.tells g.C.Cell.state g.O.Origin.offers c.args.store.now c.args.pass.now c.args.url.now c.requires c.in_ok-come.field-0 c.come.new.pass c.come.ensures.others.own c.in_ok-come.ensures.ok

pub part-requires : goal.part-requires
part-requires g c = may_part g.C.Cell.tells g.C.Cell.state g.O.Origin.offers c.args.store.now c.args.pass.now c.args.url.now c.requires c.in_ok-come.field-0 c.come.new.pass c.come.ensures.others.own c.in_ok-come.ensures.ok c.doom-word.new.pass _ c.doom-word.ensures.made

pub returns-clause-ok : goal.returns-clause-ok
returns-clause-ok g c = purged g.C.Cell.tells g.C.Cell.state g.O.Origin.offers c.args.store.now c.args.pass.now c.args.url.now c.requires c.in_ok-come.field-0 c.come.new.pass c.come.ensures.others.own c.in_ok-come.ensures.ok c.doom-word.new.pass _ c.doom-word.ensures.made
    c.doom-word.result.epoch (sym (epoch_of-word_number c.doom-word.result c.doom-word.ensures.in_range.readers)) (view c.part.new.pass) c.part.ensures.parted

pub returns-clause-free : goal.returns-clause-free
returns-clause-free g c = free_again g.C.Cell.tells g.C.Cell.state g.O.Origin.offers c.args.store.now c.args.pass.now c.args.url.now c.requires c.in_ok-come.field-0 c.come.new.pass c.come.ensures.others.own c.in_ok-come.ensures.ok c.doom-word.new.pass _ c.doom-word.ensures.made (view c.part.new.pass) c.part.ensures.free

pub returns-clause-others : goal.returns-clause-others
returns-clause-others g c = follows g.C.Cell.tells g.C.Cell.state g.O.Origin.offers c.args.store.now c.args.pass.now c.args.url.now c.requires c.in_ok-come.field-0 c.come.new.pass c.come.ensures.others.own c.in_ok-come.ensures.ok c.doom-word.new.pass _ c.doom-word.ensures.made c.part.new.pass c.come.ensures.others c.part.ensures.others
