use Rattle.std.proofs.Common.{subst, ◌∙◌}
use Rattle.lock_word.specs.declared.cause.Cause.{Cause}
use Rattle.rock_reader.specs.Opening.{Refused}
use Rattle.store_rule.specs.Passes.{basis, view}
use Rattle.collapse.proofs.Asks.{found_busy, found_writing, may_in_vain, may_open, may_refused}
use Rattle.collapse.proofs.Going.{forward_on, inner_beside, inner_same, of_reader, of_writing, same_tabs}
use Rattle.collapse.proofs.asking.ask_once.Goals as goal

pub open_entry-requires : goal.open_entry-requires
open_entry-requires g c = may_open g.C.Cell.tells g.C.Cell.state g.O.Origin.offers c.args.store.now c.args.tab c.args.offer c.args.url.now c.args.pass.now c.requires

pub returns-in-Ok-clause-asked : goal.returns-in-Ok-clause-asked
returns-in-Ok-clause-asked g c = record { opens = c.in-Ok.ensures.ok; offer_of = c.in-Ok.ensures.reads.0; reads = c.in-Ok.ensures.reads.1 }

pub returns-in-Ok-clause-inner : goal.returns-in-Ok-clause-inner
returns-in-Ok-clause-inner g c = inner_beside c.args.tab (view c.args.pass.now) (view c.open_entry.new.pass) _ c.requires.below c.in-Ok.ensures.ok.tabs c.requires.inner_free

pub returns-in-Ok-clause-others : goal.returns-in-Ok-clause-others
returns-in-Ok-clause-others g c = of_reader g.C.Cell.tells g.C.Cell.state g.O.Origin.offers c.args.store.now c.args.tab c.args.pass.now c.open_entry.new.pass c.in-Ok.ensures.others

pub returns-in-Writing-clause-asked : goal.returns-in-Writing-clause-asked
returns-in-Writing-clause-asked g c = found_writing g.C.Cell.tells g.C.Cell.state g.O.Origin.offers c.args.store.now c.args.tab c.args.offer c.args.url.now c.args.pass.now c.open_entry.new.pass c.in-Writing.epoch (subst (λ (z : Cause). Refused (basis g.C.Cell.tells g.C.Cell.state g.O.Origin.offers c.args.store.now) c.args.tab c.args.url.now (view c.args.pass.now) z (view c.open_entry.new.pass)) c.in-Writing.is c.in-Err.ensures.err)

pub returns-in-Writing-clause-free : goal.returns-in-Writing-clause-free
returns-in-Writing-clause-free g c = same_tabs (view c.args.pass.now) (view c.open_entry.new.pass) c.in-Err.ensures.free c.args.tab ∙ c.requires.free

pub returns-in-Writing-clause-inner : goal.returns-in-Writing-clause-inner
returns-in-Writing-clause-inner g c = inner_same (view c.args.pass.now) (view c.open_entry.new.pass) c.in-Err.ensures.free c.requires.inner_free

pub returns-in-Writing-clause-still : goal.returns-in-Writing-clause-still
returns-in-Writing-clause-still g c is = may_refused g.C.Cell.tells g.C.Cell.state g.O.Origin.offers c.args.store.now c.args.tab c.args.offer c.args.url.now c.args.pass.now c.open_entry.new.pass c.in-Err.cause c.requires c.in-Err.ensures.others.own c.in-Err.ensures.free c.in-Err.ensures.err

pub returns-in-Writing-clause-others : goal.returns-in-Writing-clause-others
returns-in-Writing-clause-others g c = of_reader g.C.Cell.tells g.C.Cell.state g.O.Origin.offers c.args.store.now c.args.tab c.args.pass.now c.open_entry.new.pass c.in-Err.ensures.others

pub begin-requires : goal.begin-requires
begin-requires g c = may_refused g.C.Cell.tells g.C.Cell.state g.O.Origin.offers c.args.store.now c.args.tab c.args.offer c.args.url.now c.args.pass.now c.open_entry.new.pass c.in-Err.cause c.requires c.in-Err.ensures.others.own c.in-Err.ensures.free c.in-Err.ensures.err

pub returns-in-Ok-begin-clause-asked : goal.returns-in-Ok-begin-clause-asked
returns-in-Ok-begin-clause-asked g c = record { cause = c.in-Err.cause; middle = c.open_entry.new.pass; refused = c.in-Err.ensures.err; not_writing = c.in_default.not-Writing; began = c.in-Ok-begin.ensures.ok }

pub returns-in-Ok-begin-clause-inner : goal.returns-in-Ok-begin-clause-inner
returns-in-Ok-begin-clause-inner g c = c.in-Ok-begin.ensures.ok.writes.rests.inner_free

pub returns-in-Ok-begin-clause-others : goal.returns-in-Ok-begin-clause-others
returns-in-Ok-begin-clause-others g c = forward_on g.C.Cell.tells g.C.Cell.state g.O.Origin.offers c.args.store.now c.args.tab c.args.pass.now c.open_entry.new.pass c.begin.new.pass (of_reader g.C.Cell.tells g.C.Cell.state g.O.Origin.offers c.args.store.now c.args.tab c.args.pass.now c.open_entry.new.pass c.in-Err.ensures.others) (of_writing g.C.Cell.tells g.C.Cell.state g.O.Origin.offers c.args.store.now c.args.tab c.open_entry.new.pass c.begin.new.pass c.in-Ok-begin.ensures.others)

pub returns-then-is_overtaken-clause-asked : goal.returns-then-is_overtaken-clause-asked
returns-then-is_overtaken-clause-asked g c = let y = c.is_overtaken.ensures.yes c.if-is_overtaken.true in
    found_busy g.C.Cell.tells g.C.Cell.state g.O.Origin.offers c.args.store.now c.args.tab c.args.offer c.args.url.now c.args.pass.now c.open_entry.new.pass c.begin.new.pass c.in-Err.cause c.in-Err-begin.fault y.0 y.1 y.2 y.3 y.4 c.in-Err.ensures.err c.in-Err-begin.ensures.err

pub returns-then-is_overtaken-clause-free : goal.returns-then-is_overtaken-clause-free
returns-then-is_overtaken-clause-free g c = same_tabs (view c.args.pass.now) (view c.begin.new.pass) (c.in-Err-begin.ensures.tabs ∙ c.in-Err.ensures.free) c.args.tab ∙ c.requires.free

pub returns-then-is_overtaken-clause-inner : goal.returns-then-is_overtaken-clause-inner
returns-then-is_overtaken-clause-inner g c = inner_same (view c.args.pass.now) (view c.begin.new.pass) (c.in-Err-begin.ensures.tabs ∙ c.in-Err.ensures.free) c.requires.inner_free

pub returns-then-is_overtaken-clause-still : goal.returns-then-is_overtaken-clause-still
returns-then-is_overtaken-clause-still g c is = may_in_vain g.C.Cell.tells g.C.Cell.state g.O.Origin.offers c.args.store.now c.args.tab c.args.offer c.args.url.now c.args.pass.now c.begin.new.pass c.requires c.in-Err-begin.ensures.others.own (c.in-Err-begin.ensures.tabs ∙ c.in-Err.ensures.free) (returns-then-is_overtaken-clause-asked g c)

pub returns-then-is_overtaken-clause-others : goal.returns-then-is_overtaken-clause-others
returns-then-is_overtaken-clause-others g c = forward_on g.C.Cell.tells g.C.Cell.state g.O.Origin.offers c.args.store.now c.args.tab c.args.pass.now c.open_entry.new.pass c.begin.new.pass (of_reader g.C.Cell.tells g.C.Cell.state g.O.Origin.offers c.args.store.now c.args.tab c.args.pass.now c.open_entry.new.pass c.in-Err.ensures.others) (of_writing g.C.Cell.tells g.C.Cell.state g.O.Origin.offers c.args.store.now c.args.tab c.open_entry.new.pass c.begin.new.pass c.in-Err-begin.ensures.others)

pub returns-clause-asked : goal.returns-clause-asked
returns-clause-asked g c = record { cause = c.in-Err.cause; middle = c.open_entry.new.pass; refused = c.in-Err.ensures.err; not_writing = c.in_default.not-Writing; not_taken = c.in-Err-begin.ensures.err; lasting = c.is_overtaken.ensures.no c.if-is_overtaken.false }

pub returns-clause-free : goal.returns-clause-free
returns-clause-free g c = same_tabs (view c.args.pass.now) (view c.begin.new.pass) (c.in-Err-begin.ensures.tabs ∙ c.in-Err.ensures.free) c.args.tab ∙ c.requires.free

pub returns-clause-inner : goal.returns-clause-inner
returns-clause-inner g c = inner_same (view c.args.pass.now) (view c.begin.new.pass) (c.in-Err-begin.ensures.tabs ∙ c.in-Err.ensures.free) c.requires.inner_free

pub returns-clause-others : goal.returns-clause-others
returns-clause-others g c = forward_on g.C.Cell.tells g.C.Cell.state g.O.Origin.offers c.args.store.now c.args.tab c.args.pass.now c.open_entry.new.pass c.begin.new.pass (of_reader g.C.Cell.tells g.C.Cell.state g.O.Origin.offers c.args.store.now c.args.tab c.args.pass.now c.open_entry.new.pass c.in-Err.ensures.others) (of_writing g.C.Cell.tells g.C.Cell.state g.O.Origin.offers c.args.store.now c.args.tab c.open_entry.new.pass c.begin.new.pass c.in-Err-begin.ensures.others)
