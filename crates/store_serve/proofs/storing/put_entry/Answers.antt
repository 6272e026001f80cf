use Rattle.std.proofs.Common.{ap, arith, get_or, length, refl, sym, ◌∙◌}
use Rattle.core_model.specs.Tabs.{inner, is_free}
use Rattle.core_model.specs.declared.tab.Tab.{Tab}
use Rattle.plain_model.specs.Serving.{bytes_of}
use Rattle.store_rule.specs.Passes.{basis, view}
use Rattle.rock_writer.specs.Beginning.{begun}
use Rattle.store_serve.specs.Adding.{MayAdd}
use Rattle.store_serve.proofs.Adds.{follows_on}
use Rattle.store_serve.proofs.Ends.{closed_as, write_as, write_from}
use Rattle.store_serve.proofs.storing.put_entry.Goals as goal

pub end_entry-requires : goal.end_entry-requires
end_entry-requires g c = let began = c.in_default.ensures.ok in (_, record { writes = began.writes; body_is = c.requires.body; from_is = refl; order = omega arith; inside = omega arith })

pub returns-in-Ok-clause-ok : goal.returns-in-Ok-clause-ok
returns-in-Ok-clause-ok g c = let began = c.in_default.ensures.ok in record { middle = c.begin.new.pass; version = c.in_default.field-0; began = began; stays = c.begin.ensures.hand; ends = c.in-Ok.ensures.ok _ record { writes = began.writes; body_is = c.requires.body; from_is = refl; order = omega arith; inside = omega arith } }

pub returns-in-Ok-clause-others : goal.returns-in-Ok-clause-others
returns-in-Ok-clause-others g c = follows_on _ _ _ _ _ _ _ _ c.begin.ensures.others c.in-Ok.ensures.others

pub returns-in-Ok-clause-unfailed : goal.returns-in-Ok-clause-unfailed
returns-in-Ok-clause-unfailed g c not = c.in-Ok.ensures.unfailed (λ w. cc)

pub returns-in-Err-end_entry-clause-err : goal.returns-in-Err-end_entry-clause-err
returns-in-Err-end_entry-clause-err g c = let began = c.in_default.ensures.ok in record { middle = c.begin.new.pass; version = c.in_default.field-0; began = began; stays = c.begin.ensures.hand; stopped = c.in-Err-end_entry.ensures.err _ record { writes = began.writes; body_is = c.requires.body; from_is = refl; order = omega arith; inside = omega arith } }

pub returns-in-Err-end_entry-clause-others : goal.returns-in-Err-end_entry-clause-others
returns-in-Err-end_entry-clause-others g c = follows_on _ _ _ _ _ _ _ _ c.begin.ensures.others c.in-Err-end_entry.ensures.others

pub returns-in-Err-end_entry-clause-unfailed : goal.returns-in-Err-end_entry-clause-unfailed
returns-in-Err-end_entry-clause-unfailed g c not = c.in-Err-end_entry.ensures.unfailed (λ w. not (write_as w))

pub returns-in-Err-end_entry-clause-failed : goal.returns-in-Err-end_entry-clause-failed
returns-in-Err-end_entry-clause-failed g c w = c.in-Err-end_entry.ensures.failed (write_from w)

pub returns-in-Err-clause-free : goal.returns-in-Err-clause-free
returns-in-Err-clause-free g c = ap (λ xs. get_or xs c.args.tab Tab.Free) c.in-Err.ensures.tabs ∙ c.requires.may.free

pub returns-in-Err-clause-inner : goal.returns-in-Err-clause-inner
returns-in-Err-clause-inner g c = ap (λ xs. is_free (get_or xs inner Tab.Free)) c.in-Err.ensures.tabs ∙ c.requires.may.inner_free

pub returns-in-Ok-clause-durable : goal.returns-in-Ok-clause-durable
returns-in-Ok-clause-durable g c durable = let began = c.in_default.ensures.ok in
    let may : MayAdd g.C.Cell.tells g.C.Cell.state g.O.Origin.offers c.args.store.now c.args.tab (begun g.C.Cell.tells g.C.Cell.state g.O.Origin.offers c.args.store.now c.args.tab c.args.offer c.args.url.now c.args.durable c.args.pass.now c.begin.new.pass c.in_default.field-0) (bytes_of c.args.body.now) 0 (length (bytes_of c.args.body.now)) c.begin.new.pass =
    record { writes = began.writes; body_is = c.requires.body; from_is = refl; order = omega arith; inside = omega arith } in
    let ended = c.in-Ok.ensures.ok _ may in
    closed_as (basis g.C.Cell.tells g.C.Cell.state g.O.Origin.offers c.args.store.now) c.args.tab c.args.offer c.args.url.now c.args.durable _ _ c.in-Ok.ended (view c.end_entry.new.pass) ended.finished.version (ap length (sym c.requires.body)) (c.in-Ok.ensures.durable _ may durable c.in_default.ensures.durable)
