use Rattle.std.proofs.Common.{ap, inl, inr, subst, ◌+◌, ◌∙◌, ℕ}
use Rattle.std.specs.Prelude.{OnOk}
use Rattle.std.proofs.lemmas.Result.{IfErr-weaker, IfOk-weaker}
use Rattle.rock_io.specs.Faults.{Rose}
use Rattle.rock_writer.specs.Durable.{ClosedDurably}
use Rattle.rock_writer.specs.Entries.{with_taken}
use Rattle.store_rule.specs.Passes.{basis, view}
use Rattle.store_serve.proofs.Adds.{error_as, follows_on, more_taken}
use Rattle.store_serve.proofs.Ends.{added_all, all_is, either_free, left_is, may_all, may_finish}
use Rattle.store_serve.proofs.storing.end_entry.Goals as goal

pub finish-requires : goal.finish-requires
finish-requires g c = let e = c.requires.0 in let may = c.requires.1 in let whole = c.body_length-upto.ensures in
    let h = added_all g.C.Cell.tells g.C.Cell.state g.O.Origin.offers c.args.store.now c.args.tab e _ c.args.from c.body_length-upto.result c.args.pass.now may whole c.add_bytes.new.pass
    (c.in-Ok.ensures.ok e (may_all g.C.Cell.tells g.C.Cell.state g.O.Origin.offers c.args.store.now c.args.tab e _ c.args.from c.body_length-upto.result c.args.pass.now may whole)) in
    (_, may_finish g.C.Cell.tells g.C.Cell.state g.O.Origin.offers c.args.store.now c.args.tab e _ c.args.from c.body_length-upto.result c.args.pass.now may whole c.add_bytes.new.pass h)

pub returns-in-Ok-clause-ok : goal.returns-in-Ok-clause-ok
returns-in-Ok-clause-ok g c e may = let whole = c.body_length-upto.ensures in
    let h = added_all g.C.Cell.tells g.C.Cell.state g.O.Origin.offers c.args.store.now c.args.tab e _ c.args.from c.body_length-upto.result c.args.pass.now may whole c.add_bytes.new.pass
    (c.in-Ok.ensures.ok e (may_all g.C.Cell.tells g.C.Cell.state g.O.Origin.offers c.args.store.now c.args.tab e _ c.args.from c.body_length-upto.result c.args.pass.now may whole)) in
    let f = may_finish g.C.Cell.tells g.C.Cell.state g.O.Origin.offers c.args.store.now c.args.tab e _ c.args.from c.body_length-upto.result c.args.pass.now may whole c.add_bytes.new.pass h in
    IfOk-weaker c.finish.result _ _ (λ ended closed. record { middle = c.add_bytes.new.pass; added = h; finished = closed }) (c.finish.ensures.ok _ f)

pub returns-in-Ok-clause-err : goal.returns-in-Ok-clause-err
returns-in-Ok-clause-err g c e may = let whole = c.body_length-upto.ensures in
    let h = added_all g.C.Cell.tells g.C.Cell.state g.O.Origin.offers c.args.store.now c.args.tab e _ c.args.from c.body_length-upto.result c.args.pass.now may whole c.add_bytes.new.pass
    (c.in-Ok.ensures.ok e (may_all g.C.Cell.tells g.C.Cell.state g.O.Origin.offers c.args.store.now c.args.tab e _ c.args.from c.body_length-upto.result c.args.pass.now may whole)) in
    let f = may_finish g.C.Cell.tells g.C.Cell.state g.O.Origin.offers c.args.store.now c.args.tab e _ c.args.from c.body_length-upto.result c.args.pass.now may whole c.add_bytes.new.pass h in
    IfErr-weaker c.finish.result _ _ (λ fault stopped. inr record { middle = c.add_bytes.new.pass; added = h; stopped = stopped }) (c.finish.ensures.err _ f)

pub returns-in-Ok-clause-others : goal.returns-in-Ok-clause-others
returns-in-Ok-clause-others g c = follows_on _ _ _ _ _ _ _ _ c.in-Ok.ensures.others c.finish.ensures.others

pub returns-in-Ok-clause-unfailed : goal.returns-in-Ok-clause-unfailed
returns-in-Ok-clause-unfailed g c not = c.finish.ensures.unfailed not ∙ c.in-Ok.ensures.unfailed (λ w. cc)

pub returns-in-Ok-clause-failed : goal.returns-in-Ok-clause-failed
returns-in-Ok-clause-failed g c w = subst (λ z. Rose z (g.St.Station.faults c.finish.new.station)) (c.in-Ok.ensures.unfailed (λ w. cc)) (c.finish.ensures.failed w)

pub returns-in-Err-clause-err : goal.returns-in-Err-clause-err
returns-in-Err-clause-err g c e may = inl (c.in-Err.ensures.err e (may_all g.C.Cell.tells g.C.Cell.state g.O.Origin.offers c.args.store.now c.args.tab e _ c.args.from _ c.args.pass.now may c.body_length-upto.ensures))

pub returns-in-Err-clause-unfailed : goal.returns-in-Err-clause-unfailed
returns-in-Err-clause-unfailed g c not = c.in-Err.ensures.unfailed (λ w. not (error_as w))

pub returns-in-Err-clause-failed : goal.returns-in-Err-clause-failed
returns-in-Err-clause-failed g c w = c.in-Err.ensures.failed (error_as w)

pub returns-in-Ok-clause-free : goal.returns-in-Ok-clause-free
returns-in-Ok-clause-free g c = (
    let e = c.requires.0 in let may = c.requires.1 in let whole = c.body_length-upto.ensures in
    let h = added_all g.C.Cell.tells g.C.Cell.state g.O.Origin.offers c.args.store.now c.args.tab e _ c.args.from c.body_length-upto.result c.args.pass.now may whole c.add_bytes.new.pass
    (c.in-Ok.ensures.ok e (may_all g.C.Cell.tells g.C.Cell.state g.O.Origin.offers c.args.store.now c.args.tab e _ c.args.from c.body_length-upto.result c.args.pass.now may whole)) in
    let f = may_finish g.C.Cell.tells g.C.Cell.state g.O.Origin.offers c.args.store.now c.args.tab e _ c.args.from c.body_length-upto.result c.args.pass.now may whole c.add_bytes.new.pass h in
    either_free g.C.Cell.tells g.C.Cell.state g.O.Origin.offers c.args.store.now c.args.tab e c.args.pass.now c.finish.new.pass c.finish.result
    (IfOk-weaker c.finish.result _ _ (λ ended closed. record { middle = c.add_bytes.new.pass; added = h; finished = closed }) (c.finish.ensures.ok _ f))
    (IfErr-weaker c.finish.result _ _ (λ fault stopped. inr record { middle = c.add_bytes.new.pass; added = h; stopped = stopped }) (c.finish.ensures.err _ f))).0

pub returns-in-Ok-clause-inner : goal.returns-in-Ok-clause-inner
returns-in-Ok-clause-inner g c = (
    let e = c.requires.0 in let may = c.requires.1 in let whole = c.body_length-upto.ensures in
    let h = added_all g.C.Cell.tells g.C.Cell.state g.O.Origin.offers c.args.store.now c.args.tab e _ c.args.from c.body_length-upto.result c.args.pass.now may whole c.add_bytes.new.pass
    (c.in-Ok.ensures.ok e (may_all g.C.Cell.tells g.C.Cell.state g.O.Origin.offers c.args.store.now c.args.tab e _ c.args.from c.body_length-upto.result c.args.pass.now may whole)) in
    let f = may_finish g.C.Cell.tells g.C.Cell.state g.O.Origin.offers c.args.store.now c.args.tab e _ c.args.from c.body_length-upto.result c.args.pass.now may whole c.add_bytes.new.pass h in
    either_free g.C.Cell.tells g.C.Cell.state g.O.Origin.offers c.args.store.now c.args.tab e c.args.pass.now c.finish.new.pass c.finish.result
    (IfOk-weaker c.finish.result _ _ (λ ended closed. record { middle = c.add_bytes.new.pass; added = h; finished = closed }) (c.finish.ensures.ok _ f))
    (IfErr-weaker c.finish.result _ _ (λ fault stopped. inr record { middle = c.add_bytes.new.pass; added = h; stopped = stopped }) (c.finish.ensures.err _ f))).1

pub returns-in-Err-clause-free : goal.returns-in-Err-clause-free
returns-in-Err-clause-free g c = let whole = c.body_length-upto.ensures in
    let h = c.in-Err.ensures.err c.requires.0 (may_all g.C.Cell.tells g.C.Cell.state g.O.Origin.offers c.args.store.now c.args.tab c.requires.0 _ c.args.from c.body_length-upto.result c.args.pass.now c.requires.1 whole) in h.stopped.halts.parted.free

pub returns-in-Err-clause-inner : goal.returns-in-Err-clause-inner
returns-in-Err-clause-inner g c = let whole = c.body_length-upto.ensures in
    let h = c.in-Err.ensures.err c.requires.0 (may_all g.C.Cell.tells g.C.Cell.state g.O.Origin.offers c.args.store.now c.args.tab c.requires.0 _ c.args.from c.body_length-upto.result c.args.pass.now c.requires.1 whole) in h.stopped.halts.parted.inner_free

pub returns-in-Ok-clause-durable : goal.returns-in-Ok-clause-durable
returns-in-Ok-clause-durable g c e may durable logged = let whole = c.body_length-upto.ensures in
    let h = added_all g.C.Cell.tells g.C.Cell.state g.O.Origin.offers c.args.store.now c.args.tab e _ c.args.from c.body_length-upto.result c.args.pass.now may whole c.add_bytes.new.pass
    (c.in-Ok.ensures.ok e (may_all g.C.Cell.tells g.C.Cell.state g.O.Origin.offers c.args.store.now c.args.tab e _ c.args.from c.body_length-upto.result c.args.pass.now may whole)) in
    let f = may_finish g.C.Cell.tells g.C.Cell.state g.O.Origin.offers c.args.store.now c.args.tab e _ c.args.from c.body_length-upto.result c.args.pass.now may whole c.add_bytes.new.pass h in
    let so_far = more_taken (basis g.C.Cell.tells g.C.Cell.state g.O.Origin.offers c.args.store.now) e (view c.add_bytes.new.pass) _ _ (ap (λ (n : ℕ). e.taken + n) (left_is g.C.Cell.tells g.C.Cell.state g.O.Origin.offers c.args.store.now c.args.tab e _ c.args.from c.body_length-upto.result c.args.pass.now may whole))
    (c.in-Ok.ensures.durable e (may_all g.C.Cell.tells g.C.Cell.state g.O.Origin.offers c.args.store.now c.args.tab e _ c.args.from c.body_length-upto.result c.args.pass.now may whole) logged) in
    subst (λ (n : ℕ). OnOk c.finish.result (ClosedDurably (basis g.C.Cell.tells g.C.Cell.state g.O.Origin.offers c.args.store.now) c.args.tab (with_taken e n) (view c.finish.new.pass))) (all_is g.C.Cell.tells g.C.Cell.state g.O.Origin.offers c.args.store.now c.args.tab e _ c.args.from c.body_length-upto.result c.args.pass.now may whole) (c.finish.ensures.durable _ f durable so_far)
