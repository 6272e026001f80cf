use Rattle.std.proofs.Common.{refl, subst, ◌∙◌}
use Rattle.core_model.specs.Tabs.{inner}
use Rattle.store_rule.specs.Passes.{view}
use Rattle.store_serve.specs.Getting.{GotAs}
use Rattle.store_serve.specs.declared.getting.Got.{Got}
use Rattle.store_serve.specs.Whole.{whole_tab}
use Rattle.store_serve.proofs.Faults.{faults_of_get}
use Rattle.store_serve.proofs.Leaving.{inner_stays, leaves_reading}
use Rattle.store_serve.proofs.whole.get_whole.Goals as goal

pub got-requires : goal.got-requires
got-requires g c version count is = let h = c.in-Ok.ensures.got in
    (subst (λ (z : Got). GotAs g.C.Cell.tells g.C.Cell.state g.O.Origin.offers c.args.store.now whole_tab c.args.url.now c.args.pass.now c.get_entry.new.pass h.0 z) is h.2).went.no_piece count refl

pub returns-in-Ok-clause-faults : goal.returns-in-Ok-clause-faults
returns-in-Ok-clause-faults g c = faults_of_get c.in-Ok.found _ _ _ _ c.got.ensures c.in-Ok.ensures.failed c.in-Ok.ensures.unfailed

pub returns-in-Err-clause-free : goal.returns-in-Err-clause-free
returns-in-Err-clause-free g c = c.in-Err.ensures.free whole_tab ∙ c.requires.free

pub returns-in-Err-clause-leaves : goal.returns-in-Err-clause-leaves
returns-in-Err-clause-leaves g c = let p = c.args.pass.now in let q = c.get_entry.new.pass in let h = c.in-Err.ensures.stopped in
    leaves_reading g.C.Cell.tells g.C.Cell.state g.O.Origin.offers c.args.store.now whole_tab p q c.in-Err.ensures.others (inner_stays (view p) (view q) (c.in-Err.ensures.free inner) c.requires.ready.inner_free)
    (c.serving_grows.ensures.stopped c.args.store.now whole_tab c.args.url.now h.0 p q h.1)
