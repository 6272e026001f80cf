use Rattle.std.proofs.Common.{ℕ}
use Rattle.std.proofs.lemmas.Result.{IfOk-weaker}
use Rattle.script_text.specs.declared.request.Request.TheVariants.{Add, CloseTab, End, More}
use Rattle.store_serve.specs.Reading.{ClosesOn, ReadsMore}
use Rattle.store_serve.specs.Serving.{ServesRequest}
use Rattle.store_serve.specs.Writing.{AddsOn, EndsOn}
use Rattle.worker_shelf.proofs.Naming.{at_tab}
use Rattle.worker_shelf.proofs.serving.on_tab.Goals as goal

pub returns-in-Add-clause-served : goal.returns-in-Add-clause-served
returns-in-Add-clause-served g c = let p = c.args.pass.now in let q = c.add_to_tab.new.pass in let a = c.add_to_tab.result.answer in
    at_tab (ServesRequest g.C.Cell.tells g.C.Cell.state g.O.Origin.offers c.args.store.now c.args.line.now.number p a q) (λ (t : ℕ). AddsOn g.C.Cell.tells g.C.Cell.state g.O.Origin.offers c.args.store.now t p a q c.in-Add.count) c.args.line.now.request (Add c.in-Add.tab c.in-Add.count) c.args.tab c.in-Add.tab c.in-Add.is (λ on. on) c.requires.names (λ h. h) c.add_to_tab.ensures.served

pub returns-in-End-clause-served : goal.returns-in-End-clause-served
returns-in-End-clause-served g c = let p = c.args.pass.now in let q = c.end_tab.new.pass in let a = c.end_tab.result.answer in
    at_tab (ServesRequest g.C.Cell.tells g.C.Cell.state g.O.Origin.offers c.args.store.now c.args.line.now.number p a q) (λ (t : ℕ). EndsOn g.C.Cell.tells g.C.Cell.state g.O.Origin.offers c.args.store.now t p a q) c.args.line.now.request (End _) c.args.tab _ c.in-End.is (λ on. on) c.requires.names (λ h. h) c.end_tab.ensures.served

pub returns-in-More-clause-served : goal.returns-in-More-clause-served
returns-in-More-clause-served g c = let p = c.args.pass.now in let q = c.read_more.new.pass in
    IfOk-weaker c.read_more.result _ _ (λ told served. at_tab (ServesRequest g.C.Cell.tells g.C.Cell.state g.O.Origin.offers c.args.store.now c.args.line.now.number p told.answer q) (λ (t : ℕ). ReadsMore g.C.Cell.tells g.C.Cell.state g.O.Origin.offers c.args.store.now t p told.answer q) c.args.line.now.request (More _) c.args.tab _ c.in-More.is (λ on. on) c.requires.names (λ h. h) served)
    c.read_more.ensures.served

pub returns-in-CloseTab-clause-served : goal.returns-in-CloseTab-clause-served
returns-in-CloseTab-clause-served g c = let p = c.args.pass.now in let q = c.close_tab.new.pass in let a = c.close_tab.result.answer in
    at_tab (ServesRequest g.C.Cell.tells g.C.Cell.state g.O.Origin.offers c.args.store.now c.args.line.now.number p a q) (λ (t : ℕ). ClosesOn g.C.Cell.tells g.C.Cell.state g.O.Origin.offers c.args.store.now t p a q) c.args.line.now.request (CloseTab _) c.args.tab _ c.in-CloseTab.is (λ on. on) c.requires.names (λ h. h) c.close_tab.ensures.served
