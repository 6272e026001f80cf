use Rattle.std.proofs.Common.{List, arith, refl, subst, sym}
use Rattle.store_serve.specs.declared.tabs.ScriptTab.{ScriptTab}
use Rattle.worker_shelf.specs.Shelves.{HasShelf}
use Rattle.worker_shelf.proofs.Views.{all_free, left_of, put_back, shelf_on, takes_stay}
use Rattle.worker_shelf.proofs.shelf.WorkerShelfShelf.leave_all.Goals as goal

pub returns-clause-left : goal.returns-clause-left
returns-clause-left g c = let i = c.self.inside in left_of g.C.Cell.tells g.C.Cell.state g.O.Origin.offers c.args.self.now i.store.now i.pass c.leave_tabs.new.pass i.station c.self.view_is c.leave_tabs.ensures.left

pub returns-clause-free : goal.returns-clause-free
returns-clause-free g c tab lt = all_free g.C.Cell.tells g.C.Cell.state g.O.Origin.offers c.self.inside.store.now c.leave_tabs.new.pass c.leave_tabs.new.tabs c.leave_tabs.ensures.holds c.leave_tabs.ensures.free tab lt

pub returns-clause-takes : goal.returns-clause-takes
returns-clause-takes g c other = let i = c.self.inside in takes_stay g.C.Cell.tells g.C.Cell.state g.O.Origin.offers c.args.self.now i.store.now i.pass c.leave_tabs.new.pass i.station c.self.view_is c.leave_tabs.ensures.keeps.pass other

pub invariant_of-self : goal.invariant_of-self
invariant_of-self g c = let i = c.self.inside in let q = c.leave_tabs.new.pass in let e = c.leave_tabs.ensures in
    subst (λ (tabs : List ScriptTab). HasShelf g.C.Cell.tells g.C.Cell.state g.O.Origin.offers i.store.now q tabs i.piece.items)
    (sym (put_back i.tabs.len i.tabs.items c.leave_tabs.new.tabs (let n = i.tabs.ok.0 in let a = e.holds.count in let b = c.self.invariant.holds.count in omega arith)))
    (shelf_on g.C.Cell.tells g.C.Cell.state g.O.Origin.offers i.store.now i.pass q i.tabs.items c.leave_tabs.new.tabs i.piece.items i.piece.items c.self.invariant e.holds e.keeps e.places e.cells refl)
