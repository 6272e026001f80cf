use Rattle.std.proofs.Common.{ap, arith, length}
use Rattle.worker_shelf.proofs.Views.{handed_back, shelf_on, takes_stay}
use Rattle.worker_shelf.proofs.shelf.WorkerShelfShelf.serve.Goals as goal

pub returns-clause-takes : goal.returns-clause-takes
returns-clause-takes g c other = let i = c.self.inside in takes_stay g.C.Cell.tells g.C.Cell.state g.O.Origin.offers c.args.self.now i.store.now i.pass c.serve_line.new.pass i.station c.self.view_is c.serve_line.ensures.keeps.pass other

pub returns-in_err-answer-clause-takes : goal.returns-in_err-answer-clause-takes
returns-in_err-answer-clause-takes g c other = let i = c.self.inside in takes_stay g.C.Cell.tells g.C.Cell.state g.O.Origin.offers c.args.self.now i.store.now i.pass c.serve_line.new.pass i.station c.self.view_is c.serve_line.ensures.keeps.pass other

pub invariant_of-self-2 : goal.invariant_of-self-2
invariant_of-self-2 g c = let i = c.self.inside in let q = c.serve_line.new.pass in let e = c.serve_line.ensures in
    handed_back g.C.Cell.tells g.C.Cell.state g.O.Origin.offers i.store.now q i.tabs.items c.serve_line.new.tabs i.piece.items c.serve_line.new.piece i.tabs.len i.piece.len
    (shelf_on g.C.Cell.tells g.C.Cell.state g.O.Origin.offers i.store.now i.pass q i.tabs.items c.serve_line.new.tabs i.piece.items c.serve_line.new.piece c.self.invariant e.holds e.keeps e.places e.cells
    (let a = e.length in let v = ap length c.deref_mut-2.ensures.value in omega arith))
    (let n = i.tabs.ok.0 in let a = e.holds.count in let b = c.self.invariant.holds.count in omega arith) (let n = i.piece.ok.0 in let a = e.length in let v = ap length c.deref_mut-2.ensures.value in omega arith)
