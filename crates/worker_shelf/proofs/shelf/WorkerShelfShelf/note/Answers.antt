use Rattle.std.proofs.Common.{[], ap}
use Rattle.core_model.specs.declared.view.Kind.TheVariants.{Noted}
use Rattle.core_model.specs.declared.view.View.{View}
use Rattle.worker_shelf.proofs.Views.{knew, shelf_still, takes_stay}
use Rattle.worker_shelf.proofs.shelf.WorkerShelfShelf.note.Goals as goal

pub invariant_of-self : goal.invariant_of-self
invariant_of-self g c = let i = c.self.inside in shelf_still g.C.Cell.tells g.C.Cell.state g.O.Origin.offers i.store.now record { writes = c.requests_keep_other_tabs.ensures.writes i.store.now; reads = c.requests_keep_other_tabs.ensures.reads i.store.now }
    i.pass c.note-note.new.pass i.tabs.items i.piece.items [] record { kind = Noted; at = 0; found = 0 } c.note-note.ensures.pass.0 c.note-note.ensures.pass.1 c.self.invariant

pub returns-clause-takes : goal.returns-clause-takes
returns-clause-takes g c other = let i = c.self.inside in takes_stay g.C.Cell.tells g.C.Cell.state g.O.Origin.offers c.args.self.now i.store.now i.pass c.note-note.new.pass i.station c.self.view_is (ap View.pass c.note-note.ensures.pass.1) other

pub returns-clause-knows : goal.returns-clause-knows
returns-clause-knows g c fact had = let i = c.self.inside in knew c.args.self.now i.store.now i.pass c.note-note.new.pass i.station [] record { kind = Noted; at = 0; found = 0 } c.self.view_is c.note-note.ensures.pass.1 fact had
