use Rattle.std.proofs.Common.{ap}
use Rattle.core_model.specs.declared.view.Kind.TheVariants as kind
use Rattle.core_model.specs.declared.view.View.{View}
use Rattle.store_rule.specs.Passes.{note_seen}
use Rattle.worker_shelf.proofs.Views.{knew, learned, shelf_still, takes_stay}
use Rattle.worker_shelf.proofs.shelf.WorkerShelfShelf.learn.Goals as goal

pub invariant_of-self : goal.invariant_of-self
invariant_of-self g c = let i = c.self.inside in shelf_still g.C.Cell.tells g.C.Cell.state g.O.Origin.offers i.store.now record { writes = c.requests_keep_other_tabs.ensures.writes i.store.now; reads = c.requests_keep_other_tabs.ensures.reads i.store.now }
    i.pass c.learn.new.pass i.tabs.items i.piece.items (note_seen c.args.note.0) record { kind = kind.Learned; at = 0; found = 0 } c.learn.ensures.0 c.learn.ensures.1 c.self.invariant

pub returns-clause-told : goal.returns-clause-told
returns-clause-told g c fact told = learned c.self.inside.pass c.learn.new.pass (note_seen c.args.note.0) record { kind = kind.Learned; at = 0; found = 0 } c.learn.ensures.1 fact told

pub returns-clause-takes : goal.returns-clause-takes
returns-clause-takes g c other = let i = c.self.inside in takes_stay g.C.Cell.tells g.C.Cell.state g.O.Origin.offers c.args.self.now i.store.now i.pass c.learn.new.pass i.station c.self.view_is (ap View.pass c.learn.ensures.1) other

pub returns-clause-knows : goal.returns-clause-knows
returns-clause-knows g c fact had = let i = c.self.inside in knew c.args.self.now i.store.now i.pass c.learn.new.pass i.station (note_seen c.args.note.0) record { kind = kind.Learned; at = 0; found = 0 } c.self.view_is c.learn.ensures.1 fact had
