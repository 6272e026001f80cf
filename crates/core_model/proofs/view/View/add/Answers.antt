use Rattle.std.proofs.Common.{Some}
use Rattle.core_model.proofs.Additions.{logged, logged_sights, fronted, added_is}
use Rattle.core_model.proofs.view.View.add.Goals as goal

pub returns-clause-ok : goal.returns-clause-ok
returns-clause-ok g c =
    added_is _ c.args.addition _ _ _ _ _ _ _ c.self.view_is (fronted _ _ _ c.args.addition.drawn c.reserve.ensures.items c.prepend.ensures)
    (logged_sights _ _ _ _ _ _ _ c.args.addition.sight c.reserve-2.ensures.items c.append_learned.ensures.learned c.append_names.ensures.names c.append.ensures.item)
    (logged _ _ _ (Some c.args.addition.item) c.reserve-3.ensures.items c.append-2.ensures.item) (logged _ _ _ c.args.addition.trace c.reserve-4.ensures.items c.append-3.ensures.item)
    (logged _ _ _ c.args.addition.deed c.reserve-5.ensures.items c.append-4.ensures.item) (logged _ _ _ c.args.addition.met c.reserve-6.ensures.items c.append-5.ensures.item)
