use Rattle.std.proofs.Common.{arith}
use Rattle.marks.proofs.Stepping.{open_at}
use Rattle.marks.proofs.places.Marks.open.Goals as goal

pub store-requires : goal.store-requires
store-requires g c =
    let held = c.requires.held in
    let sizes = c.args.self.now.sizes in
    let lt = held.0 in
    (c.requires.own.table, omega arith, open_at g.T.Home.tells g.T.Home.place g.T.Home.home _ _ _ _ _ held.1.0 lt c.requires.own.hand held.1.1)
