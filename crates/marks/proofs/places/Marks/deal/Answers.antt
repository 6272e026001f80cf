use Rattle.std.proofs.Common.{arith}
use Rattle.marks.proofs.Seating.{deal_allowed}
use Rattle.marks.proofs.places.Marks.deal.Goals as goal

pub split_seat-requires : goal.split_seat-requires
split_seat-requires g c =
    let sizes = c.args.self.now.sizes in
    (c.requires.own.table, omega arith, deal_allowed g.T.Home.tells g.T.Home.place g.T.Home.home _ _ _ g.D.Dealing.picks)
