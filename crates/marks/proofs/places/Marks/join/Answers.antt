use Rattle.std.proofs.Common.{sym, ◌∙◌, arith, subst}
use Rattle.marks.specs.Views.{Agrees}
use Rattle.marks.proofs.Stepping.{tell_allowed}
use Rattle.marks.proofs.Seating.{join_allowed}
use Rattle.marks.proofs.places.Marks.join.Goals as goal

pub join_seat-requires : goal.join_seat-requires
join_seat-requires g c =
    let sizes = c.args.self.now.sizes in
    (c.requires.own.table, c.requires.other.table, c.requires.other.hand, omega arith, join_allowed g.T.Home.tells g.T.Home.place g.T.Home.home _ _ _ _ _)

pub load-requires : goal.load-requires
load-requires g c =
    let sizes = c.args.self.now.sizes in
    (c.join_seat.ensures.0 ∙ c.requires.own.table, omega arith, tell_allowed g.T.Home.tells g.T.Home.place g.T.Home.home _ _ _ _ _)

pub returns-clause-agrees : goal.returns-clause-agrees
returns-clause-agrees g c = subst (λ me. Agrees me.0) (sym c.load.ensures.2.0) c.load.ensures.2.1
