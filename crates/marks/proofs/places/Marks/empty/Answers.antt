use Rattle.marks.proofs.Seating.{opening_allowed}
use Rattle.marks.proofs.places.Marks.empty.Goals as goal

pub vacant-requires : goal.vacant-requires
vacant-requires g c = opening_allowed g.T.Home.tells g.T.Home.place g.T.Home.home _
