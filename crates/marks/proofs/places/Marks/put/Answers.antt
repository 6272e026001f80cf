use Rattle.std.proofs.Common.{ap, ◌∙◌, ◌∷◌, Some, arith}
use Rattle.atomic_table.specs.Table.{rest}
use Rattle.marks.proofs.Stepping.{put_at}
use Rattle.marks.proofs.places.Marks.put.Goals as goal

pub store-requires : goal.store-requires
store-requires g c =
    let took = c.requires.took in
    let sizes = c.args.self.now.sizes in
    let lt = took.0 in
    let swapped = c.exchange.ensures in (
      swapped.0 ∙ c.open.ensures.table.0,
      omega arith,
      put_at g.T.Home.tells g.T.Home.place g.T.Home.home _ _ _ _ c.args.seat.now.seat.me.0 _ took.1.0 c.args.note lt (omega arith) (ap (λ me. me.0) swapped.3 ∙ c.open.ensures.view)
          (ap (λ me. me.1) swapped.3 ∙ ap (λ l. (c.args.mark, Some c.args.note) ∷ rest l) c.open.ensures.table.1) took.1.1 took.1.2 c.requires.home,
    )
