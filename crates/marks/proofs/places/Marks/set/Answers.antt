use Rattle.std.proofs.Common.{ap, ◌∙◌, ◌∷◌, Some, arith}
use Rattle.atomic_table.specs.Table.{rest}
use Rattle.marks.proofs.Stepping.{set_at}
use Rattle.marks.proofs.places.Marks.set.Goals as goal

pub store-requires : goal.store-requires
store-requires g c =
    let may = c.requires.may in
    let sizes = c.args.self.now.sizes in
    let lt = may.0 in
    let swapped = c.exchange.ensures in (
      swapped.0 ∙ c.open.ensures.table.0,
      omega arith,
      set_at g.T.Home.tells g.T.Home.place g.T.Home.home _ _ _ _ c.args.seat.now.seat.me.0 _ c.args.note lt (omega arith) (ap (λ me. me.0) swapped.3 ∙ c.open.ensures.view)
          (ap (λ me. me.1) swapped.3 ∙ ap (λ l. (c.args.mark, Some c.args.note) ∷ rest l) c.open.ensures.table.1) may.1 c.requires.home,
    )
