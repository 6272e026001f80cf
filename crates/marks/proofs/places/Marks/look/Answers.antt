use Rattle.std.proofs.Common.{sym, ap, ◌∙◌, ◌∷◌, Some, None, arith}
use Rattle.atomic_table.specs.Table.{rest}
use Rattle.marks.proofs.Stepping.{take_at, empty_at}
use Rattle.marks.proofs.places.Marks.look.Goals as goal

pub compare_exchange-found-requires : goal.compare_exchange-found-requires
compare_exchange-found-requires g c =
    let sizes = c.args.self.now.sizes in
    let lt = c.requires.mark in
    (c.requires.own.table, omega arith, take_at g.T.Home.tells g.T.Home.place g.T.Home.home _ _ _ _ _ lt c.requires.own.hand)

pub exchange-note-requires : goal.exchange-note-requires
exchange-note-requires g c =
    let t = c.compare_exchange-found.ensures.2.0 c.if-found-ne1.false in
    (c.compare_exchange-found.ensures.0 ∙ c.requires.own.table, (Some t.note, t.hand ∙ ap (λ l. (c.args.mark, Some t.note) ∷ rest l) (sym t.hand)))

pub store-requires : goal.store-requires
store-requires g c =
    let sizes = c.args.self.now.sizes in
    let lt = c.requires.mark in
    let t = c.compare_exchange-found.ensures.2.0 c.if-found-ne1.false in
    let swapped = c.exchange-note.ensures in (
      swapped.0 ∙ (c.compare_exchange-found.ensures.0 ∙ c.requires.own.table),
      omega arith,
      empty_at g.T.Home.tells g.T.Home.place g.T.Home.home _ _ _ _ _ (Some t.note) lt (omega arith)
          (ap (λ me. me.1) swapped.3 ∙ ap (λ l. (c.args.mark, None) ∷ rest l) (t.hand ∙ ap (λ l. (c.args.mark, Some t.note) ∷ l) c.requires.own.hand))
          (ap (λ me. me.0.moving) swapped.3 ∙ ap (λ v. v.moving) t.view),
    )
