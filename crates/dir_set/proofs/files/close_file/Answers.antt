use Rattle.dir_set.proofs.files.close_file.Goals as goal

pub give_back-requires : goal.give_back-requires
give_back-requires g c t =
    let away = c.requires.may.away t in
    c.closed_cells_may_be_given_back.ensures (g.V.Volume.files c.args.volume.now) c.args.name.now _ _ away.0 c.args.header c.close_store.result.items away.1 c.requires.header c.close_store.ensures.many c.close_store.ensures.row

pub returns-clause-closed : goal.returns-clause-closed
returns-clause-closed g c = record {
  cells = c.close_store.result.items;
  closed = c.close_store.ensures;
  back = λ t slots slot rest found. c.give_back.ensures.back slots slot rest t found;
}
