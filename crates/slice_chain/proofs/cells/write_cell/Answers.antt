use Rattle.std.proofs.Common.{inl, inr, refl, subst}
use Rattle.std.specs.Prelude.{Contains}
use Rattle.rock_disk.specs.Cell.{CellState}
use Rattle.slice_chain.proofs.cells.write_cell.Goals as goal

pub returns-in_err-sync-clause-possible : goal.returns-in_err-sync-clause-possible
returns-in_err-sync-clause-possible g c = λ told content h. c.in_ok-write.ensures.possible told content (subst (λ (s : CellState). Contains s.possible content) c.in_err-sync.ensures.unchanged h)

pub returns-in_err-write-clause-between : goal.returns-in_err-write-clause-between
returns-in_err-write-clause-between g c = λ told. record {
  written = g.St.C.Cell.state c.write.new.cell;
  adds = c.in_err-write.ensures.possible told;
  stays = c.reads_may_stay.ensures c.write.new.cell told;
  after_is = inl refl;
}

pub returns-in_err-sync-clause-between : goal.returns-in_err-sync-clause-between
returns-in_err-sync-clause-between g c = λ told. record {
  written = g.St.C.Cell.state c.write.new.cell;
  adds = c.in_ok-write.ensures.possible told;
  stays = c.reads_may_stay.ensures c.write.new.cell told;
  after_is = inl c.in_err-sync.ensures.unchanged;
}

pub returns-in_ok-sync-clause-between : goal.returns-in_ok-sync-clause-between
returns-in_ok-sync-clause-between g c = λ told. record {
  written = g.St.C.Cell.state c.write.new.cell;
  adds = c.in_ok-write.ensures.possible told;
  stays = c.reads_may_stay.ensures c.write.new.cell told;
  after_is = inr (c.if-durable.true, c.in_ok-sync.ensures.settled told);
}

pub returns-else-durable-clause-between : goal.returns-else-durable-clause-between
returns-else-durable-clause-between g c = λ told. record {
  written = g.St.C.Cell.state c.write.new.cell;
  adds = c.in_ok-write.ensures.possible told;
  stays = c.reads_may_stay.ensures c.write.new.cell told;
  after_is = inl refl;
}
