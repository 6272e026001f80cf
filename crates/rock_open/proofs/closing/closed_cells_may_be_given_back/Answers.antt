use Rattle.rock_open.proofs.Cells.{row_is_out}
use Rattle.rock_open.proofs.closing.closed_cells_may_be_given_back.Goals as goal

pub returns : goal.returns
returns g c files name slots slot rest header cells found head many row = row_is_out g.C.Cell.state files name slots slot rest header cells found head many row
