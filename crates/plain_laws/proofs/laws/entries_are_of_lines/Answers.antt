use Rattle.plain_laws.proofs.Course.{origins}
use Rattle.plain_laws.proofs.Filed.{of_file}
use Rattle.plain_laws.proofs.laws.entries_are_of_lines.Goals as goal

pub returns : goal.returns
returns c = record { store = origins; file = of_file }
