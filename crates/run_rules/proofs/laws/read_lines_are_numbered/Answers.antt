use Rattle.run_rules.proofs.Numbers.{read_in_order}
use Rattle.run_rules.proofs.laws.read_lines_are_numbered.Goals as goal

pub returns : goal.returns
returns c workers text lines read = read_in_order read
