use Rattle.rock_run.proofs.Asking.{read}
use Rattle.rock_run.proofs.asked.read_lines_may_be_asked.Goals as goal

pub returns : goal.returns
returns c workers text lines line are among = read are line among
