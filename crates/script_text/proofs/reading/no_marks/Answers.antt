use Rattle.script_text.proofs.Finishing.{all_false}
use Rattle.script_text.proofs.reading.no_marks.Goals as goal

pub returns : goal.returns
returns c mark = all_false 64 mark
