use Rattle.script_text.specs.Words.{lines_of}
use Rattle.plain_store.proofs.Good.{good}
use Rattle.plain_store.proofs.laws.good_lines_are_servable.Goals as goal

pub returns : goal.returns
returns c = λ workers text lines are. good workers (lines_of text) lines are
