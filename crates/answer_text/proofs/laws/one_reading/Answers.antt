use Rattle.answer_text.proofs.OneReading.{same_line, same_answer_line}
use Rattle.answer_text.proofs.laws.one_reading.Goals as goal

pub returns-clause-line : goal.returns-clause-line
returns-clause-line c worker number other another answer found rest others few fits low small is too same = same_line worker number other another answer found rest others few fits low small is too same

pub returns-clause-answer : goal.returns-clause-answer
returns-clause-answer c worker number answer found few fits is too same = same_answer_line worker number answer found few fits is too same
