use Rattle.lock_word.proofs.Parts.{some_word}
use Rattle.lock_word.proofs.Bits.{mode_above, some_mode}
use Rattle.lock_word.proofs.laws.numbers_of_words.Goals as goal

pub returns-clause-some_word : goal.returns-clause-some_word
returns-clause-some_word c = some_word

pub returns-clause-reserved : goal.returns-clause-reserved
returns-clause-reserved c n = (mode_above n, some_mode n)
