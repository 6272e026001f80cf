use Rattle.std.proofs.Common.{arith, subst, sym}
use Rattle.lock_word.specs.Words.{IsInRange, IsWord}
use Rattle.lock_word.proofs.Parts.{is_word}
use Rattle.lock_word.proofs.Bits.{packed}
use Rattle.lock_word.proofs.word.pack.Goals as goal

fits : (c : goal.After-from-3) → IsInRange c.args.word.now
fits c = record { version = omega arith; readers = omega arith }

pub returns-clause-number : goal.returns-clause-number
returns-clause-number c =
    packed c.args.word.now _ _ _ _ (fits c) c.from.ensures c.from-2.ensures c.number.ensures c.from-3.ensures

pub returns-clause-word : goal.returns-clause-word
returns-clause-word c = subst IsWord (sym (returns-clause-number c)) (is_word c.args.word.now (fits c))
