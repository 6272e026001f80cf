use Rattle.std.proofs.Common.{◌∙◌, sym}
use Rattle.lock_word.specs.Words.{epoch_number}
use Rattle.lock_word.proofs.Ordering.{by_number, total, less}
use Rattle.lock_word.proofs.laws.epochs_are_ordered.Goals as goal

pub returns-clause-number : goal.returns-clause-number
returns-clause-number c = by_number

pub returns-clause-total : goal.returns-clause-total
returns-clause-total c = total

pub returns-clause-below : goal.returns-clause-below
returns-clause-below c e f = (
  λ is. (less (epoch_number e) (epoch_number f)).0 (sym (by_number e f) ∙ is),
  λ below. by_number e f ∙ (less (epoch_number e) (epoch_number f)).1 below,
)
