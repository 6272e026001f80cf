-- An entry that a line evicted gave way.
use Rattle.std.proofs.Common.{List, ℕ}
use Rattle.line_account.specs.Answers.{Run}
use Rattle.line_account.specs.Closing.{LineIn, Worker}
use Rattle.line_account.specs.Deeds.{Evicts}
use Rattle.line_account.specs.Printed.{MayGiveWay, WasWhole}

module _ {X : Type 0} (r : Run X) (crew : List Worker) (a x : ℕ) where
  pub gave_way : LineIn crew (λ earlier s. Evicts r s) → WasWhole r crew a x → MayGiveWay r crew a x
  gave_way p whole = record {
    unfit = p.so.wants;
    evicts = record { j = p.j; worker = p.worker; at = p.at; earlier = p.earlier; served = p.served; later = p.later; split = p.split; so = p.so.may };
    whole = whole;
  }
