-- A tab that reads stays at END, OTHERURL and HALTED.
use Rattle.std.proofs.Common.{List, [], ◌≡◌, ℕ}
use Rattle.script_text.specs.declared.answer.Answer.TheVariants as answer
use Rattle.line_account.specs.Answers.{Run}
use Rattle.line_account.specs.Closing.{Closed, LineIn, Worker}
use Rattle.line_account.specs.Stopping.{ReadsBehind, is_end, is_halted, is_other_url}
use Rattle.line_account.proofs.Gathered.{tells_at}

module _ {X : Type 0} (r : Run X) (crew : List Worker) (c : Closed r crew) (tab : ℕ) where
  pub ended_stays : (p : LineIn crew (λ earlier s. ReadsBehind is_end earlier s tab)) → p.served.answer ≡ answer.End []
  ended_stays p = (tells_at r crew c (λ earlier s. ReadsBehind is_end earlier s tab) p).behind_end tab p.so

  pub turned_stays : (p : LineIn crew (λ earlier s. ReadsBehind is_other_url earlier s tab)) → p.served.answer ≡ answer.OtherUrl
  turned_stays p = (tells_at r crew c (λ earlier s. ReadsBehind is_other_url earlier s tab) p).behind_other tab p.so

  pub halted_stays : (p : LineIn crew (λ earlier s. ReadsBehind is_halted earlier s tab)) → p.served.answer ≡ answer.Halted []
  halted_stays p = (tells_at r crew c (λ earlier s. ReadsBehind is_halted earlier s tab) p).behind_halted tab p.so
