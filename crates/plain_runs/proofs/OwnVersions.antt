-- Where each version stands for itself, answers are the same.
use Rattle.std.proofs.Common.{ap, refl, ◌≡◌}
use Rattle.lock_word.specs.declared.cause.Cause.{Cause}
use Rattle.lock_word.specs.declared.cause.Cause.TheVariants.{Absent, Leaving, OtherKey, Writing}
use Rattle.script_text.specs.declared.answer.Answer.{Answer}
use Rattle.script_text.specs.declared.answer.Answer.TheVariants as answer
use Rattle.plain_laws.specs.Renaming.{renamed, renamed_cause}

pub same_cause : (c : Cause) → renamed_cause (λ v. v) c ≡ c
same_cause (Absent epoch) = refl
same_cause (Writing epoch) = refl
same_cause (Leaving epoch) = refl
same_cause (OtherKey epoch key) = refl

pub same_answer : (a : Answer) → renamed (λ v. v) a ≡ a
same_answer (answer.Miss cause) = ap answer.Miss (same_cause cause)
same_answer (answer.NoEntry cause) = ap answer.NoEntry (same_cause cause)
same_answer (answer.Stored version) = refl
same_answer (answer.Doomed version) = refl
same_answer (answer.Busy looked found) = refl
same_answer (answer.Spent versions) = refl
same_answer answer.LongUrl = refl
same_answer answer.Full = refl
same_answer answer.Large = refl
same_answer answer.Fault = refl
same_answer (answer.Hit version bytes) = refl
same_answer (answer.Part epoch bytes) = refl
same_answer (answer.End bytes) = refl
same_answer (answer.Halted bytes) = refl
same_answer (answer.ReadFault bytes) = refl
same_answer answer.OtherUrl = refl
same_answer (answer.Purged epoch) = refl
same_answer (answer.Wiped epoch) = refl
same_answer (answer.Later epoch) = refl
same_answer (answer.Begun version) = refl
same_answer (answer.Added count) = refl
same_answer answer.Dropped = refl
same_answer (answer.Opened version) = refl
same_answer answer.Closed = refl
same_answer answer.Marked = refl
same_answer answer.Met = refl
same_answer answer.Unmet = refl
same_answer answer.Tab = refl
