-- What is told of a call, whether it succeeded or not.
use Rattle.std.proofs.Common.{ap, refl, sym, ◌≡◌, ◌∙◌, ℕ}
use Rattle.std.specs.Prelude.{Err, IfErr, IfOk, IsErrOf, Ok, OnErr, Result, ◌↔◌}
use Rattle.script_text.specs.declared.answer.Answer.{Answer}
use Rattle.script_text.specs.declared.answer.Answer.TheVariants as answer
use Rattle.rock_writer.specs.declared.fault.BeginFault.{BeginFault}
use Rattle.rock_writer.specs.declared.fault.BeginFault.TheVariants.{Busy, LongUrl, Spent}
use Rattle.rock_writer.specs.declared.fault.Ended.{Ended}
use Rattle.rock_writer.specs.declared.fault.Ended.TheVariants.{Doomed, Stored}
use Rattle.rock_writer.specs.declared.fault.WriteFault.TheVariants as write
use Rattle.store_serve.specs.declared.storing.PutFault.{PutFault}
use Rattle.store_serve.specs.declared.storing.PutFault.TheVariants.{Begin, Write}
use Rattle.store_serve.specs.Answers.{answer_to_begin, answer_to_put}

-- what holds at either end holds
pub either_way : {T E : Type 0} {P : T → Type 0} {Q : E → Type 0} {Z : Type 0} (r : Result T E) → ((x : T) → P x → Z) → ((x : E) → Q x → Z) → IfOk r P → IfErr r Q → Z
either_way (Ok x) good bad ok err = good x ok
either_way (Err x) good bad ok err = bad x err

pub either_on : {T E : Type 0} {P : T → Type 0} {W : Type 0} {Z : Type 0} (r : Result T E) → ((x : T) → P x → Z) → (W → Z) → IfOk r P → OnErr r W → Z
either_on (Ok x) good bad ok err = good x ok
either_on (Err x) good bad ok err = bad err

-- LONGURL is told of a response exactly where its URL is long
put_is_long : (r : Result Ended PutFault) → answer_to_put r ≡ answer.LongUrl → IsErrOf r (Begin LongUrl)
put_is_long (Ok (Stored version)) e = absurd (cc)
put_is_long (Ok (Doomed version)) e = absurd (cc)
put_is_long (Err (Begin LongUrl)) e = refl
put_is_long (Err (Begin (Busy looked found))) e = absurd (cc)
put_is_long (Err (Begin (Spent versions))) e = absurd (cc)
put_is_long (Err (Write write.Large)) e = absurd (cc)
put_is_long (Err (Write write.Full)) e = absurd (cc)
put_is_long (Err (Write write.Fault)) e = absurd (cc)

pub put_long : (r : Result Ended PutFault) (a : Answer) (Z : Type 0) → a ≡ answer_to_put r → (IsErrOf r (Begin LongUrl) ↔ Z) → (a ≡ answer.LongUrl) ↔ Z
put_long r a Z is long = (λ e. long.0 (put_is_long r (sym is ∙ e)), λ z. is ∙ ap answer_to_put (long.1 z))

begin_is_long : (r : Result ℕ BeginFault) → answer_to_begin r ≡ answer.LongUrl → IsErrOf r LongUrl
begin_is_long (Ok version) e = absurd (cc)
begin_is_long (Err LongUrl) e = refl
begin_is_long (Err (Busy looked found)) e = absurd (cc)
begin_is_long (Err (Spent versions)) e = absurd (cc)

pub begin_long : (r : Result ℕ BeginFault) (a : Answer) (Z : Type 0) → a ≡ answer_to_begin r → (IsErrOf r LongUrl ↔ Z) → (a ≡ answer.LongUrl) ↔ Z
begin_long r a Z is long = (λ e. long.0 (begin_is_long r (sym is ∙ e)), λ z. is ∙ ap answer_to_begin (long.1 z))
