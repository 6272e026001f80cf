-- Where an answer tells a fault, and where not.
use Rattle.std.proofs.Common.{List, false, refl, subst, sym, true, ◌≡◌, ℕ}
use Rattle.std.specs.Prelude.{Err, IsErrOf, Ok, Result, ◌≢◌}
use Rattle.rock_io.specs.Faults.{Rose}
use Rattle.script_text.specs.declared.answer.Answer.{Answer}
use Rattle.purge_entry.specs.declared.wiping.Wiped.{Wiped}
use Rattle.purge_entry.specs.declared.wiping.Wiped.TheVariants.{Gone, Later}
use Rattle.purge_entry.specs.declared.wiping.WipeFault.{WipeFault}
use Rattle.purge_entry.specs.declared.wiping.WipeFault.TheVariants.{NoEntry}
use Rattle.rock_writer.specs.declared.fault.BeginFault.TheVariants.{Busy, LongUrl, Spent}
use Rattle.rock_writer.specs.declared.fault.Ended.{Ended}
use Rattle.rock_writer.specs.declared.fault.Ended.TheVariants.{Doomed, Stored}
use Rattle.rock_writer.specs.declared.fault.WriteFault.{WriteFault}
use Rattle.rock_writer.specs.declared.fault.WriteFault.TheVariants as write
use Rattle.rock_reader.specs.declared.answer.More.{More}
use Rattle.rock_reader.specs.declared.answer.More.TheVariants as more
use Rattle.store_serve.specs.declared.getting.Got.{Got}
use Rattle.store_serve.specs.declared.getting.Got.TheVariants.{Found, Missing}
use Rattle.store_serve.specs.declared.storing.PutFault.{PutFault}
use Rattle.store_serve.specs.declared.storing.PutFault.TheVariants.{Begin, Write}
use Rattle.store_serve.specs.Getting.{EndedWith}
use Rattle.store_serve.specs.Answers.{AnswersGet, AnswersMore, TellsFaults, answer_to_end, answer_to_fault, answer_to_put, answer_to_wipe, is_fault}

-- no fault is told, and none came
tells_none : (a : Answer) (before after : ℕ) → is_fault a ≡ false → after ≡ before → TellsFaults a before after
tells_none a before after none same = record { rose = λ is. absurd (cc); same = λ is. same }

-- one is told, and came
tells_one : (a : Answer) (before after : ℕ) → is_fault a ≡ true → Rose before after → TellsFaults a before after
tells_one a before after one rose = record { rose = λ is. rose; same = λ is. absurd (cc) }

-- the answer is another name of one that tells right
pub as_told : (a b : Answer) (before after : ℕ) → a ≡ b → TellsFaults b before after → TellsFaults a before after
as_told a b before after e told = subst (λ (z : Answer). TellsFaults z before after) (sym e) told

pub told_nothing : (a : Answer) (n : ℕ) → is_fault a ≡ false → TellsFaults a n n
told_nothing a n none = tells_none a n n none refl

pub faults_of_end : (r : Result Ended WriteFault) (before after : ℕ) → ((IsErrOf r write.Fault → ⊥) → after ≡ before) → (IsErrOf r write.Fault → Rose before after) → TellsFaults (answer_to_end r) before after
faults_of_end (Ok (Stored version)) before after same rose = tells_none _ before after refl (same (λ w. cc))
faults_of_end (Ok (Doomed version)) before after same rose = tells_none _ before after refl (same (λ w. cc))
faults_of_end (Err write.Large) before after same rose = tells_none _ before after refl (same (λ w. cc))
faults_of_end (Err write.Full) before after same rose = tells_none _ before after refl (same (λ w. cc))
faults_of_end (Err write.Fault) before after same rose = tells_one _ before after refl (rose refl)

pub faults_of_add : {T : Type 0} (fault : WriteFault) (before after : ℕ) → ((IsErrOf {T = T} (Err fault) write.Fault → ⊥) → after ≡ before) → (IsErrOf {T = T} (Err fault) write.Fault → Rose before after)
    → TellsFaults (answer_to_fault fault) before after
faults_of_add write.Large before after same rose = tells_none _ before after refl (same (λ w. cc))
faults_of_add write.Full before after same rose = tells_none _ before after refl (same (λ w. cc))
faults_of_add write.Fault before after same rose = tells_one _ before after refl (rose refl)

pub faults_of_put : (r : Result Ended PutFault) (before after : ℕ) → ((IsErrOf r (Write write.Fault) → ⊥) → after ≡ before) → (IsErrOf r (Write write.Fault) → Rose before after) → TellsFaults (answer_to_put r) before after
faults_of_put (Ok (Stored version)) before after same rose = tells_none _ before after refl (same (λ w. cc))
faults_of_put (Ok (Doomed version)) before after same rose = tells_none _ before after refl (same (λ w. cc))
faults_of_put (Err (Begin LongUrl)) before after same rose = tells_none _ before after refl (same (λ w. cc))
faults_of_put (Err (Begin (Busy looked found))) before after same rose = tells_none _ before after refl (same (λ w. cc))
faults_of_put (Err (Begin (Spent versions))) before after same rose = tells_none _ before after refl (same (λ w. cc))
faults_of_put (Err (Write write.Large)) before after same rose = tells_none _ before after refl (same (λ w. cc))
faults_of_put (Err (Write write.Full)) before after same rose = tells_none _ before after refl (same (λ w. cc))
faults_of_put (Err (Write write.Fault)) before after same rose = tells_one _ before after refl (rose refl)

pub faults_of_wipe : (r : Result Wiped WipeFault) (before after : ℕ) → ((IsErrOf r WipeFault.Fault → ⊥) → after ≡ before) → (IsErrOf r WipeFault.Fault → Rose before after) → TellsFaults (answer_to_wipe r) before after
faults_of_wipe (Ok (Gone epoch)) before after same rose = tells_none _ before after refl (same (λ w. cc))
faults_of_wipe (Ok (Later epoch)) before after same rose = tells_none _ before after refl (same (λ w. cc))
faults_of_wipe (Err (NoEntry cause)) before after same rose = tells_none _ before after refl (same (λ w. cc))
faults_of_wipe (Err WipeFault.Fault) before after same rose = tells_one _ before after refl (rose refl)

pub faults_of_more : (why : More) (bytes : List ℕ) (a : Answer) (before after : ℕ) → AnswersMore why bytes a → (why ≡ more.Fault → Rose before after) → (why ≢ more.Fault → after ≡ before) → TellsFaults a before after
faults_of_more (more.Piece count) bytes a before after is rose same = absurd is
faults_of_more (more.NotYet epoch) bytes a before after is rose same = as_told a _ before after is (tells_none _ before after refl (same (λ w. cc)))
faults_of_more more.End bytes a before after is rose same = as_told a _ before after is (tells_none _ before after refl (same (λ w. cc)))
faults_of_more more.Halted bytes a before after is rose same = as_told a _ before after is (tells_none _ before after refl (same (λ w. cc)))
faults_of_more more.OtherUrl bytes a before after is rose same = as_told a _ before after is (tells_none _ before after refl (same (λ w. cc)))
faults_of_more more.Fault bytes a before after is rose same = as_told a _ before after is (tells_one _ before after refl (rose refl))

pub faults_of_get : (got : Got) (bytes : List ℕ) (a : Answer) (before after : ℕ) → AnswersGet got bytes a → (EndedWith got more.Fault → Rose before after) → ((EndedWith got more.Fault → ⊥) → after ≡ before) → TellsFaults a before after
faults_of_get (Missing cause) bytes a before after is rose same = as_told a _ before after is (tells_none _ before after refl (same (λ w. w)))
faults_of_get (Found version (more.Piece count)) bytes a before after is rose same = absurd is
faults_of_get (Found version (more.NotYet epoch)) bytes a before after is rose same = as_told a _ before after is (tells_none _ before after refl (same (λ w. cc)))
faults_of_get (Found version more.End) bytes a before after is rose same = as_told a _ before after is (tells_none _ before after refl (same (λ w. cc)))
faults_of_get (Found version more.Halted) bytes a before after is rose same = as_told a _ before after is (tells_none _ before after refl (same (λ w. cc)))
faults_of_get (Found version more.OtherUrl) bytes a before after is rose same = as_told a _ before after is (tells_none _ before after refl (same (λ w. cc)))
faults_of_get (Found version more.Fault) bytes a before after is rose same = as_told a _ before after is (tells_one _ before after refl (rose refl))
