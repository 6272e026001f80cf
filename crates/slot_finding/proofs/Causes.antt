-- A slot size that is found, and the causes for which none is: one of them stands at most.
use Rattle.std.proofs.Common.{◌≡◌, ⊎_elim, inl, inr, ℕ, List, arith, refl, ap, subst, None}
use Rattle.std.specs.Prelude.{Err, IsErrOf, Ok, Option, Result}
use Rattle.std.specs.FinMap.{get}
use Rattle.db_layout.proofs.Geometries.{one_geometry, recorded_is_marked}
use Rattle.rock_disk.specs.File.{Files}
use Rattle.rock_disk.specs.Opened.{IsSmall}
use Rattle.rock_status.specs.declared.status.Status.{Status}
use Rattle.slot_finding.specs.declared.finding.FindFault.{FindFault}
use Rattle.slot_finding.specs.declared.finding.FindFault.TheVariants as finding
use Rattle.slot_finding.specs.Faults.{OrFailed, status_of_find}
use Rattle.slot_finding.specs.Finding.{AnswersOrFails, FieldSays, FindingSays, FindsSlot, RecordsMisfit, RecordsOther, TellsNoSlot, WithSlot}
use Rattle.slot_finding.proofs.Judging.{Reads, of_misfit, of_none, of_other, of_slot, one_answer}
use Rattle.slot_finding.proofs.Refused.{no_file, no_header}

same_ok : {a b : Result ℕ ℕ} {n m : ℕ} → a ≡ b → a ≡ Ok n → b ≡ Ok m → n ≡ m
same_ok e k l = cc

ok_err : {a b : Result ℕ ℕ} {n m : ℕ} → a ≡ b → a ≡ Ok n → b ≡ Err m → ⊥
ok_err e k l = cc

reads : Reads
reads = record { one = one_geometry; marked = recorded_is_marked }

module _ (files : Files) (name : List ℕ) (given : Option ℕ) where
  pub one_slot : (slot other : ℕ) → FindsSlot files name given slot → FindsSlot files name given other → slot ≡ other
  one_slot slot other h k = same_ok (one_answer reads files name given (Ok slot) (Ok other) (of_slot h) (of_slot k)) refl refl

  pub found_fits : (slot : ℕ) → FindsSlot files name given slot → RecordsMisfit files name → ⊥
  found_fits slot h m = ok_err (one_answer reads files name given (Ok slot) (Err 6) (of_slot h) (of_misfit m)) refl refl

  pub found_agrees : (slot : ℕ) → FindsSlot files name given slot → RecordsOther files name given → ⊥
  found_agrees slot h m = ok_err (one_answer reads files name given (Ok slot) (Err 5) (of_slot h) (of_other m)) refl refl

  pub found_known : (slot : ℕ) → FindsSlot files name given slot → TellsNoSlot files name given → ⊥
  found_known slot h m = ok_err (one_answer reads files name given (Ok slot) (Err 7) (of_slot h) (of_none m)) refl refl

  pub found_there : (slot : ℕ) → FindsSlot files name given slot → get files name ≡ None → ⊥
  found_there slot h none = no_file files name h.file none

  pub found_long : (slot bytes : ℕ) → FindsSlot files name given slot → IsSmall files name 0 bytes → ⊥
  found_long slot bytes h small = no_header files name h.file small

  -- what holds of the one slot size
  pub of_one : {P : ℕ → Type 0} (slot : ℕ) → FindsSlot files name given slot → WithSlot files name given P → P slot
  of_one {P = P} slot h w = subst P (one_slot w.0 slot w.1 h) w.2

  -- what a refusal that has a field says, where no slot size was found
  pub unknown_says : {Unfit : ℕ → Type 0} (field : ℕ) → FindingSays files name given (finding.BadGeometry field) → FieldSays Unfit files name given field
  unknown_says field says = record {
    unfit = λ two. absurd (⊎_elim (λ t. let f = t.0 in omega (arith, f, two)) (λ s. ⊎_elim (λ t. let f = t.0 in omega (arith, f, two)) (λ t. let f = t.0 in omega (arith, f, two)) s) says);
    wrong = λ six. ⊎_elim (λ t. t.1) (λ s. absurd (⊎_elim (λ t. let f = t.0 in omega (arith, f, six)) (λ t. let f = t.0 in omega (arith, f, six)) s)) says;
    differs = λ five. ⊎_elim (λ t. let f = t.0 in absurd (omega (arith, f, five))) (λ s. ⊎_elim (λ t. t.1) (λ t. let f = t.0 in absurd (omega (arith, f, five))) s) says;
    unknown = λ seven. ⊎_elim (λ t. let f = t.0 in absurd (omega (arith, f, seven))) (λ s. ⊎_elim (λ t. let f = t.0 in absurd (omega (arith, f, seven))) (λ t. t.1) s) says;
  }

-- where one of the numbers that were given is refused, nothing is said of the file
pub first_says : {Unfit : ℕ → Type 0} {files : Files} {name : List ℕ} {given : Option ℕ} → FieldSays Unfit files name given 1
first_says = record { unfit = λ e. absurd (omega (arith, e)); wrong = λ e. absurd (omega (arith, e)); differs = λ e. absurd (omega (arith, e)); unknown = λ e. absurd (omega (arith, e)) }

pub second_says : {Unfit : ℕ → Type 0} {files : Files} {name : List ℕ} {given : Option ℕ} (field : ℕ) → field ≡ 2 → WithSlot files name given Unfit → FieldSays Unfit files name given field
second_says field two w = record {
  unfit = λ e. w;
  wrong = λ e. absurd (omega (arith, e, two));
  differs = λ e. absurd (omega (arith, e, two));
  unknown = λ e. absurd (omega (arith, e, two));
}

-- the answer that is due, as a status
pub due_status : (due fault : FindFault) → AnswersOrFails (Err due) (Err fault) → OrFailed (status_of_find due) (status_of_find fault)
due_status due fault (inl is) = let same : fault ≡ due = cc in inl (ap status_of_find same)
due_status due fault (inr (inl failed)) = let same : fault ≡ finding.Failed = cc in inr (inl (ap status_of_find same))
due_status due fault (inr (inr lacked)) = let same : fault ≡ finding.Memory = cc in inr (inr (ap status_of_find same))

-- where a slot size was due and none was found
pub failed_status : (due : Status) (slot : ℕ) (fault : FindFault) → AnswersOrFails (Ok slot) (Err fault) → OrFailed due (status_of_find fault)
failed_status due slot fault (inl is) = absurd (cc)
failed_status due slot fault (inr (inl failed)) = let same : fault ≡ finding.Failed = cc in inr (inl (ap status_of_find same))
failed_status due slot fault (inr (inr lacked)) = let same : fault ≡ finding.Memory = cc in inr (inr (ap status_of_find same))

-- an answer that has one status
pub same_status : (due fault : FindFault) → IsErrOf {T = ℕ} (Err fault) due → status_of_find fault ≡ status_of_find due
same_status due fault is = let same : fault ≡ due = cc in ap status_of_find same
