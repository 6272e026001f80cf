-- What is judged of a file and of what was given: one answer at most.
use Rattle.std.proofs.Common.{◌≡◌, ◌≢◌, ⊎_elim, inl, inr, ℕ, List, refl, ap, sym, ◌∙◌, subst, length, take, Some, None}
use Rattle.std.specs.Prelude.{IfSome, Result, Option, Ok, Err}
use Rattle.db_layout.specs.declared.geometry.Geometry.{Geometry}
use Rattle.db_layout.specs.Geometry.{IsMarked, Records}
use Rattle.db_layout.specs.Layout.{IsSlotSize}
use Rattle.rock_disk.specs.File.{File, Files, bytes_of}
use Rattle.rock_disk.specs.Opened.{IsPeeked}
use Rattle.slot_finding.specs.Finding.{FileRecords, FindsSlot, Fits, GivesSlot, HeaderSays, Judged, RecordsMisfit, RecordsOther, TellsNoSlot}

pub same_some : {A : Type 0} {a b : A} → Some a ≡ Some b → a ≡ b
same_some e = cc

none_some : {A : Type 0} {a : A} → None ≡ Some a → ⊥
none_some e = cc

-- the laws on header areas
pub record Reads : Type 0 where
  pub one : (header : List ℕ) (g h : Geometry) → Records header g → Records header h → g ≡ h
  pub marked : (header : List ℕ) (g : Geometry) → Records header g → IsMarked header

-- a header area records one thing
says_one : Reads → (header : List ℕ) (r s : Option Geometry) → HeaderSays header r → HeaderSays header s → r ≡ s
says_one read header None None h k = refl
says_one read header None (Some g) h k = absurd (h (read.marked header g k))
says_one read header (Some g) None h k = absurd (k (read.marked header g h))
says_one read header (Some g) (Some h) r s = ap Some (read.one header g h r s)

-- what was judged, as one answer
pub judged_one : (recorded : Option Geometry) (bytes : ℕ) (given : Option ℕ) (a b : Result ℕ ℕ) → Judged recorded bytes given a → Judged recorded bytes given b → a ≡ b
judged_one (Some g) bytes given (Ok a) (Ok b) h k = ap Ok (h.1 ∙ sym k.1)
judged_one (Some g) bytes given (Ok a) (Err f) h k = ⊎_elim (λ t. absurd (t.1 h.0)) (λ t. absurd (t.2.2 (sym (h.2 t.2.0 t.2.1) ∙ h.1))) k
judged_one (Some g) bytes given (Err f) (Ok b) h k = ⊎_elim (λ t. absurd (t.1 k.0)) (λ t. absurd (t.2.2 (sym (k.2 t.2.0 t.2.1) ∙ k.1))) h
judged_one (Some g) bytes given (Err f) (Err e) h k = ap Err (⊎_elim
    (λ (t : (f ≡ 6) × (Fits g bytes → ⊥)). ⊎_elim (λ (u : (e ≡ 6) × (Fits g bytes → ⊥)). t.0 ∙ sym u.0) (λ u. absurd (t.1 u.1)) k)
    (λ (t : (f ≡ 5) × Fits g bytes × ((n : ℕ) × (given ≡ Some n) × (n ≢ g.slot))). ⊎_elim (λ u. absurd (u.1 t.1)) (λ u. t.0 ∙ sym u.0) k)
    h)
judged_one None bytes given (Ok a) (Ok b) h k = ap Ok (same_some (sym h ∙ k))
judged_one None bytes given (Ok a) (Err f) h k = absurd (none_some (sym k.1 ∙ h))
judged_one None bytes given (Err f) (Ok b) h k = absurd (none_some (sym h.1 ∙ k))
judged_one None bytes given (Err f) (Err e) h k = ap Err (h.0 ∙ sym k.0)

-- a file that was looked at, and what is judged of it
pub record FileJudged (files : Files) (name : List ℕ) (given : Option ℕ) (answer : Result ℕ ℕ) : Type 0 where
  pub recorded : Option Geometry
  pub bytes : ℕ
  pub file : FileRecords files name recorded bytes
  pub judged : Judged recorded bytes given answer

module _ (read : Reads) (files : Files) (name : List ℕ) (given : Option ℕ) where
  -- who looks at the file twice sees the same
  same_length : {b c : ℕ} {front other : List ℕ} → IsPeeked files name b front → IsPeeked files name c other → b ≡ c
  same_length p q = p.size ∙ ap (λ (f : File). length (bytes_of f)) (same_some (sym p.found ∙ q.found)) ∙ sym q.size

  same_front : {b c : ℕ} {front other : List ℕ} → IsPeeked files name b front → IsPeeked files name c other → front ≡ other
  same_front p q = p.front_is ∙ ap (λ (f : File). take 16384 (bytes_of f)) (same_some (sym p.found ∙ q.found)) ∙ sym q.front_is

  pub one_answer : (a b : Result ℕ ℕ) → FileJudged files name given a → FileJudged files name given b → a ≡ b
  one_answer a b h k =
      let bytes = same_length h.file.there k.file.there in
      let front = same_front h.file.there k.file.there in
      let recorded = says_one read k.file.header h.recorded k.recorded (subst (λ (x : List ℕ). HeaderSays x h.recorded) front h.file.says) k.file.says in
      judged_one k.recorded k.bytes given a b (subst (λ (x : Option Geometry). Judged x k.bytes given a) recorded (subst (λ (n : ℕ). Judged h.recorded n given a) bytes h.judged)) k.judged

-- the slot size and the three causes, as what is judged
module _ {files : Files} {name : List ℕ} {given : Option ℕ} where
  pub of_slot : {slot : ℕ} → FindsSlot files name given slot → FileJudged files name given (Ok slot)
  of_slot {slot = slot} f = record { recorded = f.recorded; bytes = f.bytes; file = f.file; judged = gives f.recorded f.gives }
    where
      gives : (r : Option Geometry) → GivesSlot r f.bytes given slot → Judged r f.bytes given (Ok slot)
      gives (Some g) h = h
      gives None h = h

  pub of_misfit : RecordsMisfit files name → FileJudged files name given (Err 6)
  of_misfit m = record { recorded = Some m.geometry; bytes = m.bytes; file = m.file; judged = inl (refl, m.unfit) }

  pub of_other : RecordsOther files name given → FileJudged files name given (Err 5)
  of_other m = record { recorded = Some m.geometry; bytes = m.bytes; file = m.file; judged = inr (refl, m.fits, (m.number, m.given_is, m.differs)) }

  pub of_none : TellsNoSlot files name given → FileJudged files name given (Err 7)
  of_none m = record { recorded = None; bytes = m.bytes; file = m.file; judged = (refl, m.none) }

-- a size that is found is one that slots may have
pub found_size : (r : Option Geometry) (bytes : ℕ) (given : Option ℕ) (slot : ℕ) → IfSome given IsSlotSize → GivesSlot r bytes given slot → IsSlotSize slot
found_size (Some g) bytes given slot may h = subst IsSlotSize (sym h.1) h.0.size
found_size None bytes given slot may h = subst (λ (o : Option ℕ). IfSome o IsSlotSize) h may
