-- Refusals that are handed on.
use Rattle.std.proofs.Common.{◌≡◌, ◌⊎◌, ⊎_elim, inl, inr, ℕ, List, length, arith, refl, ap, sym, ◌∙◌, Some, None}
use Rattle.std.specs.Prelude.{IsErrAnd, IsErrOf, Option, Result, Ok, Err, ◌↔◌}
use Rattle.std.specs.FinMap.{get}
use Rattle.db_layout.specs.declared.geometry.Geometry.{Geometry}
use Rattle.rock_disk.specs.File.{File, Files, bytes_of}
use Rattle.rock_disk.specs.Opened.{IsSmall}
use Rattle.rock_disk.specs.declared.volume.PeekFault.{PeekFault}
use Rattle.rock_disk.specs.declared.volume.PeekFault.TheVariants as peeking
use Rattle.slot_finding.specs.declared.finding.FindFault.{FindFault}
use Rattle.slot_finding.specs.declared.finding.FindFault.TheVariants as finding
use Rattle.slot_finding.specs.declared.finding.Looked.{Looked}
use Rattle.slot_finding.specs.Finding.{AnswersOrFails, FileRecords, FindingSays, Fits, Judged}
use Rattle.slot_finding.proofs.Judging.{FileJudged, Reads, one_answer, same_some}

-- a refusal for its size is one of either kind
pub small_on : {T U P : Type 0} (fault : PeekFault) (n bytes : ℕ) → fault ≡ peeking.Small n → (IsErrOf {T = T} (Err fault) (peeking.Small bytes) ↔ P) → (IsErrOf {T = U} (Err (finding.Small n)) (finding.Small bytes) ↔ P)
small_on {T = T} {U = U} fault n bytes is k = (
  λ e.
      let same : n ≡ bytes = cc in
      let was : IsErrOf {T = T} (Err fault) (peeking.Small bytes) = ap (λ (f : PeekFault). Err f) (is ∙ ap (λ (m : ℕ). peeking.Small m) same) in
      k.0 was,
  λ p.
      let w = k.1 p in
      let same : n ≡ bytes = cc in
      ap (λ m. Err (finding.Small m)) same,
)

-- what is no such refusal is none of either kind
pub failed_on : {T U P : Type 0} (fault : PeekFault) (bytes : ℕ) → fault ≡ peeking.Failed → (IsErrOf {T = T} (Err fault) (peeking.Small bytes) ↔ P) → (IsErrOf {T = U} (Err finding.Failed) (finding.Small bytes) ↔ P)
failed_on fault bytes is k = (λ e. absurd (cc), λ p. let w = k.1 p in absurd (cc))

pub memory_on : {T U P : Type 0} (fault : PeekFault) (bytes : ℕ) → fault ≡ peeking.Memory → (IsErrOf {T = T} (Err fault) (peeking.Small bytes) ↔ P) → (IsErrOf {T = U} (Err finding.Memory) (finding.Small bytes) ↔ P)
memory_on fault bytes is k = (λ e. absurd (cc), λ p. let w = k.1 p in absurd (cc))

-- a refusal that `?` passes on
pub handed_on : {P : Type 0} (fault want : FindFault) (r : Result ℕ FindFault) → IsErrAnd r (λ e. e ≡ fault) → (P → IsErrOf {T = Looked} (Err fault) want) → P → IsErrOf r want
handed_on fault want (Ok x) h k p = absurd h
handed_on fault want (Err e) h k p = let w = k p in cc

module _ (files : Files) (name : List ℕ) where
  pub no_file : {recorded : Option Geometry} {bytes : ℕ} → FileRecords files name recorded bytes → get files name ≡ None → ⊥
  no_file f none = let found = f.there.found in cc

  pub no_header : {recorded : Option Geometry} {bytes n : ℕ} → FileRecords files name recorded bytes → IsSmall files name 0 n → ⊥
  no_header f s =
      let same : s.was ≡ f.there.was = same_some (sym s.found ∙ f.there.found) in
      let long = ap (λ (w : File). length (bytes_of w)) same in
      omega (arith, s.size, s.short, f.there.size, f.there.long, long)

  -- where there is a header area, only the volume or want of memory keeps it from being read
  fails : {recorded : Option Geometry} {bytes : ℕ} (fault : FindFault) → (IsErrOf {T = Looked} (Err fault) finding.Missing ↔ get files name ≡ None)
      → ((n : ℕ) → (IsErrOf {T = Looked} (Err fault) (finding.Small n) ↔ IsSmall files name 0 n)) → ((n : ℕ) → IsErrOf {T = Looked} (Err fault) (finding.BadGeometry n) → ⊥)
      → FileRecords files name recorded bytes → (fault ≡ finding.Failed) ⊎ (fault ≡ finding.Memory)
  fails finding.Missing missing small field f = absurd (no_file f (missing.0 refl))
  fails (finding.Small n) missing small field f = absurd (no_header f ((small n).0 refl))
  fails (finding.BadGeometry n) missing small field f = absurd (field n refl)
  fails finding.Failed missing small field f = inl refl
  fails finding.Memory missing small field f = inr refl

  failed_as : (fault : FindFault) (answer r : Result ℕ FindFault) → IsErrAnd r (λ e. e ≡ fault) → (fault ≡ finding.Failed) ⊎ (fault ≡ finding.Memory) → AnswersOrFails answer r
  failed_as fault answer (Ok x) h k = absurd h
  failed_as fault answer (Err e) h (inl k) = inr (inl (ap (λ (f : FindFault). Err f) (h ∙ k)))
  failed_as fault answer (Err e) h (inr k) = inr (inr (ap (λ (f : FindFault). Err f) (h ∙ k)))

  pub look_failed : {recorded : Option Geometry} {bytes : ℕ} (fault : FindFault) (answer r : Result ℕ FindFault) → IsErrAnd r (λ e. e ≡ fault) → (IsErrOf {T = Looked} (Err fault) finding.Missing ↔ get files name ≡ None)
      → ((n : ℕ) → (IsErrOf {T = Looked} (Err fault) (finding.Small n) ↔ IsSmall files name 0 n)) → ((n : ℕ) → IsErrOf {T = Looked} (Err fault) (finding.BadGeometry n) → ⊥)
      → FileRecords files name recorded bytes → AnswersOrFails answer r
  look_failed fault answer r h missing small field f = failed_as fault answer r h (fails fault missing small field f)

-- what is judged, as the answer of a search
abbrev pub as_answer : Result ℕ ℕ → Result ℕ FindFault
as_answer (Ok slot) = Ok slot
as_answer (Err field) = Err (finding.BadGeometry field)

pub answered : (read : Reads) (files : Files) (name : List ℕ) (given : Option ℕ) (a b : Result ℕ ℕ) → FileJudged files name given a → FileJudged files name given b → AnswersOrFails (as_answer b) (as_answer a)
answered read files name given a b h k = inl (ap as_answer (one_answer read files name given a b h k))

pub field_says : {files : Files} {name : List ℕ} {bytes : ℕ} {given : Option ℕ} (recorded : Option Geometry) (field : ℕ) → FileRecords files name recorded bytes → Judged recorded bytes given (Err field) → FindingSays files name given (finding.BadGeometry field)
field_says (Some g) field f j = ⊎_elim
    (λ (t : (field ≡ 6) × (Fits g _ → ⊥)). inl (t.0, record { geometry = g; bytes = _; file = f; unfit = t.1 }))
    (λ t. inr (inl (t.0, record { geometry = g; bytes = _; file = f; fits = t.1; number = t.2.0; given_is = t.2.1; differs = t.2.2 })))
    j
field_says None field f j = inr (inr (j.0, record { bytes = _; file = f; none = j.1 }))
