-- A fault is told as a fault.
use Rattle.std.proofs.Common.{◌≡◌, inr, ◌++◌, ◌∷◌, [], ℕ, List, arith, ◌+◌, refl, ap, sym, ◌∙◌, subst}
use Rattle.std.specs.Prelude.{Result, IsErrOf, IfErr, Ok, Err, None, Option, ◌↔◌}
use Rattle.std.specs.FinMap.{get}
use Rattle.rock_disk.specs.Counts.{Counts, HasFailed, NoStation, NoneFailed, OneStation, counted}
use Rattle.rock_disk.specs.File.{Files}
use Rattle.rock_disk.specs.Opened.{IsSmall}
use Rattle.rock_disk.specs.declared.volume.OpenFault.{OpenFault}
use Rattle.rock_disk.specs.declared.volume.OpenFault.TheVariants as opening
use Rattle.rock_disk.specs.declared.volume.StationFault.{StationFault}
use Rattle.rock_disk.specs.declared.volume.StationFault.TheVariants as station
use Rattle.rock_rebuild.specs.declared.outcome.RebuildFault.{RebuildFault}
use Rattle.rock_rebuild.specs.declared.outcome.RebuildFault.TheVariants as rebuild
use Rattle.file_commands.specs.Faults.{status_of_open, status_of_station, status_of_rebuild}
use Rattle.slot_finding.specs.Finding.{IsGiven, WithSlot}
use Rattle.file_commands.specs.Report.{FoundEnds, HasSlots, IsFit, OpenedEnds, PrintEnds, ReadEnds, ReadSays, ReportEnds, ReportPrints, ReportSays}
use Rattle.rock_status.specs.declared.status.Status.{Status}
use Rattle.rock_status.specs.declared.status.Status.TheVariants.{Done, Usage, Memory, SourceFault, SinkFault, DeviceFault, BadScript, Missing, Small, BadGeometry, Exists}

-- the last element of a list is one
last_of : (before : List ℕ) (a b : ℕ) → before ++ a ∷ [] ≡ before ++ b ∷ [] → a ≡ b
last_of [] a b e = cc
last_of (x ∷ xs) a b e = let rest : xs ++ a ∷ [] ≡ xs ++ b ∷ [] = cc in last_of xs a b rest

-- counts of the same members are the same
pub same_counts : {f f' m m' : ℕ} {e e' : List ℕ} → f ≡ f' → m ≡ m' → e ≡ e' → counted f m e ≡ counted f' m' e'
same_counts p q r = cc

-- what holds of the counts holds where calls before and after leave them
pub moved : {c c1 c2 c' : Counts} → c1 ≡ c → c' ≡ c2 → (P : Counts → Counts → Type 0) → P c1 c2 → P c c'
moved {c1 = c1} {c' = c'} p q P h = subst (λ (x : Counts). P x c') p (subst (λ (x : Counts). P c1 x) (sym q) h)

-- a station that was made and then ended
pub one_station : {f f' m m1 m' : ℕ} {e e1 e' : List ℕ} (count : ℕ) → m1 ≡ m + 1 → e1 ≡ e → m' ≡ m1 → e' ≡ e1 ++ count ∷ [] → OneStation count (counted f m e) (counted f' m' e')
one_station count made same still ended = record { made = still ∙ made; ended = ended ∙ ap (λ (l : List ℕ). l ++ count ∷ []) same }

-- no station was made
pub none_ended : {c c' : Counts} → NoStation c c' → c'.faults ≡ c.faults → NoneFailed c c'
none_ended none same = record { faults = same; station = λ count one. let m = one.made in let n = none.made in absurd (omega (arith, m, n)) }

-- one station was made, of which no call failed
pub one_ended : {c c' : Counts} {count : ℕ} → OneStation count c c' → count ≡ 0 → c'.faults ≡ c.faults → NoneFailed c c'
one_ended {c = c} {count = count} one none same = record { faults = same; station = λ other is. last_of c.ended other count (sym is.ended ∙ one.ended) ∙ none }

pub same_status : {T : Type 0} {s status : Status} → ◌≡◌ {A = Result T Status} (Err s) (Err status) → s ≡ status
same_status e = cc

-- what tells no fault of the disk did not meet one
pub not_failed_open : {T U : Type 0} (f : OpenFault) (s : Status) → s ≡ status_of_open f → (IsErrOf {T = U} (Err s) DeviceFault → ⊥) → IsErrOf {T = T} (Err f) opening.Failed → ⊥
not_failed_open opening.Missing s h none failed = cc
not_failed_open (opening.Small n) s h none failed = cc
not_failed_open opening.Failed s h none failed = none (ap (λ f. Err f) h)
not_failed_open opening.Memory s h none failed = cc

pub not_failed_station : {T U : Type 0} (f : StationFault) (s : Status) → s ≡ status_of_station f → (IsErrOf {T = U} (Err s) DeviceFault → ⊥) → IsErrOf {T = T} (Err f) station.Failed → ⊥
not_failed_station station.Failed s h none failed = none (ap (λ f. Err f) h)
not_failed_station station.Memory s h none failed = cc

pub not_failed_text : {T U : Type 0} (f : RebuildFault) (s : Status) → s ≡ status_of_rebuild f → (IsErrOf {T = U} (Err s) DeviceFault → ⊥) → IsErrOf {T = T} (Err f) rebuild.Failed → ⊥
not_failed_text rebuild.Failed s h none failed = none (ap (λ f. Err f) h)
not_failed_text rebuild.Memory s h none failed = cc

-- a fault of the disk is told by nothing else
pub failed_open : {T U : Type 0} (f : OpenFault) (s : Status) → s ≡ status_of_open f → IsErrOf {T = U} (Err s) DeviceFault → IsErrOf {T = T} (Err f) opening.Failed
failed_open opening.Missing s h told = cc
failed_open (opening.Small n) s h told = cc
failed_open opening.Failed s h told = refl
failed_open opening.Memory s h told = cc

-- a file that is not fit is told as nothing else
pub only_unfit : {T : Type 0} (r : Result T Status) → IsErrOf r (BadGeometry 2) → IsErrOf r DeviceFault → ⊥
only_unfit r unfit device = cc

-- how a file is refused, by what the volume says
pub open_refused : {T : Type 0} (Fits : ℕ → Type 0) (c c' : Counts) (f : OpenFault) (s : Status) → s ≡ status_of_open f
    → (IsErrOf {T = T} (Err f) opening.Failed → HasFailed c c') → ReadEnds Fits c c' s
open_refused Fits c c' opening.Missing s h failed = subst (ReadEnds Fits c c') (sym h) tt
open_refused Fits c c' (opening.Small n) s h failed = subst (ReadEnds Fits c c') (sym h) tt
open_refused Fits c c' opening.Failed s h failed = subst (ReadEnds Fits c c') (sym h) (failed refl)
open_refused Fits c c' opening.Memory s h failed = subst (ReadEnds Fits c c') (sym h) tt

pub open_says : {T : Type 0} (Fits : ℕ → Type 0) (files : Files) (name : List ℕ) (slot : ℕ) (f : OpenFault) (s : Status) → s ≡ status_of_open f
    → (IsErrOf {T = T} (Err f) opening.Missing ↔ (get files name ≡ None)) → ((bytes : ℕ) → (IsErrOf {T = T} (Err f) (opening.Small bytes) ↔ IsSmall files name slot bytes)) → ReadSays Fits files name slot s
open_says Fits files name slot opening.Missing s h missing small = subst (ReadSays Fits files name slot) (sym h) (missing.0 refl)
open_says Fits files name slot (opening.Small n) s h missing small = subst (ReadSays Fits files name slot) (sym h) ((small n).0 refl)
open_says Fits files name slot opening.Failed s h missing small = subst (ReadSays Fits files name slot) (sym h) tt
open_says Fits files name slot opening.Memory s h missing small = subst (ReadSays Fits files name slot) (sym h) tt

same_fault : {T : Type 0} {f g : OpenFault} → ◌≡◌ {A = Result T OpenFault} (Err f) (Err g) → f ≡ g
same_fault e = cc

-- a fault of opening has one status
pub open_told : {T U : Type 0} (f g : OpenFault) (s : Status) → s ≡ status_of_open f → IsErrOf {T = T} (Err f) g → IsErrOf {T = U} (Err s) (status_of_open g)
open_told f g s h is = ap (λ s. Err s) (h ∙ ap status_of_open (same_fault is))

-- how an opened file is refused is how a file is
pub opened_refused : {T : Type 0} (Fits : ℕ → Type 0) (slots : ℕ) {c c1 c2 c' : Counts} (r : Result T Status) → c1 ≡ c → c' ≡ c2 → IfErr r (OpenedEnds Fits slots c1 c2)
    → IfErr r (ReadEnds Fits c c')
opened_refused Fits slots (Ok x) p q k = tt
opened_refused Fits slots (Err Done) p q k = absurd k
opened_refused Fits slots (Err Usage) p q k = absurd k
opened_refused Fits slots (Err Memory) p q k = tt
opened_refused Fits slots (Err SourceFault) p q k = absurd k
opened_refused Fits slots (Err SinkFault) p q k = absurd k
opened_refused Fits slots (Err DeviceFault) p q k = moved p q HasFailed k
opened_refused Fits slots (Err (BadScript line cause)) p q k = absurd k
opened_refused Fits slots (Err Missing) p q k = absurd k
opened_refused Fits slots (Err (Small bytes)) p q k = absurd k
opened_refused Fits slots (Err (BadGeometry field)) p q k = (k.0, (slots, k.1))
opened_refused Fits slots (Err Exists) p q k = absurd k

pub opened_says : {T : Type 0} (Fits : ℕ → Type 0) (slots : ℕ) (c c' : Counts) (files : Files) (name : List ℕ) (slot : ℕ) (r : Result T Status) → HasSlots files name slot slots → IfErr r (OpenedEnds Fits slots c c')
    → IfErr r (ReadSays Fits files name slot)
opened_says Fits slots c c' files name slot (Ok x) has k = tt
opened_says Fits slots c c' files name slot (Err Done) has k = absurd k
opened_says Fits slots c c' files name slot (Err Usage) has k = absurd k
opened_says Fits slots c c' files name slot (Err Memory) has k = tt
opened_says Fits slots c c' files name slot (Err SourceFault) has k = absurd k
opened_says Fits slots c c' files name slot (Err SinkFault) has k = absurd k
opened_says Fits slots c c' files name slot (Err DeviceFault) has k = tt
opened_says Fits slots c c' files name slot (Err (BadScript line cause)) has k = absurd k
opened_says Fits slots c c' files name slot (Err Missing) has k = absurd k
opened_says Fits slots c c' files name slot (Err (Small bytes)) has k = absurd k
opened_says Fits slots c c' files name slot (Err (BadGeometry field)) has k = λ two. (slots, has, k.1)
opened_says Fits slots c c' files name slot (Err Exists) has k = absurd k

-- how a file is refused is how the command ends
pub refused_ends : (Fits : ℕ → Type 0) (given : Option ℕ) (s : ℕ) (c c' : Counts) (status : Status) → IsGiven given → FoundEnds Fits given c c' status → ReportEnds Fits given s s c c' status
refused_ends Fits given s c c' Done sized k = absurd k
refused_ends Fits given s c c' Usage sized k = absurd k
refused_ends Fits given s c c' Memory sized k = sized
refused_ends Fits given s c c' SourceFault sized k = absurd k
refused_ends Fits given s c c' SinkFault sized k = absurd k
refused_ends Fits given s c c' DeviceFault sized k = (sized, k)
refused_ends Fits given s c c' (BadScript line cause) sized k = absurd k
refused_ends Fits given s c c' Missing sized k = sized
refused_ends Fits given s c c' (Small bytes) sized k = sized
refused_ends Fits given s c c' (BadGeometry field) sized k = inr (sized, k)
refused_ends Fits given s c c' Exists sized k = absurd k

-- and nothing is printed
pub refused_prints : (Fits : ℕ → Type 0) (given : Option ℕ) (c c' : Counts) (IsText : List ℕ → Type 0) (text : List ℕ) (status : Status) → FoundEnds Fits given c c' status → ReportPrints IsText text text status
refused_prints Fits given c c' IsText text Done k = absurd k
refused_prints Fits given c c' IsText text Usage k = absurd k
refused_prints Fits given c c' IsText text Memory k = refl
refused_prints Fits given c c' IsText text SourceFault k = absurd k
refused_prints Fits given c c' IsText text SinkFault k = absurd k
refused_prints Fits given c c' IsText text DeviceFault k = refl
refused_prints Fits given c c' IsText text (BadScript line cause) k = absurd k
refused_prints Fits given c c' IsText text Missing k = refl
refused_prints Fits given c c' IsText text (Small bytes) k = refl
refused_prints Fits given c c' IsText text (BadGeometry field) k = refl
refused_prints Fits given c c' IsText text Exists k = absurd k

-- how printing ends is how the command ends
pub printed_ends : (Fits : ℕ → Type 0) (given : Option ℕ) (s s' : ℕ) (c c' : Counts) (status : Status) → IsGiven given → PrintEnds s s' status → ReportEnds Fits given s s' c c' status
printed_ends Fits given s s' c c' Done sized k = sized
printed_ends Fits given s s' c c' Usage sized k = absurd k
printed_ends Fits given s s' c c' Memory sized k = sized
printed_ends Fits given s s' c c' SourceFault sized k = absurd k
printed_ends Fits given s s' c c' SinkFault sized k = (sized, k)
printed_ends Fits given s s' c c' DeviceFault sized k = absurd k
printed_ends Fits given s s' c c' (BadScript line cause) sized k = absurd k
printed_ends Fits given s s' c c' Missing sized k = absurd k
printed_ends Fits given s s' c c' (Small bytes) sized k = absurd k
printed_ends Fits given s s' c c' (BadGeometry field) sized k = absurd k
printed_ends Fits given s s' c c' Exists sized k = absurd k

pub printed_says : (Fits : ℕ → Type 0) (s s' : ℕ) (files : Files) (name : List ℕ) (given : Option ℕ) (status : Status) → WithSlot files name given (IsFit Fits files name) → PrintEnds s s' status → ReportSays Fits files name given status
printed_says Fits s s' files name given Done fit k = fit
printed_says Fits s s' files name given Usage fit k = absurd k
printed_says Fits s s' files name given Memory fit k = tt
printed_says Fits s s' files name given SourceFault fit k = absurd k
printed_says Fits s s' files name given SinkFault fit k = fit
printed_says Fits s s' files name given DeviceFault fit k = absurd k
printed_says Fits s s' files name given (BadScript line cause) fit k = absurd k
printed_says Fits s s' files name given Missing fit k = absurd k
printed_says Fits s s' files name given (Small bytes) fit k = absurd k
printed_says Fits s s' files name given (BadGeometry field) fit k = absurd k
printed_says Fits s s' files name given Exists fit k = absurd k

-- printing meets no fault of the disk
pub printed_no_fault : (s s' : ℕ) (status : Status) → PrintEnds s s' status → status ≡ DeviceFault → ⊥
printed_no_fault s s' Done k told = cc
printed_no_fault s s' Usage k told = absurd k
printed_no_fault s s' Memory k told = cc
printed_no_fault s s' SourceFault k told = absurd k
printed_no_fault s s' SinkFault k told = cc
printed_no_fault s s' DeviceFault k told = absurd k
printed_no_fault s s' (BadScript line cause) k told = absurd k
printed_no_fault s s' Missing k told = absurd k
printed_no_fault s s' (Small bytes) k told = absurd k
printed_no_fault s s' (BadGeometry field) k told = absurd k
printed_no_fault s s' Exists k told = absurd k

-- what is printed of what was read is a text of the file
pub printed_text : {IsText Told : List ℕ → Type 0} (s s' : ℕ) (before after : List ℕ) (status : Status) → ((text : List ℕ) → IsText text → Told text) → PrintEnds s s' status → ReportPrints IsText before after status → ReportPrints Told before after status
printed_text s s' before after Done tells k p = (p.0, tells p.0 p.1, p.2)
printed_text s s' before after Usage tells k p = absurd k
printed_text s s' before after Memory tells k p = p
printed_text s s' before after SourceFault tells k p = absurd k
printed_text s s' before after SinkFault tells k p = (p.0, tells p.0 p.1, p.2)
printed_text s s' before after DeviceFault tells k p = absurd k
printed_text s s' before after (BadScript line cause) tells k p = absurd k
printed_text s s' before after Missing tells k p = absurd k
printed_text s s' before after (Small bytes) tells k p = absurd k
printed_text s s' before after (BadGeometry field) tells k p = absurd k
printed_text s s' before after Exists tells k p = absurd k
