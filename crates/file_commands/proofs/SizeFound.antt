-- A file whose slot size is found, or is not, and which is read then.
use Rattle.std.proofs.Common.{◌≡◌, inl, inr, ℕ, List, length, arith, refl, ap, sym, ◌∙◌, subst, Some, None}
use Rattle.std.specs.Prelude.{Bool, Err, IfErr, IsErrOf, IsTrue, Ok, Option, Result}
use Rattle.std.specs.FinMap.{get}
use Rattle.rock_disk.specs.Counts.{Counts}
use Rattle.rock_disk.specs.File.{File, Files, bytes_of}
use Rattle.rock_disk.specs.Opened.{IsSmall}
use Rattle.slot_finding.specs.declared.finding.FindFault.{FindFault}
use Rattle.slot_finding.specs.declared.finding.FindFault.TheVariants as finding
use Rattle.slot_finding.specs.Faults.{OrFailed, status_of_find}
use Rattle.slot_finding.specs.Finding.{AnswersOrFails, FindingSays, FindsSlot, IsGiven, RecordsMisfit, RecordsOther, TellsNoSlot, WithSlot}
use Rattle.slot_finding.proofs.Causes.{due_status, failed_status, found_agrees, found_fits, found_known, found_long, found_there, of_one, same_status as one_status, second_says, unknown_says}
use Rattle.file_commands.specs.Report.{HasSlots, IsFit, IsRefused, IsUnfit, ReadEnds, ReadSays, ReportSays}
use Rattle.file_commands.proofs.Kept.{one_count, one_file}
use Rattle.rock_status.specs.declared.status.Status.{Status}
use Rattle.rock_status.specs.declared.status.Status.TheVariants.{Done, Usage, Memory, SourceFault, SinkFault, DeviceFault, BadScript, Missing, Small, BadGeometry, Exists}

lacks_no_file : {f : File} {o : Option File} → o ≡ None → o ≡ Some f → ⊥
lacks_no_file e k = cc

not_short : (files : Files) (name : List ℕ) (slot n bytes : ℕ) → HasSlots files name slot n → IsSmall files name slot bytes → ⊥
not_short files name slot n bytes h small =
    let same : length (bytes_of h.was) ≡ length (bytes_of small.was) = ap (λ f. length (bytes_of f)) (one_file h.there small.found) in
    omega (arith, h.long, small.size, small.short, same)

pub fits_not : (Fits : ℕ → Type 0) (files : Files) (name : List ℕ) (slot : ℕ) → IsUnfit Fits files name slot → IsFit Fits files name slot → ⊥
fits_not Fits files name slot unfit fit = unfit.2 (subst Fits (one_count files name slot fit.0 unfit.0 fit.1 unfit.1) fit.2)

-- where no slot size was found
pub unfound_says : (Fits : ℕ → Type 0) (files : Files) (name : List ℕ) (given : Option ℕ) (fault : FindFault) (s : Status) → s ≡ status_of_find fault → FindingSays files name given fault → ReportSays Fits files name given s
unfound_says Fits files name given finding.Missing s h says = subst (ReportSays Fits files name given) (sym h) says
unfound_says Fits files name given (finding.Small bytes) s h says = subst (ReportSays Fits files name given) (sym h) (inl says)
unfound_says Fits files name given (finding.BadGeometry field) s h says = subst (ReportSays Fits files name given) (sym h) (unknown_says files name given field says)
unfound_says Fits files name given finding.Failed s h says = subst (ReportSays Fits files name given) (sym h) tt
unfound_says Fits files name given finding.Memory s h says = subst (ReportSays Fits files name given) (sym h) tt

pub unfound_refused : (tells : Bool) (Fits : ℕ → Type 0) (files : Files) (name : List ℕ) (given : Option ℕ) (fault : FindFault) (s : Status) → s ≡ status_of_find fault → IsGiven given
    → (IsTrue tells → (slot : ℕ) → FindsSlot files name given slot → AnswersOrFails (Ok slot) (Err fault))
    → (IsTrue tells → get files name ≡ None → IsErrOf {T = ℕ} (Err fault) finding.Missing)
    → (IsTrue tells → (bytes : ℕ) → IsSmall files name 0 bytes → IsErrOf {T = ℕ} (Err fault) (finding.Small bytes))
    → (IsTrue tells → RecordsMisfit files name → AnswersOrFails (Err (finding.BadGeometry 6)) (Err fault))
    → (IsTrue tells → RecordsOther files name given → AnswersOrFails (Err (finding.BadGeometry 5)) (Err fault))
    → (IsTrue tells → TellsNoSlot files name given → AnswersOrFails (Err (finding.BadGeometry 7)) (Err fault))
    → IsRefused tells Fits files name given s
unfound_refused tells Fits files name given fault s h may complete no_file short wrong differs unknown = record {
  geometry = λ not. absurd (not may);
  missing = λ t sized none. h ∙ one_status finding.Missing fault (no_file t none);
  small = λ bytes t sized is. h ∙ one_status (finding.Small bytes) fault (short t bytes is);
  wrong = λ t sized m. subst (OrFailed (BadGeometry 6)) (sym h) (due_status (finding.BadGeometry 6) fault (wrong t m));
  differs = λ t sized m. subst (OrFailed (BadGeometry 5)) (sym h) (due_status (finding.BadGeometry 5) fault (differs t m));
  unknown = λ t m. subst (OrFailed (BadGeometry 7)) (sym h) (due_status (finding.BadGeometry 7) fault (unknown t m));
  short = λ bytes t sized w. subst (OrFailed (Small bytes)) (sym h) (failed_status (Small bytes) w.0 fault (complete t w.0 w.1));
  unfit = λ t sized w. subst (OrFailed (BadGeometry 2)) (sym h) (failed_status (BadGeometry 2) w.0 fault (complete t w.0 w.1));
}

-- where one was found
pub found_says : {T : Type 0} (Fits : ℕ → Type 0) (c c' : Counts) (files : Files) (name : List ℕ) (given : Option ℕ) (slot : ℕ) (r : Result T Status) → FindsSlot files name given slot
    → IfErr r (ReadEnds Fits c c') → IfErr r (ReadSays Fits files name slot) → IfErr r (ReportSays Fits files name given)
found_says Fits c c' files name given slot (Ok x) finds k says = tt
found_says Fits c c' files name given slot (Err Done) finds k says = absurd k
found_says Fits c c' files name given slot (Err Usage) finds k says = absurd k
found_says Fits c c' files name given slot (Err Memory) finds k says = tt
found_says Fits c c' files name given slot (Err SourceFault) finds k says = absurd k
found_says Fits c c' files name given slot (Err SinkFault) finds k says = absurd k
found_says Fits c c' files name given slot (Err DeviceFault) finds k says = tt
found_says Fits c c' files name given slot (Err (BadScript line cause)) finds k says = absurd k
found_says Fits c c' files name given slot (Err Missing) finds k says = says
found_says Fits c c' files name given slot (Err (Small bytes)) finds k says = inr (slot, finds, says)
found_says Fits c c' files name given slot (Err (BadGeometry field)) finds k says = second_says field k.0 (slot, finds, says k.0)
found_says Fits c c' files name given slot (Err Exists) finds k says = absurd k

-- a status that is due comes
pub due_err : {T : Type 0} (r : Result T Status) (due : Status) → IsErrOf r due → IfErr r (OrFailed due)
due_err (Ok x) due is = tt
due_err (Err status) due is = let same : status ≡ due = cc in inl same

-- where the number of slots does not fit, it is refused, unless the disk failed or memory was wanting
sized_unfit : (Fits : ℕ → Type 0) (c c' : Counts) (files : Files) (name : List ℕ) (slot : ℕ) (status : Status) → ReadEnds Fits c c' status → ReadSays Fits files name slot status → IsUnfit Fits files name slot
    → OrFailed (BadGeometry 2) status
sized_unfit Fits c c' files name slot Done k says unfit = absurd k
sized_unfit Fits c c' files name slot Usage k says unfit = absurd k
sized_unfit Fits c c' files name slot Memory k says unfit = inr (inr refl)
sized_unfit Fits c c' files name slot SourceFault k says unfit = absurd k
sized_unfit Fits c c' files name slot SinkFault k says unfit = absurd k
sized_unfit Fits c c' files name slot DeviceFault k says unfit = inr (inl refl)
sized_unfit Fits c c' files name slot (BadScript line cause) k says unfit = absurd k
sized_unfit Fits c c' files name slot Missing k says unfit = absurd (lacks_no_file says unfit.1.there)
sized_unfit Fits c c' files name slot (Small bytes) k says unfit = absurd (not_short files name slot unfit.0 bytes unfit.1 says)
sized_unfit Fits c c' files name slot (BadGeometry field) k says unfit = inl (ap BadGeometry k.0)
sized_unfit Fits c c' files name slot Exists k says unfit = absurd k

pub found_refused : {T : Type 0} (tells : Bool) (Fits : ℕ → Type 0) (c c' : Counts) (files : Files) (name : List ℕ) (given : Option ℕ) (slot : ℕ) (r : Result T Status) → IsGiven given → (IsTrue tells → FindsSlot files name given slot)
    → IfErr r (ReadEnds Fits c c') → (IsTrue tells → IfErr r (ReadSays Fits files name slot)) → (IsTrue tells → (bytes : ℕ) → IsSmall files name slot bytes → IfErr r (OrFailed (Small bytes)))
    → IfErr r (IsRefused tells Fits files name given)
found_refused tells Fits c c' files name given slot (Ok x) may finds ends says short = tt
found_refused tells Fits c c' files name given slot (Err status) may finds ends says short = record {
  geometry = λ not. absurd (not may);
  missing = λ t sized none. absurd (found_there files name given slot (finds t) none);
  small = λ bytes t sized is. absurd (found_long files name given slot bytes (finds t) is);
  wrong = λ t sized m. absurd (found_fits files name given slot (finds t) m);
  differs = λ t sized m. absurd (found_agrees files name given slot (finds t) m);
  unknown = λ t m. absurd (found_known files name given slot (finds t) m);
  short = λ bytes t sized w. short t bytes (of_one files name given slot (finds t) w);
  unfit = λ t sized w. sized_unfit Fits c c' files name slot status ends (says t) (of_one files name given slot (finds t) w);
}

-- nothing refuses a file that was read
pub fit_refused : (tells : Bool) (Fits : ℕ → Type 0) (files : Files) (name : List ℕ) (given : Option ℕ) (status : Status) → IsGiven given → (IsTrue tells → WithSlot files name given (IsFit Fits files name)) → IsRefused tells Fits files name given status
fit_refused tells Fits files name given status may fit = record {
  geometry = λ not. absurd (not may);
  missing = λ t sized none. absurd (found_there files name given (fit t).0 (fit t).1 none);
  small = λ bytes t sized is. absurd (found_long files name given (fit t).0 bytes (fit t).1 is);
  wrong = λ t sized m. absurd (found_fits files name given (fit t).0 (fit t).1 m);
  differs = λ t sized m. absurd (found_agrees files name given (fit t).0 (fit t).1 m);
  unknown = λ t m. absurd (found_known files name given (fit t).0 (fit t).1 m);
  short = λ bytes t sized w. let f = fit t in absurd (not_short files name f.0 f.2.0 bytes f.2.1 (of_one files name given f.0 f.1 w));
  unfit = λ t sized w. let f = fit t in absurd (fits_not Fits files name f.0 (of_one files name given f.0 f.1 w) f.2);
}

-- nothing is said of a file where the size that is given is none
pub ungiven_refused : (tells : Bool) (Fits : ℕ → Type 0) (files : Files) (name : List ℕ) (given : Option ℕ) → ¬ IsGiven given → IsRefused tells Fits files name given (BadGeometry 1)
ungiven_refused tells Fits files name given not = record {
  geometry = λ same. refl;
  missing = λ t sized none. absurd (not sized);
  small = λ bytes t sized is. absurd (not sized);
  wrong = λ t sized m. absurd (not sized);
  differs = λ t sized m. absurd (not sized);
  unknown = λ t m. absurd (not (subst IsGiven (sym m.none) tt));
  short = λ bytes t sized w. absurd (not sized);
  unfit = λ t sized w. absurd (not sized);
}
