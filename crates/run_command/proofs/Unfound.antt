-- A run over a file whose slot size is not found.
use Rattle.std.proofs.Common.{Bool, List, None, Some, arith, inl, refl, subst, sym, ◌<◌, ◌∙◌, ◌≡◌, ℕ}
use Rattle.std.specs.Prelude.{Err, IsErrOf, IsTrue, Ok, Option}
use Rattle.std.specs.FinMap.{get}
use Rattle.db_layout.specs.declared.layout.TheConstants.{HEADER_BYTES}
use Rattle.rock_disk.specs.File.{Files}
use Rattle.rock_disk.specs.Opened.{IsSmall}
use Rattle.rock_io.specs.Faults.{Rose}
use Rattle.rock_disk.specs.Counts.{Counts, NoStation}
use Rattle.rock_status.specs.declared.status.Status.{Status}
use Rattle.rock_status.specs.declared.status.Status.TheVariants.{BadGeometry, Small}
use Rattle.slot_finding.specs.declared.finding.FindFault.{FindFault}
use Rattle.slot_finding.specs.declared.finding.FindFault.TheVariants as finding
use Rattle.slot_finding.specs.Faults.{OrFailed, status_of_find}
use Rattle.slot_finding.specs.Finding.{AnswersOrFails, FindingSays, FindsSlot, IsUnknown, RecordsMisfit, RecordsOther, TellsNoSlot}
use Rattle.slot_finding.proofs.Causes.{due_status, failed_status, same_status, unknown_says}
use Rattle.run_command.specs.Ends.{FoundEnds, IsShort}
use Rattle.run_command.specs.Found.{FoundLeaves}
use Rattle.run_command.specs.Says.{FileSays, IsFileRefused}

-- a file that is shorter than its header area has no slot
no_header : (given : Option ℕ) (bytes : ℕ) → bytes < HEADER_BYTES → IsShort given bytes
no_header (Some slot) bytes lt = omega (arith, lt)
no_header None bytes lt = (512, record { from = omega arith; to = omega arith; multiple = refl }, omega (arith, lt))

pub unfound_ends : (given : Option ℕ) (anchors : ℕ) (before after : Counts) (fault : FindFault) (s : Status) → s ≡ status_of_find fault
    → NoStation before after
    → ((bytes : ℕ) → IsErrOf {T = ℕ} (Err fault) (finding.Small bytes) → bytes < HEADER_BYTES)
    → ((field : ℕ) → IsErrOf {T = ℕ} (Err fault) (finding.BadGeometry field) → IsUnknown given field)
    → (IsErrOf {T = ℕ} (Err fault) finding.Failed → Rose before.faults after.faults)
    → FoundEnds given anchors before after s
unfound_ends given anchors before after finding.Missing s h none short fields failed =
    subst (FoundEnds given anchors before after) (sym h) none
unfound_ends given anchors before after (finding.Small bytes) s h none short fields failed =
    subst (FoundEnds given anchors before after) (sym h) (no_header given bytes (short bytes refl), none)
unfound_ends given anchors before after (finding.BadGeometry field) s h none short fields failed =
    subst (FoundEnds given anchors before after) (sym h) (inl (fields field refl), none)
unfound_ends given anchors before after finding.Failed s h none short fields failed =
    subst (FoundEnds given anchors before after) (sym h) (inl (failed refl))
unfound_ends given anchors before after finding.Memory s h none short fields failed =
    subst (FoundEnds given anchors before after) (sym h) tt

pub unfound_says : (files : Files) (name : List ℕ) (given : Option ℕ) (anchors : ℕ) (fault : FindFault) (s : Status)
    → s ≡ status_of_find fault → FindingSays files name given fault → FileSays files name given anchors s
unfound_says files name given anchors finding.Missing s h says = subst (FileSays files name given anchors) (sym h) says
unfound_says files name given anchors (finding.Small bytes) s h says = subst (FileSays files name given anchors) (sym h) (inl says)
unfound_says files name given anchors (finding.BadGeometry field) s h says =
    subst (FileSays files name given anchors) (sym h) (unknown_says files name given field says)
unfound_says files name given anchors finding.Failed s h says = subst (FileSays files name given anchors) (sym h) tt
unfound_says files name given anchors finding.Memory s h says = subst (FileSays files name given anchors) (sym h) tt

pub unfound_refused : (tells : Bool) (files : Files) (name : List ℕ) (given : Option ℕ) (anchors : ℕ) (before after : Counts)
    (fault : FindFault) (s : Status) → s ≡ status_of_find fault → NoStation before after
    → (IsTrue tells → (slot : ℕ) → FindsSlot files name given slot → AnswersOrFails (Ok slot) (Err fault))
    → (IsTrue tells → get files name ≡ None → IsErrOf {T = ℕ} (Err fault) finding.Missing)
    → (IsTrue tells → (bytes : ℕ) → IsSmall files name 0 bytes → IsErrOf {T = ℕ} (Err fault) (finding.Small bytes))
    → (IsTrue tells → RecordsMisfit files name → AnswersOrFails (Err (finding.BadGeometry 6)) (Err fault))
    → (IsTrue tells → RecordsOther files name given → AnswersOrFails (Err (finding.BadGeometry 5)) (Err fault))
    → (IsTrue tells → TellsNoSlot files name given → AnswersOrFails (Err (finding.BadGeometry 7)) (Err fault))
    → IsFileRefused tells files name given anchors before after s
unfound_refused tells files name given anchor_count before after fault s h none complete no_file small wrong differs unknown = record {
  missing = λ t is. h ∙ same_status finding.Missing fault (no_file t is);
  small = λ bytes t is. h ∙ same_status (finding.Small bytes) fault (small t bytes is);
  wrong = λ t is. (subst (OrFailed (BadGeometry 6)) (sym h) (due_status (finding.BadGeometry 6) fault (wrong t is)), none);
  differs = λ t is. (subst (OrFailed (BadGeometry 5)) (sym h) (due_status (finding.BadGeometry 5) fault (differs t is)), none);
  unknown = λ t is. (subst (OrFailed (BadGeometry 7)) (sym h) (due_status (finding.BadGeometry 7) fault (unknown t is)), none);
  short = λ bytes t w. (subst (OrFailed (Small bytes)) (sym h) (failed_status (Small bytes) w.0 fault (complete t w.0 w.1)), none);
  anchors = λ t w. (subst (OrFailed (BadGeometry 2)) (sym h) (failed_status (BadGeometry 2) w.0 fault (complete t w.0 w.1)), none);
}

pub unfound_kept : (Kept Closed : Type 0) (fault : FindFault) (s : Status) → s ≡ status_of_find fault → Kept → FoundLeaves Kept Closed s
unfound_kept Kept Closed finding.Missing s h kept = subst (FoundLeaves Kept Closed) (sym h) kept
unfound_kept Kept Closed (finding.Small bytes) s h kept = subst (FoundLeaves Kept Closed) (sym h) kept
unfound_kept Kept Closed (finding.BadGeometry field) s h kept = subst (FoundLeaves Kept Closed) (sym h) kept
unfound_kept Kept Closed finding.Failed s h kept = subst (FoundLeaves Kept Closed) (sym h) (inl kept)
unfound_kept Kept Closed finding.Memory s h kept = subst (FoundLeaves Kept Closed) (sym h) (inl kept)
