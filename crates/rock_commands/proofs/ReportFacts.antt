-- When a report is made, what it leaves of the files, and that no station is ended where none was made.
use Rattle.std.proofs.Common.{◌≡◌, inl, inr, ℕ, List, length, refl, ap, sym, ◌∙◌, subst, arith, Some}
use Rattle.std.specs.Prelude.{IsTrue, Option}
use Rattle.rock_io.specs.Faults.{Rose}
use Rattle.rock_disk.specs.Counts.{Counts, NoStation, NoneFailed}
use Rattle.rock_disk.specs.File.{File, Files, HaveSameBytes, IsKept, NoneAway, bytes_of}
use Rattle.db_layout.specs.Layout.{slots_of}
use Rattle.rock_disk.specs.Opened.{IsSmall}
use Rattle.file_commands.specs.Report.{HasSlots, IsFit, IsReport, IsUnfit, ReportEnds, ReportSays, MayReport, NoFault, ReportsOrLacksMemory}
use Rattle.file_commands.proofs.Recorded.{report_given}
use Rattle.slot_finding.specs.Finding.{IsKeptFor, WithSlot}
use Rattle.slot_finding.proofs.Causes.{found_agrees, found_fits, found_known, found_long, found_there, of_one}
use Rattle.rock_status.specs.declared.status.Status.{Status}
use Rattle.rock_commands.specs.Report.{ReportDoes}
use Rattle.rock_commands.specs.World.{Tells, World}
use Rattle.rock_status.specs.declared.status.Status.TheVariants.{Done, Usage, Memory, SourceFault, SinkFault, DeviceFault, BadScript}
use Rattle.rock_status.specs.declared.status.Status.TheVariants.{Missing, Small, BadGeometry, Exists}

-- no station was made
pub none_ended : {c c' : Counts} → NoStation c c' → c'.faults ≡ c.faults → NoneFailed c c'
none_ended none same = record {
  faults = same;
  station = λ count one. let m = one.made in let n = none.made in
      absurd (omega (arith, m, n));
}

one_file : {f g : File} {o : Option File} → o ≡ Some f → o ≡ Some g → f ≡ g
one_file e k = cc

-- a file has one number of slots
one_count : (files : Files) (name : List ℕ) (slot n m : ℕ) → HasSlots files name slot n → HasSlots files name slot m → n ≡ m
one_count files name slot n m h k = h.count ∙ ap (λ f. slots_of (length (bytes_of f)) slot) (one_file h.there k.there) ∙ sym k.count

not_short : (files : Files) (name : List ℕ) (slot n bytes : ℕ) → HasSlots files name slot n → IsSmall files name slot bytes → ⊥
not_short files name slot n bytes h small =
    let same : length (bytes_of h.was) ≡ length (bytes_of small.was) = ap (λ f. length (bytes_of f)) (one_file h.there small.found) in
    omega (arith, h.long, small.size, small.short, same)

fits_not : (Fits : ℕ → Type 0) (files : Files) (name : List ℕ) (slot : ℕ) → IsUnfit Fits files name slot → IsFit Fits files name slot → ⊥
fits_not Fits files name slot unfit fit = unfit.2 (subst Fits (one_count files name slot fit.0 unfit.0 fit.1 unfit.1) fit.2)

-- where nothing refuses the command and no fault came, it is done, unless memory ran out
pub complete : (Fits : ℕ → Type 0) (files : Files) (name : List ℕ) (given : Option ℕ) (s s' : ℕ) (c c' : Counts) (status : Status)
    → ReportEnds Fits given s s' c c' status → ReportSays Fits files name given status
    → MayReport Fits files name given → NoFault s s' c c' → ReportsOrLacksMemory status
complete Fits files name given s s' c c' Done ends says may none = inl refl
complete Fits files name given s s' c c' Usage ends says may none = absurd ends
complete Fits files name given s s' c c' Memory ends says may none = inr refl
complete Fits files name given s s' c c' SourceFault ends says may none = absurd ends
complete Fits files name given s s' c c' SinkFault ends says may none = absurd (none.sink_none ends.1)
complete Fits files name given s s' c c' DeviceFault ends says may none = absurd (none.device_none ends.1)
complete Fits files name given s s' c c' (BadScript line cause) ends says may none = absurd ends
complete Fits files name given s s' c c' Missing ends says may none = absurd (found_there files name given may.fit.0 may.fit.1 says)
complete Fits files name given s s' c c' (Small bytes) ends (inl header) may none =
    absurd (found_long files name given may.fit.0 bytes may.fit.1 header)
complete Fits files name given s s' c c' (Small bytes) ends (inr w) may none = let f = may.fit in
    absurd (not_short files name f.0 f.2.0 bytes f.2.1 (of_one files name given f.0 f.1 w))
complete Fits files name given s s' c c' (BadGeometry field) (inl first) says may none = absurd (first.1 may.sized)
complete Fits files name given s s' c c' (BadGeometry field) (inr (sized, inl (inl six))) says may none =
    absurd (found_fits files name given may.fit.0 may.fit.1 (says.wrong six))
complete Fits files name given s s' c c' (BadGeometry field) (inr (sized, inl (inr (inl five)))) says may none =
    absurd (found_agrees files name given may.fit.0 may.fit.1 (says.differs five.0))
complete Fits files name given s s' c c' (BadGeometry field) (inr (sized, inl (inr (inr seven)))) says may none =
    absurd (found_known files name given may.fit.0 may.fit.1 (says.unknown seven.0))
complete Fits files name given s s' c c' (BadGeometry field) (inr (sized, inr two)) says may none =
    let f = may.fit in absurd (fits_not Fits files name f.0 (of_one files name given f.0 f.1 (says.unfit two.0)) f.2)
complete Fits files name given s s' c c' Exists ends says may none = absurd ends

-- no file is out that was in, where one file was cut anew at most by the slot size that was found
pub home_when_kept : ((slot : ℕ) (name : List ℕ) (before after : Files) → IsKept slot name before after → NoneAway before → NoneAway after)
    → (name : List ℕ) (given : Option ℕ) (before after : Files) → IsKeptFor name given before after → NoneAway before → NoneAway after
home_when_kept home name given before after (inl same) none = subst NoneAway (sym same) none
home_when_kept home name given before after (inr w) none = home w.0 name before after w.2 none

-- and each has its bytes
pub bytes_when_kept : ((slot : ℕ) (name : List ℕ) (before after : Files) → IsKept slot name before after → HaveSameBytes before after)
    → (name : List ℕ) (given : Option ℕ) (before after : Files) → IsKeptFor name given before after → HaveSameBytes before after
bytes_when_kept bytes name given before after (inl same) = subst (λ f. HaveSameBytes before f) (sym same) (λ n. refl)
bytes_when_kept bytes name given before after (inr w) = bytes w.0 name before after w.2

-- What is said of a report gives all that a command says which makes it: when it is done, that the bytes stay, and what a recorded size
-- gives.
module _ (Fits : ℕ → Type 0) (Shows : ℕ → List (List ℕ) → List ℕ → Type 0) (tells : Tells) (name : List ℕ) (given : Option ℕ)
    (before after : World) (status : Status) where
  abbrev Reports : Option ℕ → Type 0
  Reports size = IsReport tells.volume tells.sink Fits Shows before.files after.files name size before.sink_faults after.sink_faults
      before.counts after.counts before.taken after.taken status

  pub report_does : IsReport tells.volume tells.sink Fits Shows before.files after.files name given before.sink_faults after.sink_faults
      before.counts after.counts before.taken after.taken status
      → (IsTrue tells.volume → WithSlot before.files name given (IsUnfit Fits before.files name)
      → NoStation before.counts after.counts × (status ≡ DeviceFault → Rose before.counts.faults after.counts.faults))
      → ((slot : ℕ) (n : List ℕ) (files files_after : Files) → IsKept slot n files files_after → HaveSameBytes files files_after)
      → ReportDoes Fits Shows tells name given before after status
  report_does report early bytes = record {
    ends = report.ends;
    says = report.says;
    refused = report.refused;
    complete = λ t may none. complete Fits before.files name given before.sink_faults after.sink_faults before.counts after.counts status
        report.ends (report.says t) may none;
    prints = report.prints;
    kept = report.kept;
    bytes = λ t. bytes_when_kept bytes name given before.files after.files (report.kept t);
    recorded = λ slot none t found. report_given found Fits tells.volume tells.sink Shows after.files before.sink_faults after.sink_faults
        before.counts after.counts before.taken after.taken status t (subst Reports none report);
    early = early;
  }
