-- A report of a file whose header area records its slots, where no slot size is given, is one for the size that is recorded.
use Rattle.std.proofs.Common.{◌≡◌, ◌⊎◌, inl, inr, ℕ, List, Some, None}
use Rattle.std.specs.Prelude.{Bool, IsTrue, Option}
use Rattle.rock_disk.specs.Counts.{Counts}
use Rattle.rock_disk.specs.File.{Files}
use Rattle.slot_finding.specs.Finding.{FieldSays, FindsSlot, IsUnknown}
use Rattle.slot_finding.proofs.Recorded.{field_given, kept_given, none_differs, recorded_size, small_given, unknown_given, with_given, without_given}
use Rattle.file_commands.specs.Report.{IsRefused, IsReport, IsUnfit, ReportEnds, ReportPrints, ReportSays}
use Rattle.rock_status.specs.declared.status.Status.{Status}
use Rattle.rock_status.specs.declared.status.Status.TheVariants.{Done, Usage, Memory, SourceFault, SinkFault, DeviceFault, BadScript, Missing, Small, BadGeometry, Exists}

no_number : {n : ℕ} → ◌≡◌ {A = Option ℕ} (Some n) None → ⊥
no_number e = cc

-- what holds of each text holds of the one that was printed
prints_as : {IsText Told : List ℕ → Type 0} (before after : List ℕ) (status : Status) → ((text : List ℕ) → IsText text → Told text) → ReportPrints IsText before after status → ReportPrints Told before after status
prints_as before after Done tells p = (p.0, tells p.0 p.1, p.2)
prints_as before after Usage tells p = p
prints_as before after Memory tells p = p
prints_as before after SourceFault tells p = p
prints_as before after SinkFault tells p = (p.0, tells p.0 p.1, p.2)
prints_as before after DeviceFault tells p = p
prints_as before after (BadScript line cause) tells p = p
prints_as before after Missing tells p = p
prints_as before after (Small bytes) tells p = p
prints_as before after (BadGeometry field) tells p = p
prints_as before after Exists tells p = p

module _ {files : Files} {name : List ℕ} {slot : ℕ} (found : FindsSlot files name None slot) (Fits : ℕ → Type 0) where
  unfit_given : (field : ℕ) → FieldSays (IsUnfit Fits files name) files name None field → IsUnknown None field ⊎ ((field ≡ 2) × ((slots : ℕ) × ¬ Fits slots)) → IsUnknown (Some slot) field ⊎ ((field ≡ 2) × ((slots : ℕ) × ¬ Fits slots))
  unfit_given field says (inl unknown) = inl (unknown_given found field says unknown)
  unfit_given field says (inr unfit) = inr unfit

  ends_given : (s s' : ℕ) (c c' : Counts) (status : Status) → ReportSays Fits files name None status → ReportEnds Fits None s s' c c' status → ReportEnds Fits (Some slot) s s' c c' status
  ends_given s s' c c' Done says ends = recorded_size found
  ends_given s s' c c' Usage says ends = absurd ends
  ends_given s s' c c' Memory says ends = recorded_size found
  ends_given s s' c c' SourceFault says ends = absurd ends
  ends_given s s' c c' SinkFault says ends = (recorded_size found, ends.1)
  ends_given s s' c c' DeviceFault says ends = (recorded_size found, ends.1)
  ends_given s s' c c' (BadScript line cause) says ends = absurd ends
  ends_given s s' c c' Missing says ends = recorded_size found
  ends_given s s' c c' (Small bytes) says ends = recorded_size found
  ends_given s s' c c' (BadGeometry field) says (inl first) = absurd (first.1 tt)
  ends_given s s' c c' (BadGeometry field) says (inr other) = inr (recorded_size found, unfit_given field says other.1)
  ends_given s s' c c' Exists says ends = absurd ends

  says_given : (status : Status) → ReportSays Fits files name None status → ReportSays Fits files name (Some slot) status
  says_given Done says = with_given found says
  says_given Usage says = tt
  says_given Memory says = tt
  says_given SourceFault says = tt
  says_given SinkFault says = with_given found says
  says_given DeviceFault says = tt
  says_given (BadScript line cause) says = tt
  says_given Missing says = says
  says_given (Small bytes) says = small_given found bytes says
  says_given (BadGeometry field) says = field_given found field says
  says_given Exists says = tt

  refused_given : (tells : Bool) (status : Status) → IsRefused tells Fits files name None status → IsRefused tells Fits files name (Some slot) status
  refused_given tells status refused = record {
    geometry = λ not. absurd (not (recorded_size found));
    missing = λ t sized none. refused.missing t tt none;
    small = λ bytes t sized is. refused.small bytes t tt is;
    wrong = λ t sized m. refused.wrong t tt m;
    differs = λ t sized m. absurd (none_differs found m);
    unknown = λ t m. absurd (no_number m.none);
    short = λ bytes t sized w. refused.short bytes t tt (without_given found w);
    unfit = λ t sized w. refused.unfit t tt (without_given found w);
  }

  pub report_given : (tells sink_tells : Bool) (Shows : ℕ → List (List ℕ) → List ℕ → Type 0) (after : Files) (s s' : ℕ) (c c' : Counts) (taken taken' : List ℕ) (status : Status) → IsTrue tells
      → IsReport tells sink_tells Fits Shows files after name None s s' c c' taken taken' status → IsReport tells sink_tells Fits Shows files after name (Some slot) s s' c c' taken taken' status
  report_given tells sink_tells Shows after s s' c c' taken taken' status t report = record {
    ends = ends_given s s' c c' status (report.says t) report.ends;
    says = λ told. says_given status (report.says told);
    refused = refused_given tells status report.refused;
    prints = λ k. prints_as taken taken' status (λ text is told. with_given found (is told)) (report.prints k);
    kept = λ told. kept_given found after (report.kept told);
  }
