-- A run over a file whose header area records its slots, where no slot size is given, is one for the size that is recorded.
use Rattle.std.proofs.Common.{Bool, List, None, Some, arith, inl, inr, subst, ◌≡◌, ◌⊎◌, ℕ}
use Rattle.std.specs.Prelude.{IsTrue, Option}
use Rattle.rock_disk.specs.File.{Files}
use Rattle.rock_disk.specs.Opened.{IsSmall}
use Rattle.rock_disk.specs.Counts.{Counts}
use Rattle.rock_open.specs.Opening.{IsBeyond}
use Rattle.rock_status.specs.declared.status.Status.{Status}
use Rattle.rock_status.specs.declared.status.Status.TheVariants.{BadGeometry, BadScript, DeviceFault, Done, Exists, Memory, Missing}
use Rattle.rock_status.specs.declared.status.Status.TheVariants.{SinkFault, Small, SourceFault, Usage}
use Rattle.slot_finding.specs.Finding.{FieldSays, FindsSlot, IsTooSmall, IsUnknown}
use Rattle.slot_finding.proofs.Causes.{found_long, of_one, one_slot}
use Rattle.slot_finding.proofs.Recorded.{field_given, given_too, kept_given, none_differs, recorded_size, small_given, unknown_given}
use Rattle.slot_finding.proofs.Recorded.{with_given, without_given}
use Rattle.run_command.specs.Ends.{IsShort, RunEnds}
use Rattle.run_command.specs.Finished.{IsFinishedRun}
use Rattle.run_command.specs.Leaves.{LeavesClosed, LeavesKept, RunLeaves}
use Rattle.run_command.specs.Prints.{RunPrints}
use Rattle.run_command.specs.Says.{FileSays, IsRunRefused, IsUnfit, RunSays}
use Rattle.run_command.specs.Slots.{IsSlotOf}
use Rattle.run_command.specs.Whole.{IsRunFor}

no_number : {n : ℕ} → ◌≡◌ {A = Option ℕ} (Some n) None → ⊥
no_number e = cc

same_number : {n m : ℕ} → Some n ≡ Some m → n ≡ m
same_number e = cc

-- what holds of each text holds of the one that was printed
prints_as : {IsText Told : List ℕ → Type 0} (before after : List ℕ) (status : Status) → ((text : List ℕ) → IsText text → Told text)
    → RunPrints IsText before after status → RunPrints Told before after status
prints_as before after Done tells p = (p.0, tells p.0 p.1, p.2)
prints_as before after Usage tells p = p
prints_as before after Memory tells (inl none) = inl none
prints_as before after Memory tells (inr part) = inr (part.0, tells part.0 part.1, part.2)
prints_as before after SourceFault tells p = p
prints_as before after SinkFault tells p = (p.0, tells p.0 p.1, p.2)
prints_as before after DeviceFault tells p = p
prints_as before after (BadScript line cause) tells p = p
prints_as before after Missing tells p = p
prints_as before after (Small bytes) tells p = p
prints_as before after (BadGeometry field) tells p = p
prints_as before after Exists tells p = p

module _ {files : Files} {name : List ℕ} {slot : ℕ} (found : FindsSlot files name None slot) where
  -- a file that is too short is so by the size that is recorded
  short_given : (bytes : ℕ) → IsTooSmall files name None bytes → IsShort (Some slot) bytes
  short_given bytes (inl header) = absurd (found_long files name None slot bytes found header)
  short_given bytes (inr w) = let is : IsSmall files name slot bytes = of_one files name None slot found w in omega (arith, is.short)

  unfit_given : (anchors field : ℕ) → FieldSays (λ s. IsUnfit files name s anchors) files name None field
      → IsUnknown None field ⊎ ((field ≡ 2) × IsBeyond anchors) → IsUnknown (Some slot) field ⊎ ((field ≡ 2) × IsBeyond anchors)
  unfit_given anchors field says (inl unknown) = inl (unknown_given found field says unknown)
  unfit_given anchors field says (inr beyond) = inr beyond

  ends_given : (source_tells volume_tells : Bool) (text left : List ℕ) (anchors workers s s' k k' : ℕ) (before after : Counts)
      (status : Status) → IsTrue volume_tells
      → RunSays source_tells volume_tells workers text left files name None anchors status
      → RunEnds None anchors workers s s' k k' before after status → RunEnds (Some slot) anchors workers s s' k k' before after status
  ends_given source_tells volume_tells text left anchors workers s s' k k' before after Done told says ends = (recorded_size found, ends.1)
  ends_given source_tells volume_tells text left anchors workers s s' k k' before after Usage told says ends = absurd ends
  ends_given source_tells volume_tells text left anchors workers s s' k k' before after Memory told says ends = tt
  ends_given source_tells volume_tells text left anchors workers s s' k k' before after SourceFault told says ends = ends
  ends_given source_tells volume_tells text left anchors workers s s' k k' before after SinkFault told says ends =
      (recorded_size found, ends.1, ends.2)
  ends_given source_tells volume_tells text left anchors workers s s' k k' before after DeviceFault told says ends =
      (recorded_size found, ends.1, ends.2)
  ends_given source_tells volume_tells text left anchors workers s s' k k' before after (BadScript line cause) told says ends = ends
  ends_given source_tells volume_tells text left anchors workers s s' k k' before after Missing told says ends =
      (recorded_size found, ends.1, ends.2)
  ends_given source_tells volume_tells text left anchors workers s s' k k' before after (Small bytes) told says ends =
      (recorded_size found, ends.1, short_given bytes (says.1 told), ends.3)
  ends_given source_tells volume_tells text left anchors workers s s' k k' before after (BadGeometry field) told says (inl first) =
      absurd (first.1 tt)
  ends_given source_tells volume_tells text left anchors workers s s' k k' before after (BadGeometry field) told says (inr (inl third)) =
      inr (inl (third.0, recorded_size found, third.2, third.3))
  ends_given source_tells volume_tells text left anchors workers s s' k k' before after (BadGeometry field) told says (inr (inr other)) =
      inr (inr (recorded_size found, other.1, (unfit_given anchors field (says.1 told) other.2.0, other.2.1)))
  ends_given source_tells volume_tells text left anchors workers s s' k k' before after Exists told says ends = absurd ends

  file_given : (anchors : ℕ) (status : Status) → FileSays files name None anchors status → FileSays files name (Some slot) anchors status
  file_given anchors Done says = with_given found says
  file_given anchors Usage says = tt
  file_given anchors Memory says = tt
  file_given anchors SourceFault says = tt
  file_given anchors SinkFault says = with_given found says
  file_given anchors DeviceFault says = tt
  file_given anchors (BadScript line cause) says = tt
  file_given anchors Missing says = says
  file_given anchors (Small bytes) says = small_given found bytes says
  file_given anchors (BadGeometry field) says = field_given found field says
  file_given anchors Exists says = tt

  says_given : (source_tells volume_tells : Bool) (workers : ℕ) (text left : List ℕ) (anchors : ℕ) (status : Status)
      → RunSays source_tells volume_tells workers text left files name None anchors status
      → RunSays source_tells volume_tells workers text left files name (Some slot) anchors status
  says_given source_tells volume_tells workers text left anchors Done says = (says.0, λ told. file_given anchors Done (says.1 told))
  says_given source_tells volume_tells workers text left anchors Usage says = tt
  says_given source_tells volume_tells workers text left anchors Memory says = tt
  says_given source_tells volume_tells workers text left anchors SourceFault says = tt
  says_given source_tells volume_tells workers text left anchors SinkFault says =
      (says.0, λ told. file_given anchors SinkFault (says.1 told))
  says_given source_tells volume_tells workers text left anchors DeviceFault says = (says.0, λ told. tt)
  says_given source_tells volume_tells workers text left anchors (BadScript line cause) says = says
  says_given source_tells volume_tells workers text left anchors Missing says = says
  says_given source_tells volume_tells workers text left anchors (Small bytes) says =
      (says.0, λ told. file_given anchors (Small bytes) (says.1 told))
  says_given source_tells volume_tells workers text left anchors (BadGeometry field) says =
      (says.0, λ told. file_given anchors (BadGeometry field) (says.1 told))
  says_given source_tells volume_tells workers text left anchors Exists says = (says.0, λ told. tt)

  refused_given : (source_tells volume_tells : Bool) (text : List ℕ) (anchors workers : ℕ) (before after : Counts) (status : Status)
      → IsRunRefused source_tells volume_tells text files name None anchors workers before after status
      → IsRunRefused source_tells volume_tells text files name (Some slot) anchors workers before after status
  refused_given source_tells volume_tells text anchor_count worker_count before after status refused = record {
    script = refused.script;
    slot = λ tells not. absurd (not (recorded_size found));
    workers = λ tells sized not. refused.workers tells tt not;
    missing = λ tells told sized passes is. refused.missing tells told tt passes is;
    small = λ bytes tells told sized passes is. refused.small bytes tells told tt passes is;
    wrong = λ tells told sized passes is. refused.wrong tells told tt passes is;
    differs = λ tells told sized passes is. absurd (none_differs found is);
    unknown = λ tells told passes is. absurd (no_number is.none);
    short = λ bytes tells told sized passes w. refused.short bytes tells told tt passes (without_given found w);
    anchors = λ tells told sized passes w. refused.anchors tells told tt passes (without_given found w);
  }

  same_slot : (other : ℕ) → FindsSlot files name None other → other ≡ slot
  same_slot other is = one_slot files name None other slot is found

  -- the slot size of the run is the one that is recorded
  slot_given : (volume_tells : Bool) (other : ℕ) → IsTrue volume_tells → IsSlotOf volume_tells files name None other
      → IsSlotOf volume_tells files name (Some slot) other
  slot_given volume_tells other told is =
      let both = given_too found other (is.found told) in
      record { sized = is.sized; same = λ n e. subst (λ m. other ≡ m) (same_number e) (same_slot other (is.found told)); found = λ t. both }

  run_given_too : (source_tells volume_tells : Bool) (script script_after : List ℕ) (files_after : Files) (anchors workers : ℕ)
      (before after : Counts) → IsTrue volume_tells
      → IsFinishedRun source_tells volume_tells script script_after files files_after name None anchors workers before after
      → IsFinishedRun source_tells volume_tells script script_after files files_after name (Some slot) anchors workers before after
  run_given_too source_tells volume_tells script script_after files_after anchors workers before after told run = record {
    lines = run.lines;
    read = run.read;
    slot = run.slot;
    sized = slot_given volume_tells run.slot told run.sized;
    answers = run.answers;
    served = run.served;
  }

  closed_given : (source_tells volume_tells : Bool) (script script_after : List ℕ) (files_after : Files) (anchors workers : ℕ)
      → IsTrue volume_tells
      → LeavesClosed source_tells volume_tells script script_after files files_after name None anchors workers
      → LeavesClosed source_tells volume_tells script script_after files files_after name (Some slot) anchors workers
  closed_given source_tells volume_tells script script_after files_after anchors workers told c = record {
    lines = c.lines;
    read = c.read;
    slot = c.slot;
    sized = slot_given volume_tells c.slot told c.sized;
    file = c.file;
  }

  left_given : (volume_tells : Bool) (files_after : Files) → LeavesKept volume_tells files files_after name None
      → LeavesKept volume_tells files files_after name (Some slot)
  left_given volume_tells files_after kept told = kept_given found files_after (kept told)

  leaves_given : (source_tells volume_tells : Bool) (script script_after : List ℕ) (files_after : Files) (anchors workers : ℕ)
      (before after : Counts) (status : Status) → IsTrue volume_tells
      → RunLeaves source_tells volume_tells script script_after files files_after name None anchors workers before after status
      → RunLeaves source_tells volume_tells script script_after files files_after name (Some slot) anchors workers before after status
  leaves_given source_tells volume_tells script script_after files_after anchors workers before after Done told l =
      run_given_too source_tells volume_tells script script_after files_after anchors workers before after told l
  leaves_given source_tells volume_tells script script_after files_after anchors workers before after Usage told l = l
  leaves_given source_tells volume_tells script script_after files_after anchors workers before after Memory told (inl kept) =
      inl (left_given volume_tells files_after kept)
  leaves_given source_tells volume_tells script script_after files_after anchors workers before after Memory told (inr c) =
      inr (closed_given source_tells volume_tells script script_after files_after anchors workers told c)
  leaves_given source_tells volume_tells script script_after files_after anchors workers before after SourceFault told l = l
  leaves_given source_tells volume_tells script script_after files_after anchors workers before after SinkFault told l =
      run_given_too source_tells volume_tells script script_after files_after anchors workers before after told l
  leaves_given source_tells volume_tells script script_after files_after anchors workers before after DeviceFault told (inl kept) =
      inl (left_given volume_tells files_after kept)
  leaves_given source_tells volume_tells script script_after files_after anchors workers before after DeviceFault told (inr c) =
      inr (closed_given source_tells volume_tells script script_after files_after anchors workers told c)
  leaves_given source_tells volume_tells script script_after files_after anchors workers before after (BadScript line cause) told l = l
  leaves_given source_tells volume_tells script script_after files_after anchors workers before after Missing told l =
      left_given volume_tells files_after l
  leaves_given source_tells volume_tells script script_after files_after anchors workers before after (Small bytes) told l =
      left_given volume_tells files_after l
  leaves_given source_tells volume_tells script script_after files_after anchors workers before after (BadGeometry field) told l =
      left_given volume_tells files_after l
  leaves_given source_tells volume_tells script script_after files_after anchors workers before after Exists told l = l

  pub run_given : (source_tells volume_tells sink_tells : Bool) (script script_after : List ℕ) (files_after : Files)
      (anchors workers s s' k k' : ℕ) (before after : Counts) (taken taken' : List ℕ) (status : Status) → IsTrue volume_tells
      → IsRunFor source_tells volume_tells sink_tells script script_after files files_after name None anchors workers s s' k k' before after
      taken taken' status
      → IsRunFor source_tells volume_tells sink_tells script script_after files files_after name
      (Some slot) anchors workers s s' k k' before after taken taken' status
  unfolding run_given_too
  run_given source_tells volume_tells sink_tells script script_after files_after anchors workers s s' k k' before after taken taken' status
      told run = record {
        ends = ends_given source_tells volume_tells script script_after anchors workers s s' k k' before after status told run.says
            run.ends;
        says = says_given source_tells volume_tells workers script script_after anchors status run.says;
        refused = refused_given source_tells volume_tells script anchors workers before after status run.refused;
        prints = λ t. prints_as taken taken' status (λ text is. record {
          run =
              run_given_too source_tells volume_tells script script_after files_after anchors workers before after told is.run;
          is = is.is;
        })
            (run.prints t);
        leaves = leaves_given source_tells volume_tells script script_after files_after anchors workers before after status told run.leaves;
      }
