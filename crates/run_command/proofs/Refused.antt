-- How the command ends where the run was refused.
use Rattle.std.proofs.Common.{Bool, List, arith, inl, inr, refl, subst, sym, ℕ}
use Rattle.std.specs.Prelude.{IsTrue, Option}
use Rattle.db_layout.specs.Layout.{IsSlotSize}
use Rattle.rock_disk.specs.Cell.{CellState}
use Rattle.rock_disk.specs.File.{Files}
use Rattle.rock_disk.specs.Counts.{Counts}
use Rattle.rock_open.specs.Opening.{IsPasses}
use Rattle.rock_run.specs.Device.{RunFailed}
use Rattle.rock_run.specs.Runs.{HasClosed}
use Rattle.run_rules.specs.Left.{IsGivenBack}
use Rattle.rock_status.specs.declared.status.Status.{Status}
use Rattle.rock_status.specs.declared.status.Status.TheVariants.{BadGeometry, BadScript, DeviceFault, Done, Exists, Memory, Missing}
use Rattle.rock_status.specs.declared.status.Status.TheVariants.{SinkFault, Small, SourceFault, Usage}
use Rattle.script_text.specs.Script.{GivesScript, IsBadScript}
use Rattle.script_text.specs.declared.line.Line.{Line}
use Rattle.slot_finding.specs.Faults.{OrFailed}
use Rattle.slot_finding.specs.Finding.{FieldSays, IsGiven}
use Rattle.slot_finding.proofs.Causes.{found_agrees, found_fits, found_known, found_long, found_there, of_one}
use Rattle.run_command.specs.Ends.{FoundEnds, NoFault, RunEnds, RunsOrLacksMemory}
use Rattle.run_command.specs.Found.{FoundLeaves, HasClosedFor}
use Rattle.run_command.specs.Leaves.{LeavesKept, RunLeaves}
use Rattle.run_command.specs.Prints.{RunPrints}
use Rattle.run_command.specs.Says.{FileSays, IsFileRefused, IsRunRefused, MayRun, OrCutShort, RunSays, WasRead}
use Rattle.run_command.proofs.Filed.{fits_not, not_short}

pub refused_ends : (given : Option ℕ) (anchors workers s s' k k' : ℕ) (before after : Counts) (status : Status) → IsGiven given
    → IsPasses workers → FoundEnds given anchors before after status → RunEnds given anchors workers s s' k k' before after status
refused_ends given anchors workers s s' k k' before after Done sized passes ends = absurd ends
refused_ends given anchors workers s s' k k' before after Usage sized passes ends = absurd ends
refused_ends given anchors workers s s' k k' before after Memory sized passes ends = tt
refused_ends given anchors workers s s' k k' before after SourceFault sized passes ends = absurd ends
refused_ends given anchors workers s s' k k' before after SinkFault sized passes ends = absurd ends
refused_ends given anchors workers s s' k k' before after DeviceFault sized passes ends = (sized, passes, ends)
refused_ends given anchors workers s s' k k' before after (BadScript line cause) sized passes ends = absurd ends
refused_ends given anchors workers s s' k k' before after Missing sized passes ends = (sized, passes, ends)
refused_ends given anchors workers s s' k k' before after (Small bytes) sized passes ends = (sized, passes, ends.0, ends.1)
refused_ends given anchors workers s s' k k' before after (BadGeometry field) sized passes ends = inr (inr (sized, passes, ends))
refused_ends given anchors workers s s' k k' before after Exists sized passes ends = absurd ends

pub refused_says : (source_tells volume_tells : Bool) (workers : ℕ) (text left : List ℕ) (files : Files) (name : List ℕ) (given : Option ℕ)
    (anchors : ℕ) (before after : Counts) (status : Status) → WasRead source_tells workers text left
    → FoundEnds given anchors before after status → (IsTrue volume_tells → FileSays files name given anchors status)
    → RunSays source_tells volume_tells workers text left files name given anchors status
refused_says source_tells volume_tells workers text left files name given anchors before after Done read ends says = absurd ends
refused_says source_tells volume_tells workers text left files name given anchors before after Usage read ends says = absurd ends
refused_says source_tells volume_tells workers text left files name given anchors before after Memory read ends says = tt
refused_says source_tells volume_tells workers text left files name given anchors before after SourceFault read ends says = absurd ends
refused_says source_tells volume_tells workers text left files name given anchors before after SinkFault read ends says = absurd ends
refused_says source_tells volume_tells workers text left files name given anchors before after DeviceFault read ends says = (read, says)
refused_says source_tells volume_tells workers text left files name given anchors before after (BadScript line cause) read ends says =
    absurd ends
refused_says source_tells volume_tells workers text left files name given anchors before after Missing read ends says = (read, says)
refused_says source_tells volume_tells workers text left files name given anchors before after (Small bytes) read ends says = (read, says)
refused_says source_tells volume_tells workers text left files name given anchors before after (BadGeometry field) read ends says =
    (read, says)
refused_says source_tells volume_tells workers text left files name given anchors before after Exists read ends says = absurd ends

cut_short : (due status : Status) → OrFailed due status → OrCutShort due status
cut_short due status (inl is) = inl (inl is)
cut_short due status (inr (inl failed)) = inr failed
cut_short due status (inr (inr lacked)) = inl (inr (inr lacked))

pub refused_refused : (source_tells volume_tells : Bool) (text : List ℕ) (files : Files) (name : List ℕ) (given : Option ℕ)
    (anchors workers : ℕ) (before after : Counts) (status : Status)
    → ((line cause : ℕ) → IsTrue source_tells → IsBadScript workers text line cause → ⊥) → IsGiven given → IsPasses workers
    → IsFileRefused volume_tells files name given anchors before after status
    → IsRunRefused source_tells volume_tells text files name given anchors workers before after status
refused_refused source_tells volume_tells text files name given anchor_count worker_count before after status good may number refused =
    record {
      script = λ line cause told is. absurd (good line cause told is);
      slot = λ tells not. absurd (not may);
      workers = λ tells sized not. absurd (not number);
      missing = λ tells told sized passes is. inl (refused.missing told is);
      small = λ bytes tells told sized passes is. inl (refused.small bytes told is);
      wrong = λ tells told sized passes is. let r = refused.wrong told is in (cut_short (BadGeometry 6) status r.0, r.1);
      differs = λ tells told sized passes is. let r = refused.differs told is in (cut_short (BadGeometry 5) status r.0, r.1);
      unknown = λ tells told passes is. let r = refused.unknown told is in (cut_short (BadGeometry 7) status r.0, r.1);
      short = λ bytes tells told sized passes w. let r = refused.short bytes told w in (cut_short (Small bytes) status r.0, r.1);
      anchors = λ tells told sized passes w. let r = refused.anchors told w in (cut_short (BadGeometry 2) status r.0, r.1);
    }

-- a number refuses it
pub slot_refused : (source_tells volume_tells : Bool) (text : List ℕ) (files : Files) (name : List ℕ) (given : Option ℕ)
    (anchors workers : ℕ) (before after : Counts)
    → ((line cause : ℕ) → IsTrue source_tells → IsBadScript workers text line cause → ⊥) → ¬ IsGiven given
    → IsRunRefused source_tells volume_tells text files name given anchors workers before after (BadGeometry 1)
slot_refused source_tells volume_tells text files name given anchor_count worker_count before after good bad = record {
  script = λ line cause told is. absurd (good line cause told is);
  slot = λ tells not. inl refl;
  workers = λ tells sized not. absurd (bad sized);
  missing = λ tells told sized passes is. absurd (bad sized);
  small = λ bytes tells told sized passes is. absurd (bad sized);
  wrong = λ tells told sized passes is. absurd (bad sized);
  differs = λ tells told sized passes is. absurd (bad sized);
  unknown = λ tells told passes is. absurd (bad (subst IsGiven (sym is.none) tt));
  short = λ bytes tells told sized passes w. absurd (bad sized);
  anchors = λ tells told sized passes w. absurd (bad sized);
}

pub workers_refused : (source_tells volume_tells : Bool) (text : List ℕ) (files : Files) (name : List ℕ) (given : Option ℕ)
    (anchors workers : ℕ) (before after : Counts)
    → ((line cause : ℕ) → IsTrue source_tells → IsBadScript workers text line cause → ⊥) → IsGiven given → ¬ IsPasses workers
    → IsRunRefused source_tells volume_tells text files name given anchors workers before after (BadGeometry 3)
workers_refused source_tells volume_tells text files name given anchor_count worker_count before after good may bad = record {
  script = λ line cause told is. absurd (good line cause told is);
  slot = λ tells not. absurd (not may);
  workers = λ tells sized not. inl refl;
  missing = λ tells told sized passes is. absurd (bad passes);
  small = λ bytes tells told sized passes is. absurd (bad passes);
  wrong = λ tells told sized passes is. absurd (bad passes);
  differs = λ tells told sized passes is. absurd (bad passes);
  unknown = λ tells told passes is. absurd (bad passes);
  short = λ bytes tells told sized passes w. absurd (bad passes);
  anchors = λ tells told sized passes w. absurd (bad passes);
}

-- where the number of workers is refused, nothing is said of the file
pub third_says : {Unfit : ℕ → Type 0} {files : Files} {name : List ℕ} {given : Option ℕ} → FieldSays Unfit files name given 3
third_says = record {
  unfit = λ e. absurd (omega (arith, e));
  wrong = λ e. absurd (omega (arith, e));
  differs =
      λ e. absurd (omega (arith, e));
  unknown = λ e. absurd (omega (arith, e));
}

not_failed : (s s' k k' : ℕ) (before after : Counts) → NoFault s s' k k' before after → RunFailed before after → ⊥
not_failed s s' k k' before after none (inl rose) = none.volume_none rose
not_failed s s' k k' before after none (inr ended) = let count = (none.stations_none ended.0 ended.1 ended.2).0 in
    omega (arith, count, ended.3)

-- nothing refuses a run that may be
pub refused_complete : (text : List ℕ) (files : Files) (name : List ℕ) (given : Option ℕ) (anchors workers s s' k k' : ℕ)
    (before after : Counts) (status : Status) → MayRun text files name given anchors workers → NoFault s s' k k' before after
    → FoundEnds given anchors before after status → FileSays files name given anchors status → RunsOrLacksMemory status
refused_complete text files name given anchors workers s s' k k' before after Done may none ends says = inl refl
refused_complete text files name given anchors workers s s' k k' before after Usage may none ends says = absurd ends
refused_complete text files name given anchors workers s s' k k' before after Memory may none ends says = inr refl
refused_complete text files name given anchors workers s s' k k' before after SourceFault may none ends says = absurd ends
refused_complete text files name given anchors workers s s' k k' before after SinkFault may none ends says = absurd ends
refused_complete text files name given anchors workers s s' k k' before after DeviceFault may none ends says =
    absurd (not_failed s s' k k' before after none ends)
refused_complete text files name given anchors workers s s' k k' before after (BadScript line cause) may none ends says = absurd ends
refused_complete text files name given anchors workers s s' k k' before after Missing may none ends says =
    absurd (found_there files name given may.fit.0 may.fit.1 says)
refused_complete text files name given anchors workers s s' k k' before after (Small bytes) may none ends (inl header) =
    absurd (found_long files name given may.fit.0 bytes may.fit.1 header)
refused_complete text files name given anchors workers s s' k k' before after (Small bytes) may none ends (inr w) =
    let f = may.fit in absurd (not_short files name f.0 f.2.0 bytes f.2.1 (of_one files name given f.0 f.1 w))
refused_complete text files name given anchors workers s s' k k' before after (BadGeometry field) may none (inl (inl six), station) says =
    absurd (found_fits files name given may.fit.0 may.fit.1 (says.wrong six))
refused_complete text files name given anchors workers s s' k k' before after (BadGeometry field) may none
    (inl (inr (inl five)), station) says = absurd (found_agrees files name given may.fit.0 may.fit.1 (says.differs five.0))
refused_complete text files name given anchors workers s s' k k' before after (BadGeometry field) may none
    (inl (inr (inr seven)), station) says = absurd (found_known files name given may.fit.0 may.fit.1 (says.unknown seven.0))
refused_complete text files name given anchors workers s s' k k' before after (BadGeometry field) may none (inr two, station) says =
    let f = may.fit in absurd (fits_not files name f.0 anchors (of_one files name given f.0 f.1 (says.unfit two.0)) f.2)
refused_complete text files name given anchors workers s s' k k' before after Exists may none ends says = absurd ends

-- and nothing is printed
pub refused_prints : (given : Option ℕ) (anchors : ℕ) (before after : Counts) (IsText : List ℕ → Type 0) (taken : List ℕ) (status : Status)
    → FoundEnds given anchors before after status → RunPrints IsText taken taken status
refused_prints given anchors before after IsText taken Done ends = absurd ends
refused_prints given anchors before after IsText taken Usage ends = absurd ends
refused_prints given anchors before after IsText taken Memory ends = inl refl
refused_prints given anchors before after IsText taken SourceFault ends = absurd ends
refused_prints given anchors before after IsText taken SinkFault ends = absurd ends
refused_prints given anchors before after IsText taken DeviceFault ends = refl
refused_prints given anchors before after IsText taken (BadScript line cause) ends = absurd ends
refused_prints given anchors before after IsText taken Missing ends = refl
refused_prints given anchors before after IsText taken (Small bytes) ends = refl
refused_prints given anchors before after IsText taken (BadGeometry field) ends = refl
refused_prints given anchors before after IsText taken Exists ends = absurd ends

module _ {C : Type 0} (source_tells volume_tells tells : Bool) (state : C → CellState) (script script_after : List ℕ)
    (files files_after : Files) (name : List ℕ) (given : Option ℕ) (anchors workers : ℕ) (lines : List Line)
    (read : GivesScript source_tells workers script script_after lines)
    (back : (slot : ℕ) → IsSlotSize slot → IsTrue volume_tells → HasClosed volume_tells tells state files files_after name slot anchors
    workers lines → IsGivenBack files files_after name slot lines) (before after : Counts) where
  abbrev Kept : Type 0
  Kept = LeavesKept volume_tells files files_after name given

  abbrev Closed : Type 0
  Closed = HasClosedFor volume_tells tells state files files_after name given anchors workers lines

  abbrev Leaves : Status → Type 0
  Leaves = RunLeaves source_tells volume_tells script script_after files files_after name given anchors workers before after

  either : FoundLeaves Kept Closed Memory → Leaves Memory
  either (inl kept) = inl kept
  either (inr c) = inr (record {
    lines = lines;
    read = read;
    slot = c.slot;
    sized = c.sized;
    file =
        λ told. back c.slot c.sized.sized told c.closed;
  })

  pub refused_leaves : (status : Status) → FoundEnds given anchors before after status → FoundLeaves Kept Closed status → Leaves status
  refused_leaves Done ends h = absurd ends
  refused_leaves Usage ends h = absurd ends
  refused_leaves Memory ends h = either h
  refused_leaves SourceFault ends h = absurd ends
  refused_leaves SinkFault ends h = absurd ends
  refused_leaves DeviceFault ends h = either h
  refused_leaves (BadScript line cause) ends h = absurd ends
  refused_leaves Missing ends h = h
  refused_leaves (Small bytes) ends h = h
  refused_leaves (BadGeometry field) ends h = h
  refused_leaves Exists ends h = absurd ends
