-- How the command ends where the answers were to be printed.
use Rattle.std.proofs.Common.{Bool, List, ap, arith, inl, inr, length, map, refl, sym, ◌∙◌, ◌≡◌, ℕ}
use Rattle.std.proofs.lemmas.List.{length-map}
use Rattle.std.specs.Prelude.{IsTrue, Option}
use Rattle.rock_disk.specs.Cell.{CellState}
use Rattle.rock_disk.specs.File.{Files}
use Rattle.rock_io.specs.Faults.{Rose}
use Rattle.rock_disk.specs.Counts.{Counts}
use Rattle.rock_open.specs.Opening.{IsPasses}
use Rattle.rock_run.specs.Runs.{HasRun}
use Rattle.rock_status.specs.declared.status.Status.{Status}
use Rattle.rock_status.specs.declared.status.Status.TheVariants.{BadGeometry, BadScript, DeviceFault, Done, Exists, Memory, Missing}
use Rattle.rock_status.specs.declared.status.Status.TheVariants.{SinkFault, Small, SourceFault, Usage}
use Rattle.script_text.specs.Script.{IsBadScript}
use Rattle.script_text.specs.declared.answer.Answer.{Answer}
use Rattle.script_text.specs.declared.line.Line.{Line}
use Rattle.slot_finding.specs.Finding.{IsGiven, WithSlot}
use Rattle.slot_finding.proofs.Causes.{found_agrees, found_fits, found_known, found_long, found_there, of_one}
use Rattle.run_command.specs.Ends.{RunEnds, RunsOrLacksMemory}
use Rattle.run_command.specs.Finished.{IsFinishedRun}
use Rattle.run_command.specs.Leaves.{RunLeaves}
use Rattle.run_command.specs.Prints.{PrintEnds, RunPrints}
use Rattle.run_command.specs.Says.{Fits, IsRunRefused, RunSays, WasRead}
use Rattle.run_command.proofs.Filed.{fits_not, not_short}

-- printing ends in one of three ways
by_end : (P : Status → Type 0) (k k' : ℕ) (status : Status) → PrintEnds k k' status → P Done → P Memory → (Rose k k' → P SinkFault)
    → P status
by_end P k k' Done ends done memory failed = done
by_end P k k' Usage ends done memory failed = absurd ends
by_end P k k' Memory ends done memory failed = memory
by_end P k k' SourceFault ends done memory failed = absurd ends
by_end P k k' SinkFault ends done memory failed = failed ends
by_end P k k' DeviceFault ends done memory failed = absurd ends
by_end P k k' (BadScript line cause) ends done memory failed = absurd ends
by_end P k k' Missing ends done memory failed = absurd ends
by_end P k k' (Small bytes) ends done memory failed = absurd ends
by_end P k k' (BadGeometry field) ends done memory failed = absurd ends
by_end P k k' Exists ends done memory failed = absurd ends

-- and so the command ends
pub printed_ends : (given : Option ℕ) (anchors workers s s' k k' : ℕ) (before after : Counts) (status : Status) → IsGiven given
    → IsPasses workers → PrintEnds k k' status → RunEnds given anchors workers s s' k k' before after status
printed_ends given anchors workers s s' k k' before after status sized passes ends =
    by_end (RunEnds given anchors workers s s' k k' before after) k k' status ends (sized, passes) tt (λ rose. (sized, passes, rose))

pub printed_says : (source_tells volume_tells : Bool) (workers : ℕ) (text left : List ℕ) (files : Files) (name : List ℕ) (given : Option ℕ)
    (anchors k k' : ℕ) (status : Status) → WasRead source_tells workers text left
    → (IsTrue volume_tells → WithSlot files name given (λ slot. Fits files name slot anchors)) → PrintEnds k k' status
    → RunSays source_tells volume_tells workers text left files name given anchors status
printed_says source_tells volume_tells workers text left files name given anchors k k' status read fits ends =
    by_end (RunSays source_tells volume_tells workers text left files name given anchors) k k' status ends (read, fits) tt
    (λ rose. (read, fits))

-- nothing refuses a run that was not refused
pub printed_refused : (source_tells volume_tells : Bool) (text : List ℕ) (files : Files) (name : List ℕ) (given : Option ℕ)
    (anchors workers : ℕ) (before after : Counts) (status : Status)
    → ((line cause : ℕ) → IsTrue source_tells → IsBadScript workers text line cause → ⊥) → IsGiven given → IsPasses workers
    → (IsTrue volume_tells → WithSlot files name given (λ slot. Fits files name slot anchors))
    → IsRunRefused source_tells volume_tells text files name given anchors workers before after status
printed_refused source_tells volume_tells text files name given anchor_count worker_count before after status good may number fits =
    record {
      script = λ line cause told is. absurd (good line cause told is);
      slot = λ tells not. absurd (not may);
      workers = λ tells sized not. absurd (not number);
      missing = λ tells told sized passes is. absurd (found_there files name given (fits told).0 (fits told).1 is);
      small = λ bytes tells told sized passes is. absurd (found_long files name given (fits told).0 bytes (fits told).1 is);
      wrong = λ tells told sized passes is. absurd (found_fits files name given (fits told).0 (fits told).1 is);
      differs = λ tells told sized passes is. absurd (found_agrees files name given (fits told).0 (fits told).1 is);
      unknown = λ tells told passes is. absurd (found_known files name given (fits told).0 (fits told).1 is);
      short = λ bytes tells told sized passes w. let f = fits told in
          absurd (not_short files name f.0 f.2.0 bytes f.2.1 (of_one files name given f.0 f.1 w));
      anchors = λ tells told sized passes w. let f = fits told in absurd
          (fits_not files name f.0 anchor_count (of_one files name given f.0 f.1 w) f.2);
    }

pub printed_complete : (k k' : ℕ) (status : Status) → ¬ Rose k k' → PrintEnds k k' status → RunsOrLacksMemory status
printed_complete k k' status none ends = by_end RunsOrLacksMemory k k' status ends (inl refl) (inr refl) (λ rose. absurd (none rose))

-- what is printed of the answers is the text of a run
pub printed_prints : (IsText Told : List ℕ → Type 0) (k k' : ℕ) (taken taken_after : List ℕ) (status : Status)
    → ((text : List ℕ) → IsText text → Told text) → PrintEnds k k' status → RunPrints IsText taken taken_after status
    → RunPrints Told taken taken_after status
printed_prints IsText Told k k' taken taken_after status tells ends =
    by_end (λ other. RunPrints IsText taken taken_after other → RunPrints Told taken taken_after other) k k' status ends
    (λ p. (p.0, tells p.0 p.1, p.2))
    (λ p. elim p as (λ _. RunPrints Told taken taken_after Memory)
    [ inl none ↦ inl none | inr part ↦ inr (part.0, tells part.0 part.1, part.2) ])
    (λ rose p. (p.0, tells p.0 p.1, p.2))

-- the file is back, with what stood closed
pub printed_leaves : (source_tells volume_tells : Bool) (script script_after : List ℕ) (files files_after : Files) (name : List ℕ)
    (given : Option ℕ) (anchors workers : ℕ) (before after : Counts) (k k' : ℕ) (status : Status)
    → IsFinishedRun source_tells volume_tells script script_after files files_after name given anchors workers before after
    → PrintEnds k k' status
    → RunLeaves source_tells volume_tells script script_after files files_after name given anchors workers before after status
printed_leaves source_tells volume_tells script script_after files files_after name given anchors workers before after k k' status run
    ends =
    by_end (RunLeaves source_tells volume_tells script script_after files files_after name given anchors workers before after) k k' status
    ends run
    (inr record { lines = run.lines; read = run.read; slot = run.slot; sized = run.sized; file = λ told. (run.served.left told).file })
    (λ rose. run)

as_long : {A B : Type 0} (f : A → B) (xs : List A) (ys : List B) → map f xs ≡ ys → length ys ≡ length xs
as_long f xs ys is = ap length (sym is) ∙ length-map xs f

-- there are as many lists of answers as workers
pub many : {C St : Type 0} (volume_tells tells : Bool) (state : C → CellState) (before after : Files) (name : List ℕ)
    (slot anchors workers : ℕ) (lines : List Line) (faults : St → ℕ) (answers : List (List (ℕ × Answer)))
    (counts_before counts_after : Counts)
    → HasRun volume_tells tells state before after name slot anchors workers lines faults answers counts_before counts_after
    → length answers ≡ workers
many volume_tells tells state before after name slot anchors workers lines faults answers counts_before counts_after ran =
    let played = ran.served.played in
    let answered = as_long _ played.accounts _ played.answers_are in
    let started = as_long _ played.accounts _ played.passes_are in
    let kept = ran.closed.passes.ok.0 in
    let opened = ran.closed.opened.store.many in
    omega (arith, answered, started, kept, opened)
