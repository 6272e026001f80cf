-- A run over a file whose slot size was found, that was refused.
use Rattle.std.proofs.Common.{Bool, List, None, Some, ap, arith, inl, inr, refl, subst, ◌+◌, ◌<◌, ◌≡◌, ◌⊎◌, ℕ}
use Rattle.std.specs.Prelude.{Err, IsErrOf, IsTrue, Option, Result}
use Rattle.db_layout.specs.Layout.{IsSlotSize}
use Rattle.db_layout.specs.declared.layout.TheConstants.{HEADER_BYTES}
use Rattle.rock_disk.specs.Cell.{CellState}
use Rattle.rock_disk.specs.File.{Files, IsKept}
use Rattle.rock_disk.specs.Opened.{IsSmall}
use Rattle.rock_open.specs.declared.fault.OpenStoreFault.{OpenStoreFault}
use Rattle.rock_open.specs.declared.fault.OpenStoreFault.TheVariants.{BadGeometry, Failed, Memory, Missing, Small}
use Rattle.rock_disk.specs.Counts.{Counts, NoStation, counted}
use Rattle.rock_open.specs.Opening.{FileSays as OpeningSays, HasSlots, IsAnchors, IsPasses}
use Rattle.rock_run.specs.Device.{RunEnds as RefusalEnds}
use Rattle.rock_run.specs.Faults.{status_of_run}
use Rattle.rock_run.specs.Runs.{HasClosed, RefusalLeaves}
use Rattle.rock_status.specs.declared.status.Status.{Status}
use Rattle.rock_status.specs.declared.status.Status.TheVariants as status
use Rattle.script_text.specs.declared.line.Line.{Line}
use Rattle.slot_finding.specs.Faults.{OrFailed}
use Rattle.slot_finding.specs.Finding.{FindsSlot}
use Rattle.slot_finding.proofs.Causes.{found_agrees, found_fits, found_known, found_long, found_there, of_one, second_says}
use Rattle.run_command.specs.Ends.{FoundEnds, IsShort}
use Rattle.run_command.specs.Found.{FoundLeaves, HasClosedFor}
use Rattle.run_command.specs.Leaves.{LeavesKept}
use Rattle.run_command.specs.Says.{FileSays, IsFileRefused}
use Rattle.run_command.specs.Slots.{IsSlotOf}
use Rattle.run_command.proofs.Filed.{lacks_no_file, not_short}

-- what is said of the counts of a volume that are as they were
pub before_as : (P : Counts → Type 0) (v v1 m m1 : ℕ) (e e1 : List ℕ) → v1 ≡ v → m1 ≡ m → e1 ≡ e → P (counted v1 m1 e1) → P (counted v m e)
before_as P v v1 m m1 e e1 faults made ended h = subst (λ x. P (counted v m x)) ended
    (subst (λ x. P (counted v x e1)) made (subst (λ x. P (counted x m1 e1)) faults h))

same_fault : {T : Type 0} {f g : OpenStoreFault} → ◌≡◌ {A = Result T OpenStoreFault} (Err f) (Err g) → f ≡ g
same_fault e = cc

-- a refusal has one status
told_as : {T : Type 0} (fault due : OpenStoreFault) → IsErrOf {T = T} (Err fault) due → status_of_run fault ≡ status_of_run due
told_as fault due is = ap status_of_run (same_fault is)

-- a file that is too short for a slot of the size that was found
short_for : (given : Option ℕ) (slot bytes : ℕ) → IsSlotSize slot → ((n : ℕ) → given ≡ Some n → slot ≡ n) → bytes < HEADER_BYTES + slot
    → IsShort given bytes
short_for (Some n) slot bytes sized same lt = let is = same n refl in omega (arith, is, lt)
short_for None slot bytes sized same lt = (slot, sized, lt)

pub found_ends : (given : Option ℕ) (slot anchors workers : ℕ) (before after : Counts) (fault : OpenStoreFault) → IsSlotSize slot
    → IsPasses workers → ((n : ℕ) → given ≡ Some n → slot ≡ n) → RefusalEnds slot anchors workers before after fault
    → FoundEnds given anchors before after (status_of_run fault)
found_ends given slot anchors workers before after (BadGeometry field) sized passes same (inl ends) = absurd (ends.1 sized)
found_ends given slot anchors workers before after (BadGeometry field) sized passes same (inr (inl ends)) = absurd (ends.2 passes)
found_ends given slot anchors workers before after (BadGeometry field) sized passes same (inr (inr ends)) = (inr (ends.0, ends.3), ends.4)
found_ends given slot anchors workers before after Missing sized passes same ends = ends.2
found_ends given slot anchors workers before after (Small bytes) sized passes same ends =
    (short_for given slot bytes sized same ends.2.0, ends.2.1)
found_ends given slot anchors workers before after Failed sized passes same ends = ends.2
found_ends given slot anchors workers before after Memory sized passes same ends = tt

pub found_says : (files : Files) (name : List ℕ) (given : Option ℕ) (slot anchors workers : ℕ) (before after : Counts)
    (fault : OpenStoreFault) → IsSlotSize slot → IsPasses workers → RefusalEnds slot anchors workers before after fault
    → FindsSlot files name given slot → OpeningSays files name slot anchors fault → FileSays files name given anchors (status_of_run fault)
found_says files name given slot anchors workers before after (BadGeometry field) sized passes (inl ends) finds says = absurd (ends.1 sized)
found_says files name given slot anchors workers before after (BadGeometry field) sized passes (inr (inl ends)) finds says =
    absurd (ends.2 passes)
found_says files name given slot anchors workers before after (BadGeometry field) sized passes (inr (inr ends)) finds says =
    second_says field ends.0 (slot, finds, says ends.0)
found_says files name given slot anchors workers before after Missing sized passes ends finds says = says
found_says files name given slot anchors workers before after (Small bytes) sized passes ends finds says = inr (slot, finds, says)
found_says files name given slot anchors workers before after Failed sized passes ends finds says = tt
found_says files name given slot anchors workers before after Memory sized passes ends finds says = tt

-- where the anchors do not fit, the run is refused so, unless opening failed
unfit : (slot anchors workers slots : ℕ) (before after : Counts) (files : Files) (name : List ℕ) (fault : OpenStoreFault)
    → RefusalEnds slot anchors workers before after fault → OpeningSays files name slot anchors fault
    → IsSlotSize slot → IsPasses workers → HasSlots files name slot slots → OrFailed (status.BadGeometry 2) (status_of_run fault)
unfit slot anchors workers slots before after files name (BadGeometry field) (inl ends) says sized passes has = absurd (ends.1 sized)
unfit slot anchors workers slots before after files name (BadGeometry field) (inr (inl ends)) says sized passes has = absurd (ends.2 passes)
unfit slot anchors workers slots before after files name (BadGeometry field) (inr (inr ends)) says sized passes has =
    inl (ap status.BadGeometry ends.0)
unfit slot anchors workers slots before after files name Missing ends says sized passes has = absurd (lacks_no_file says has.there)
unfit slot anchors workers slots before after files name (Small bytes) ends says sized passes has =
    absurd (not_short files name slot slots bytes has says)
unfit slot anchors workers slots before after files name Failed ends says sized passes has = inr (inl refl)
unfit slot anchors workers slots before after files name Memory ends says sized passes has = inr (inr refl)

-- no station is made where the file is too short
no_station : (slot anchors workers bytes : ℕ) (before after : Counts) (fault : OpenStoreFault) → fault ≡ Small bytes
    → RefusalEnds slot anchors workers before after fault → NoStation before after
no_station slot anchors workers bytes before after fault is ends = (subst (RefusalEnds slot anchors workers before after) is ends).2.1

pub found_refused : {T : Type 0} (tells : Bool) (files : Files) (name : List ℕ) (given : Option ℕ) (slot anchors workers : ℕ)
    (before after : Counts) (fault : OpenStoreFault) → IsSlotSize slot → IsPasses workers
    → (IsTrue tells → FindsSlot files name given slot) → RefusalEnds slot anchors workers before after fault
    → (IsTrue tells → OpeningSays files name slot anchors fault)
    → (IsTrue tells → (bytes : ℕ) → IsSmall files name slot bytes → IsErrOf {T = T} (Err fault) (Small bytes))
    → (IsTrue tells → (slots : ℕ) → HasSlots files name slot slots → (IsAnchors anchors slots → ⊥) → NoStation before after)
    → IsFileRefused tells files name given anchors before after (status_of_run fault)
found_refused {T = T} tells files name given slot anchor_count workers before after fault sized passes finds ends says small early =
    record {
      missing = λ t is. absurd (found_there files name given slot (finds t) is);
      small = λ bytes t is. absurd (found_long files name given slot bytes (finds t) is);
      wrong = λ t is. absurd (found_fits files name given slot (finds t) is);
      differs = λ t is. absurd (found_agrees files name given slot (finds t) is);
      unknown = λ t is. absurd (found_known files name given slot (finds t) is);
      short = λ bytes t w.
          let is = small t bytes (of_one files name given slot (finds t) w) in (
            inl (told_as {T = T} fault (Small bytes) is),
            no_station slot anchor_count workers bytes before after fault
                (same_fault {T = T} is) ends,
          );
      anchors = λ t w.
          let not = of_one files name given slot (finds t) w in
          (unfit slot anchor_count workers not.0 before after files name fault ends (says t) sized passes not.1, early t not.0 not.1 not.2);
    }

module _ {C : Type 0} (volume_tells tells : Bool) (state : C → CellState) (before after : Files) (name : List ℕ) (given : Option ℕ)
    (slot anchors workers : ℕ) (lines : List Line) (sized : IsSlotOf volume_tells before name given slot) where
  abbrev Left : Status → Type 0
  Left = FoundLeaves (LeavesKept volume_tells before after name given)
      (HasClosedFor volume_tells tells state before after name given anchors workers lines)

  kept_for : (IsTrue volume_tells → IsKept slot name before after) → LeavesKept volume_tells before after name given
  kept_for kept told = inr (slot, sized.found told, kept told)

  either : (IsTrue volume_tells → IsKept slot name before after) ⊎ HasClosed volume_tells tells state before after name slot anchors workers
      lines → Left status.Memory
  either (inl kept) = inl (kept_for kept)
  either (inr closed) = inr (record { slot = slot; sized = sized; closed = closed })

  pub found_kept : (fault : OpenStoreFault) → RefusalLeaves (IsTrue volume_tells → IsKept slot name before after)
      (HasClosed volume_tells tells state before after name slot anchors workers lines) fault → Left (status_of_run fault)
  found_kept (BadGeometry field) h = kept_for h
  found_kept Missing h = kept_for h
  found_kept (Small bytes) h = kept_for h
  found_kept Failed h = either h
  found_kept Memory h = either h
