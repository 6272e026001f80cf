-- What a benchmark answers and leaves whose file was not made.
use Rattle.std.proofs.Common.{Bool, IsTrue, List, arith, inl, inr, refl, ◌≡◌, ◌⊎◌, ℕ}
use Rattle.db_layout.specs.Layout.{IsSlotSize}
use Rattle.file_commands.specs.Create.{CreateEnds, CreateLeaves, CreateSays, IsSlotCount}
use Rattle.file_commands.specs.Report.{ReportPrints, ReportsOrLacksMemory}
use Rattle.rock_disk.specs.File.{Files, IsThere}
use Rattle.rock_disk.specs.Counts.{Counts, NoStation}
use Rattle.rock_open.specs.Opening.{IsPasses}
use Rattle.rock_status.specs.declared.status.Status.{Status}
use Rattle.rock_status.specs.declared.status.Status.TheVariants.{BadGeometry, BadScript, DeviceFault, Done, Exists, Memory, Missing, SinkFault, Small, SourceFault, Usage}
use Rattle.script_text.specs.declared.line.Line.{Line}
use Rattle.bench_command.specs.Ends.{BenchEnds, BenchSays}
use Rattle.bench_command.specs.Leaves.{BenchLeaves, LeavesMade, RunLeaves}
use Rattle.bench_command.specs.Numbers.{AreBenchNumbers, slot_size, slots_for}
use Rattle.bench_command.specs.Stations.{BenchFailed, made_counts}
use Rattle.bench_command.proofs.Plain.{sized}

-- as many slots as a file may have
pub few : (workers : ℕ) → IsPasses workers → IsSlotCount (slots_for workers)
few workers passes = let from = passes.from in let to = passes.to in record { from = omega (arith, from); to = omega (arith, to) }

-- no station was made but where the header area was written
abbrev NoneElse : Counts → Counts → Status → Type 0
NoneElse before after status = (status ≡ Done → ⊥) → (status ≡ DeviceFault → ⊥) → NoStation before after

-- the numbers of a benchmark are those of a file that may be made
no_bad_number : (workers field : ℕ) → IsPasses workers → ((field ≡ 1) × ¬ IsSlotSize slot_size) ⊎ ((field ≡ 4) × IsSlotSize slot_size × ¬ IsSlotCount (slots_for workers)) → ⊥
no_bad_number workers field passes (inl size) = size.1 sized
no_bad_number workers field passes (inr count) = count.2 (few workers passes)

pub unmade_ends : (workers count k k' : ℕ) (before after : Counts) (status : Status) → AreBenchNumbers workers count → (status ≡ Done → ⊥) → NoneElse before after status
    → CreateEnds slot_size (slots_for workers) before after status → BenchEnds workers count k k' before after status
unmade_ends workers count k k' before after Done numbers not none ends = numbers
unmade_ends workers count k k' before after Usage numbers not none ends = absurd ends
unmade_ends workers count k k' before after Memory numbers not none ends = numbers
unmade_ends workers count k k' before after SourceFault numbers not none ends = absurd ends
unmade_ends workers count k k' before after SinkFault numbers not none ends = absurd ends
unmade_ends workers count k k' before after DeviceFault numbers not none ends = (numbers, inl ends.1)
unmade_ends workers count k k' before after (BadScript line cause) numbers not none ends = absurd ends
unmade_ends workers count k k' before after Missing numbers not none ends = (numbers, inl (none (λ e. cc) (λ e. cc)))
unmade_ends workers count k k' before after (Small bytes) numbers not none ends = (numbers, ends.1, inl (none (λ e. cc) (λ e. cc)))
unmade_ends workers count k k' before after (BadGeometry field) numbers not none ends = absurd (no_bad_number workers field numbers.passes ends)
unmade_ends workers count k k' before after Exists numbers not none ends = (numbers, none (λ e. cc) (λ e. cc))

-- where the name was free, it says so, and the other direction
pub unmade_says : (workers : ℕ) (c c' : Counts) (files : Files) (name : List ℕ) (status : Status) → IsPasses workers → ((status ≡ Exists → ⊥) → IsThere files name → ⊥) → CreateEnds slot_size (slots_for workers) c c' status
    → CreateSays files name status → BenchSays files name status
unmade_says workers c c' files name Done passes free ends says = says
unmade_says workers c c' files name Usage passes free ends says = tt
unmade_says workers c c' files name Memory passes free ends says = free (λ e. cc)
unmade_says workers c c' files name SourceFault passes free ends says = tt
unmade_says workers c c' files name SinkFault passes free ends says = free (λ e. cc)
unmade_says workers c c' files name DeviceFault passes free ends says = free (λ e. cc)
unmade_says workers c c' files name (BadScript line cause) passes free ends says = tt
unmade_says workers c c' files name Missing passes free ends says = says
unmade_says workers c c' files name (Small bytes) passes free ends says = says
unmade_says workers c c' files name (BadGeometry field) passes free ends says = absurd (no_bad_number workers field passes ends)
unmade_says workers c c' files name Exists passes free ends says = says

-- where nothing refuses it and no fault came, memory ran out
pub unmade_complete : (workers count k k' : ℕ) (before after : Counts) (files : Files) (name : List ℕ) (status : Status) → ¬ IsThere files name → (status ≡ Done → ⊥) → ¬ BenchFailed before after → BenchEnds workers count k k' before after status
    → CreateEnds slot_size (slots_for workers) before after status → CreateSays files name status → AreBenchNumbers workers count → ReportsOrLacksMemory status
unmade_complete workers count k k' before after files name Done free not none all ends says numbers = inl refl
unmade_complete workers count k k' before after files name Usage free not none all ends says numbers = absurd ends
unmade_complete workers count k k' before after files name Memory free not none all ends says numbers = inr refl
unmade_complete workers count k k' before after files name SourceFault free not none all ends says numbers = absurd ends
unmade_complete workers count k k' before after files name SinkFault free not none all ends says numbers = absurd ends
unmade_complete workers count k k' before after files name DeviceFault free not none all ends says numbers = absurd (none all.1)
unmade_complete workers count k k' before after files name (BadScript line cause) free not none all ends says numbers = absurd ends
unmade_complete workers count k k' before after files name Missing free not none all ends says numbers = absurd says
unmade_complete workers count k k' before after files name (Small bytes) free not none all ends says numbers = absurd says
unmade_complete workers count k k' before after files name (BadGeometry field) free not none all ends says numbers = absurd (no_bad_number workers field numbers.passes ends)
unmade_complete workers count k k' before after files name Exists free not none all ends says numbers = absurd (free says)

-- nothing is printed
pub unmade_prints : (workers : ℕ) (c c' : Counts) (IsText : List ℕ → Type 0) (taken : List ℕ) (status : Status) → (status ≡ Done → ⊥) → CreateEnds slot_size (slots_for workers) c c' status → ReportPrints IsText taken taken status
unmade_prints workers c c' IsText taken Done not ends = absurd (not refl)
unmade_prints workers c c' IsText taken Usage not ends = refl
unmade_prints workers c c' IsText taken Memory not ends = refl
unmade_prints workers c c' IsText taken SourceFault not ends = refl
unmade_prints workers c c' IsText taken SinkFault not ends = absurd ends
unmade_prints workers c c' IsText taken DeviceFault not ends = refl
unmade_prints workers c c' IsText taken (BadScript line cause) not ends = refl
unmade_prints workers c c' IsText taken Missing not ends = refl
unmade_prints workers c c' IsText taken (Small bytes) not ends = refl
unmade_prints workers c c' IsText taken (BadGeometry field) not ends = refl
unmade_prints workers c c' IsText taken Exists not ends = refl

module _ (volume_tells : Bool) (before after : Files) (name : List ℕ) (workers : ℕ) (lines : List Line) (counted counted_after : Counts) where
  -- of a volume that does not tell its files nothing is left to say
  untold : (IsTrue volume_tells → ⊥) → (status : Status) → RunLeaves volume_tells before after name workers lines (made_counts counted) counted_after status → LeavesMade volume_tells before after name workers lines counted counted_after status
  untold not status left = record { middle = before; made = λ t. absurd (not t); left = left }

  pub unmade_leaves : (c c' : Counts) (status : Status) → IsPasses workers → (status ≡ Done → ⊥) → (IsTrue volume_tells → CreateSays before name status) → CreateEnds slot_size (slots_for workers) c c' status
      → CreateLeaves volume_tells slot_size (slots_for workers) name before after status → BenchLeaves volume_tells before after name workers lines counted counted_after status
  unmade_leaves c c' Done passes not says ends left = absurd (not refl)
  unmade_leaves c c' Usage passes not says ends left = left
  unmade_leaves c c' Memory passes not says ends left = inl left
  unmade_leaves c c' SourceFault passes not says ends left = left
  unmade_leaves c c' SinkFault passes not says ends left = absurd ends
  unmade_leaves c c' DeviceFault passes not says ends left = inl left
  unmade_leaves c c' (BadScript line cause) passes not says ends left = left
  unmade_leaves c c' Missing passes not says ends left = untold says Missing (λ t. absurd (says t))
  unmade_leaves c c' (Small bytes) passes not says ends left = untold says (Small bytes) (λ t. absurd (says t))
  unmade_leaves c c' (BadGeometry field) passes not says ends left = absurd (no_bad_number workers field passes ends)
  unmade_leaves c c' Exists passes not says ends left = left
