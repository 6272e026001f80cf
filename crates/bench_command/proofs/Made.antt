-- What follows where the file of a benchmark was made.
use Rattle.std.proofs.Common.{Bool, List, ap, arith, inl, inr, length, length-append, refl, subst, sym, ◌*◌, ◌+◌, ◌∙◌, ◌≡◌, ℕ}
use Rattle.std.proofs.lemmas.List.{length-replicate}
use Rattle.std.specs.Prelude.{Some}
use Rattle.std.specs.FinMap.{get}
use Rattle.db_layout.specs.Geometry.{header_of}
use Rattle.db_layout.specs.declared.geometry.Geometry.{Geometry}
use Rattle.file_commands.specs.Create.{IsMade as IsMadeFile, made_bytes}
use Rattle.file_commands.specs.Recording.{geometry_of}
use Rattle.file_commands.specs.Report.{ReportsOrLacksMemory}
use Rattle.rock_disk.specs.File.{File, Files, IsNotAway, IsThere, bytes_of, cut, zeros}
use Rattle.rock_disk.proofs.Out.{get_inserted}
use Rattle.rock_io.specs.Faults.{Rose}
use Rattle.rock_disk.specs.Counts.{Counts, counted as numbers}
use Rattle.rock_open.specs.Opening.{HasSlots, IsPasses}
use Rattle.rock_run.specs.Device.{RunFailed}
use Rattle.rock_status.specs.declared.status.Status.{Status}
use Rattle.rock_status.specs.declared.status.Status.TheVariants.{BadGeometry, BadScript, DeviceFault, Done, Exists, Memory, Missing, SinkFault, Small, SourceFault, Usage}
use Rattle.script_text.specs.declared.line.Line.{Line}
use Rattle.bench_command.specs.Ends.{BenchEnds, BenchSays, RunEnds, RunSays}
use Rattle.bench_command.specs.Leaves.{BenchLeaves, LeavesMade, RunLeaves}
use Rattle.bench_command.specs.Numbers.{AreBenchNumbers, IsMade, slot_size, slots_for}
use Rattle.bench_command.specs.Stations.{made_counts}

pub zeros_long : (n : ℕ) → length (zeros n) ≡ n
unfolding zeros
zeros_long n = length-replicate n 0

-- the file that is made for so many workers, and its bytes
abbrev pub made_file : (workers : ℕ) → File
made_file workers = cut slot_size (made_bytes slot_size (slots_for workers))

-- it is there
pub made_there : (before after : Files) (name : List ℕ) (workers : ℕ) → IsMadeFile slot_size (slots_for workers) name before after → get after name ≡ Some (made_file workers)
made_there before after name workers is = ap (λ (files : Files). get files name) is ∙ get_inserted before name (made_file workers)

-- and it is not out
pub made_home : (before after : Files) (name : List ℕ) (workers : ℕ) → IsMadeFile slot_size (slots_for workers) name before after → IsNotAway (get after name)
made_home before after name workers is = subst IsNotAway (sym (made_there before after name workers is)) tt

module _ (same_bytes : (slot : ℕ) (bytes : List ℕ) → bytes_of (cut slot bytes) ≡ bytes) (whole : (g : Geometry) → length (header_of g) ≡ 16384) where
  pub made_long : (workers : ℕ) → length (made_bytes slot_size (slots_for workers)) ≡ 16384 + 64 * workers * 512
  made_long workers =
      let header = header_of (geometry_of slot_size (slots_for workers)) in
      let joined = length-append header (zeros (64 * workers * 512)) in
      omega (arith, joined, whole (geometry_of slot_size (slots_for workers)), zeros_long (64 * workers * 512))

  -- it has slots for the workers
  pub made_slots : (before after : Files) (name : List ℕ) (workers : ℕ) → IsPasses workers → IsMadeFile slot_size (slots_for workers) name before after → HasSlots after name slot_size (slots_for workers)
  made_slots before after name workers passes is =
      let long : length (bytes_of (made_file workers)) ≡ 16384 + 64 * workers * 512 = ap length (same_bytes slot_size (made_bytes slot_size (slots_for workers))) ∙ made_long workers in
      let from = passes.from in
      let to = passes.to in
      record {
        was = made_file workers;
        there = made_there before after name workers is;
        long = omega (arith, long, from);
        count = omega (arith, long, to);
      }

-- a volume that did not fail has its counts
pub same_counts : {f f' m m' : ℕ} {e e' : List ℕ} → f ≡ f' → m ≡ m' → e ≡ e' → numbers f m e ≡ numbers f' m' e'
same_counts f m e = cc

-- how the run ends is how the benchmark does
pub run_made_ends : (workers count k k' : ℕ) (before after : Counts) (status : Status) → AreBenchNumbers workers count → RunEnds workers k k' (made_counts before) after status → BenchEnds workers count k k' before after status
run_made_ends workers count k k' before after Done numbers ends = numbers
run_made_ends workers count k k' before after Usage numbers ends = absurd ends
run_made_ends workers count k k' before after Memory numbers ends = numbers
run_made_ends workers count k k' before after SourceFault numbers ends = absurd ends
run_made_ends workers count k k' before after SinkFault numbers ends = (numbers, ends)
run_made_ends workers count k k' before after DeviceFault numbers ends = (numbers, inr ends)
run_made_ends workers count k k' before after (BadScript line cause) numbers ends = absurd ends
run_made_ends workers count k k' before after Missing numbers ends = (numbers, inr ends)
run_made_ends workers count k k' before after (Small bytes) numbers ends = (numbers, ends.0, inr ends.1)
run_made_ends workers count k k' before after (BadGeometry field) numbers ends = inr (inr (ends.0, numbers, ends.1, inr ends.2))
run_made_ends workers count k k' before after Exists numbers ends = absurd ends

-- what the run says of the files is what the benchmark says
pub says_of_run : (workers k k' : ℕ) (before after : Counts) (files : Files) (name : List ℕ) (status : Status) → ¬ IsThere files name → RunEnds workers k k' before after status → RunSays status → BenchSays files name status
says_of_run workers k k' before after files name Done free ends says = free
says_of_run workers k k' before after files name Usage free ends says = tt
says_of_run workers k k' before after files name Memory free ends says = free
says_of_run workers k k' before after files name SourceFault free ends says = tt
says_of_run workers k k' before after files name SinkFault free ends says = free
says_of_run workers k k' before after files name DeviceFault free ends says = free
says_of_run workers k k' before after files name (BadScript line cause) free ends says = tt
says_of_run workers k k' before after files name Missing free ends says = says
says_of_run workers k k' before after files name (Small bytes) free ends says = says
says_of_run workers k k' before after files name (BadGeometry field) free ends says = absurd says
says_of_run workers k k' before after files name Exists free ends says = absurd ends

-- where no fault came it was done, unless memory ran out
pub done_or_memory : (workers k k' : ℕ) (before after : Counts) (status : Status) → ¬ Rose k k' → ¬ RunFailed before after → RunEnds workers k k' before after status → RunSays status → ReportsOrLacksMemory status
done_or_memory workers k k' before after Done sink device ends says = inl refl
done_or_memory workers k k' before after Usage sink device ends says = absurd ends
done_or_memory workers k k' before after Memory sink device ends says = inr refl
done_or_memory workers k k' before after SourceFault sink device ends says = absurd ends
done_or_memory workers k k' before after SinkFault sink device ends says = absurd (sink ends)
done_or_memory workers k k' before after DeviceFault sink device ends says = absurd (device ends)
done_or_memory workers k k' before after (BadScript line cause) sink device ends says = absurd ends
done_or_memory workers k k' before after Missing sink device ends says = absurd says
done_or_memory workers k k' before after (Small bytes) sink device ends says = absurd says
done_or_memory workers k k' before after (BadGeometry field) sink device ends says = absurd says
done_or_memory workers k k' before after Exists sink device ends says = absurd ends

module _ (volume_tells : Bool) (before middle after : Files) (name : List ℕ) (workers : ℕ) (lines : List Line) (made : IsMade volume_tells before middle name workers) (counted counted_after : Counts) where
  left_by : (status : Status) → RunLeaves volume_tells middle after name workers lines (made_counts counted) counted_after status → LeavesMade volume_tells before after name workers lines counted counted_after status
  left_by status left = record { middle = middle; made = made; left = left }

  -- what the run leaves is what the benchmark leaves
  pub leaves_of_run : (k k' : ℕ) (status : Status) → RunEnds workers k k' (made_counts counted) counted_after status → RunLeaves volume_tells middle after name workers lines (made_counts counted) counted_after status
      → BenchLeaves volume_tells before after name workers lines counted counted_after status
  leaves_of_run k k' Done ends left = left_by Done left
  leaves_of_run k k' Usage ends left = absurd ends
  leaves_of_run k k' Memory ends left = inr (left_by Memory left)
  leaves_of_run k k' SourceFault ends left = absurd ends
  leaves_of_run k k' SinkFault ends left = left_by SinkFault left
  leaves_of_run k k' DeviceFault ends left = inr (left_by DeviceFault left)
  leaves_of_run k k' (BadScript line cause) ends left = absurd ends
  leaves_of_run k k' Missing ends left = left_by Missing left
  leaves_of_run k k' (Small bytes) ends left = left_by (Small bytes) left
  leaves_of_run k k' (BadGeometry field) ends left = inr (ends.0, left_by (BadGeometry field) left)
  leaves_of_run k k' Exists ends left = absurd ends
