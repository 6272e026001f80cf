-- A file whose header area is looked at, and written where it records nothing.
use Rattle.std.proofs.Common.{◌≡◌, ◌≢◌, ◌⊎◌, ⊎_elim, inl, inr, ℕ, List, ◌+◌, ◌<◌, ◌≤◌, length, take, arith, refl, ap, sym, ◌∙◌, subst, Some, None}
use Rattle.std.specs.Prelude.{Err, IsErrOf, Option, ◌↔◌}
use Rattle.std.specs.FinMap.{get}
use Rattle.db_layout.specs.Layout.{slots_of}
use Rattle.db_layout.specs.declared.geometry.Geometry.{Geometry}
use Rattle.db_layout.proofs.Geometries.{one_geometry, recorded_is_marked}
use Rattle.rock_io.specs.Faults.{Rose}
use Rattle.rock_disk.specs.Counts.{Counts}
use Rattle.rock_disk.specs.Created.{IsMaybeCreated}
use Rattle.rock_disk.specs.File.{File, Files, HasSlots, IsKept, IsNotAway, NoneAway, bytes_of, cut}
use Rattle.rock_disk.proofs.Out.{get_inserted}
use Rattle.rock_disk.specs.Opened.{IsPeeked, IsSmall}
use Rattle.slot_finding.specs.declared.finding.FindFault.{FindFault}
use Rattle.slot_finding.specs.declared.finding.FindFault.TheVariants as finding
use Rattle.slot_finding.specs.Faults.{OrFailed, status_of_find}
use Rattle.slot_finding.specs.Finding.{FileRecords, FindsSlot, Fits, GivesSlot, HeaderSays}
use Rattle.slot_finding.proofs.Causes.{found_long, found_there}
use Rattle.file_commands.specs.Migrate.{IsMarkedFile, IsUnmarkedFile, MayBeMigrated, MigrateLeaves, RecordsItself}
use Rattle.file_commands.specs.Recording.{IsRecorded, MayBeRecorded, RecordLeaves, geometry_of}
use Rattle.file_commands.specs.Report.{AnyCount, ReadEnds, ReadSays}
use Rattle.file_commands.proofs.HeaderWritten.{others_inserted}
use Rattle.rock_status.specs.declared.status.Status.{Status}
use Rattle.rock_status.specs.declared.status.Status.TheVariants.{Done, Usage, Memory, SourceFault, SinkFault, DeviceFault, BadScript, Missing, Small, BadGeometry, Exists}

same_some : {A : Type 0} {a b : A} → Some a ≡ Some b → a ≡ b
same_some e = cc

-- a header area records one thing
says_one : (header : List ℕ) (r s : Option Geometry) → HeaderSays header r → HeaderSays header s → r ≡ s
says_one header None None h k = refl
says_one header None (Some g) h k = absurd (h (recorded_is_marked header g k))
says_one header (Some g) None h k = absurd (k (recorded_is_marked header g h))
says_one header (Some g) (Some h) r s = ap Some (one_geometry header g h r s)

module _ (files : Files) (name : List ℕ) where
  same_length : {b c : ℕ} {front other : List ℕ} → IsPeeked files name b front → IsPeeked files name c other → b ≡ c
  same_length p q = p.size ∙ ap (λ (f : File). length (bytes_of f)) (same_some (sym p.found ∙ q.found)) ∙ sym q.size

  same_front : {b c : ℕ} {front other : List ℕ} → IsPeeked files name b front → IsPeeked files name c other → front ≡ other
  same_front p q = p.front_is ∙ ap (λ (f : File). take 16384 (bytes_of f)) (same_some (sym p.found ∙ q.found)) ∙ sym q.front_is

  -- who looks at a file twice sees the same
  records_one : (r s : Option Geometry) (b c : ℕ) → FileRecords files name r b → FileRecords files name s c → (r ≡ s) × (b ≡ c)
  records_one r s b c f h = (
    says_one h.header r s (subst (λ (x : List ℕ). HeaderSays x r) (same_front f.there h.there) f.says) h.says,
    same_length f.there h.there,
  )

  -- what is recorded is what the file has, where it has slots of this size
  looked_fits : (slot : ℕ) (g : Geometry) (b : ℕ) → FindsSlot files name (Some slot) slot → FileRecords files name (Some g) b → Fits g b × (g.slot ≡ slot)
  looked_fits slot g b f h =
      let e = records_one f.recorded (Some g) f.bytes b f.file h in
      let gives = subst (λ (r : Option Geometry). GivesSlot r b (Some slot) slot) e.0 (subst (λ (n : ℕ). GivesSlot f.recorded n (Some slot) slot) e.1 f.gives) in
      (gives.0, sym gives.1)

  pub looked_itself : (slot : ℕ) (g : Geometry) (b : ℕ) → FindsSlot files name (Some slot) slot → FileRecords files name (Some g) b → RecordsItself slot files name
  looked_itself slot g b f h = let fits = looked_fits slot g b f h in record { geometry = g; bytes = b; file = h; fits = fits.0; size = fits.1 }

  -- a file that is marked is not one that is not
  pub marked_or_not : IsMarkedFile files name → IsUnmarkedFile files name → ⊥
  marked_or_not m n = let e = records_one (Some m.0) None m.1 n.0 m.2 n.1 in let same = e.0 in cc

  long_enough : (slot bytes : ℕ) → ((slots_of bytes slot ≡ 0) ↔ (bytes < 16384 + slot)) → 0 < slots_of bytes slot → 16384 + slot ≤ bytes
  long_enough slot bytes none some = grind (arith, none, some)

  pub looked_slots : (slot : ℕ) (g : Geometry) (b : ℕ) → ((slots_of b slot ≡ 0) ↔ (b < 16384 + slot)) → FindsSlot files name (Some slot) slot → FileRecords files name (Some g) b → HasSlots files name slot g.slots
  looked_slots slot g b none f h =
      let fits = looked_fits slot g b f h in
      let count : g.slots ≡ slots_of b slot = fits.0.count ∙ ap (slots_of b) fits.1 in
      let long = long_enough slot b none (subst (λ (n : ℕ). 0 < n) count fits.0.some) in
      record { was = h.there.was; there = h.there.found; long = omega (arith, long, h.there.size); count = count ∙ ap (λ (n : ℕ). slots_of n slot) h.there.size }

  -- how many slots a file has that was looked at, and that is long enough
  pub long_slots : (slot : ℕ) (r : Option Geometry) (b : ℕ) (f : File) → FileRecords files name r b → get files name ≡ Some f → 16384 + slot ≤ length (bytes_of f) → HasSlots files name slot (slots_of b slot)
  long_slots slot r b f h there long = record {
    was = f;
    there = there;
    long = long;
    count = ap (λ (n : ℕ). slots_of n slot) (h.there.size ∙ ap (λ (x : File). length (bytes_of x)) (same_some (sym h.there.found ∙ there)));
  }

kept_others : (slot : ℕ) (name : List ℕ) (before after : Files) → IsKept slot name before after → (other : List ℕ) → other ≢ name → get after other ≡ get before other
kept_others slot name before after (inl same) other apart = ap (λ (m : Files). get m other) same
kept_others slot name before after (inr kept) other apart = ap (λ (m : Files). get m other) kept.2 ∙ others_inserted before name (cut slot (bytes_of kept.0)) other apart

-- what is left where the file was not begun to be written
pub leaves_kept : (slot : ℕ) (name : List ℕ) (before after : Files) (status : Status) → status ≢ Done → status ≢ SinkFault → IsKept slot name before after → MigrateLeaves slot name before after status
leaves_kept slot name before after status undone taken kept = record {
  others = kept_others slot name before after kept;
  file = inl kept;
  done = λ w. absurd (⊎_elim undone taken w);
  refused = λ a b d. kept;
}

-- where it records its slots
pub leaves_marked : (slot : ℕ) (name : List ℕ) (before after : Files) → RecordsItself slot before name → after ≡ before → MigrateLeaves slot name before after Done
leaves_marked slot name before after it same = record {
  others = λ other apart. ap (λ (m : Files). get m other) same;
  file = inl (inl same);
  done = λ w. inl (it, same);
  refused = λ undone taken d. absurd (undone refl);
}

may_others : (g : Geometry) (name : List ℕ) (before after : Files) → MayBeRecorded g name before after → (other : List ℕ) → other ≢ name → get after other ≡ get before other
may_others g name before after m other apart = ap (λ (x : Files). get x other) m.is ∙ others_inserted before name _ other apart

module _ (slot : ℕ) (name : List ℕ) (before after : Files) (b : ℕ) (unmarked : FileRecords before name None b) where
  may_migrate : MayBeRecorded (geometry_of slot (slots_of b slot)) name before after → MayBeMigrated slot name before after
  may_migrate m = record { slots = slots_of b slot; has = long_slots before name slot None b m.was unmarked m.there m.long; unmarked = (b, unmarked); left = m }

  -- and where it was written
  pub leaves_migrated : MayBeRecorded (geometry_of slot (slots_of b slot)) name before after → IsRecorded (geometry_of slot (slots_of b slot)) name before after → MigrateLeaves slot name before after Done
  leaves_migrated m r = record {
    others = may_others (geometry_of slot (slots_of b slot)) name before after m;
    file = inr (may_migrate m);
    done = λ w. inr (record { slots = slots_of b slot; has = long_slots before name slot None b r.was unmarked r.there r.long; unmarked = (b, unmarked); recorded = r });
    refused = λ undone taken d. absurd (undone refl);
  }

  leaves_failed : (after ≡ before) ⊎ MayBeRecorded (geometry_of slot (slots_of b slot)) name before after → MigrateLeaves slot name before after DeviceFault
  leaves_failed (inl same) = leaves_kept slot name before after DeviceFault (λ e. cc) (λ e. cc) (inl same)
  leaves_failed (inr m) = record {
    others = may_others (geometry_of slot (slots_of b slot)) name before after m;
    file = inr (may_migrate m);
    done = λ w. absurd (⊎_elim (λ (e : DeviceFault ≡ Done). cc) (λ (e : DeviceFault ≡ SinkFault). cc) w);
    refused = λ undone taken d. absurd (d refl);
  }

  -- what is left where its slots were not recorded
  pub leaves_refused : (c c' : Counts) (status : Status) → ReadEnds AnyCount c c' status → RecordLeaves (geometry_of slot (slots_of b slot)) name before after status → MigrateLeaves slot name before after status
  leaves_refused c c' Done k left = absurd k
  leaves_refused c c' Usage k left = absurd k
  leaves_refused c c' Memory k left = leaves_kept slot name before after Memory (λ e. cc) (λ e. cc) left
  leaves_refused c c' SourceFault k left = absurd k
  leaves_refused c c' SinkFault k left = absurd k
  leaves_refused c c' DeviceFault k left = leaves_failed left
  leaves_refused c c' (BadScript line cause) k left = absurd k
  leaves_refused c c' Missing k left = leaves_kept slot name before after Missing (λ e. cc) (λ e. cc) (inl left)
  leaves_refused c c' (Small bytes) k left = leaves_kept slot name before after (Small bytes) (λ e. cc) (λ e. cc) (inl left)
  leaves_refused c c' (BadGeometry field) k left = absurd (k.1.1 tt)
  leaves_refused c c' Exists k left = absurd k

-- what is left where the line alone was not printed
pub leaves_unprinted : (slot : ℕ) (name : List ℕ) (before after : Files) → MigrateLeaves slot name before after Done → MigrateLeaves slot name before after SinkFault
leaves_unprinted slot name before after l = record { others = l.others; file = l.file; done = λ w. l.done (inl refl); refused = λ undone taken d. absurd (taken refl) }

kept_home : (slot : ℕ) (name : List ℕ) (before after : Files) → IsKept slot name before after → IsNotAway (get before name) → IsNotAway (get after name)
kept_home slot name before after (inl same) home = subst IsNotAway (sym (ap (λ (m : Files). get m name) same)) home
kept_home slot name before after (inr kept) home = subst IsNotAway (sym (ap (λ (m : Files). get m name) kept.2 ∙ get_inserted before name (cut slot (bytes_of kept.0)))) tt

left_home : (slot : ℕ) (name : List ℕ) (before after : Files) → IsKept slot name before after ⊎ MayBeMigrated slot name before after → IsNotAway (get before name) → IsNotAway (get after name)
left_home slot name before after (inl kept) home = kept_home slot name before after kept home
left_home slot name before after (inr m) home = subst IsNotAway (sym (ap (λ (x : Files). get x name) m.left.is ∙ get_inserted before name _)) tt

-- the file is in, and no other is another
pub leaves_home : (slot : ℕ) (name : List ℕ) (before after : Files) (status : Status) → MigrateLeaves slot name before after status → NoneAway before → IsMaybeCreated before after name
leaves_home slot name before after status l home = record { others = l.others; home = left_home slot name before after l.file (home name) }

-- a command that found no slot size is not done
not_done : (fault : FindFault) → (status_of_find fault ≢ Done) × (status_of_find fault ≢ SinkFault)
not_done finding.Missing = (λ e. cc, λ e. cc)
not_done (finding.Small bytes) = (λ e. cc, λ e. cc)
not_done (finding.BadGeometry field) = (λ e. cc, λ e. cc)
not_done finding.Failed = (λ e. cc, λ e. cc)
not_done finding.Memory = (λ e. cc, λ e. cc)

-- and leaves the files as they were
pub leaves_unfound : (slot : ℕ) (name : List ℕ) (before after : Files) (fault : FindFault) (status : Status) → status ≡ status_of_find fault → after ≡ before → MigrateLeaves slot name before after status
leaves_unfound slot name before after fault status is same = subst (MigrateLeaves slot name before after) (sym is) (leaves_kept slot name before after (status_of_find fault) (not_done fault).0 (not_done fault).1 (inl same))

-- what a second look may meet
module _ (files : Files) (name : List ℕ) (slot : ℕ) where
  pub unseen_ends : {T : Type 0} (c c' : Counts) (fault : FindFault) (status : Status) → status ≡ status_of_find fault → ((n : ℕ) → IsErrOf {T = T} (Err fault) (finding.BadGeometry n) → ⊥)
      → (IsErrOf {T = T} (Err fault) finding.Failed → Rose c.faults c'.faults) → ReadEnds AnyCount c c' status
  unseen_ends c c' finding.Missing status is fields failed = subst (ReadEnds AnyCount c c') (sym is) tt
  unseen_ends c c' (finding.Small bytes) status is fields failed = subst (ReadEnds AnyCount c c') (sym is) tt
  unseen_ends c c' (finding.BadGeometry field) status is fields failed = absurd (fields field refl)
  unseen_ends c c' finding.Failed status is fields failed = subst (ReadEnds AnyCount c c') (sym is) (inl (failed refl))
  unseen_ends c c' finding.Memory status is fields failed = subst (ReadEnds AnyCount c c') (sym is) tt

  -- the look fails, or wants memory
  pub unseen_fails : {T : Type 0} (fault : FindFault) (due : Status) → FindsSlot files name (Some slot) slot → (IsErrOf {T = T} (Err fault) finding.Missing ↔ get files name ≡ None)
      → ((n : ℕ) → (IsErrOf {T = T} (Err fault) (finding.Small n) ↔ IsSmall files name 0 n)) → ((n : ℕ) → IsErrOf {T = T} (Err fault) (finding.BadGeometry n) → ⊥) → OrFailed due (status_of_find fault)
  unseen_fails finding.Missing due f missing small fields = absurd (found_there files name (Some slot) slot f (missing.0 refl))
  unseen_fails (finding.Small n) due f missing small fields = absurd (found_long files name (Some slot) slot n f ((small n).0 refl))
  unseen_fails (finding.BadGeometry field) due f missing small fields = absurd (fields field refl)
  unseen_fails finding.Failed due f missing small fields = inr (inl refl)
  unseen_fails finding.Memory due f missing small fields = inr (inr refl)

  pub unseen_says : {T : Type 0} (fault : FindFault) → FindsSlot files name (Some slot) slot → (IsErrOf {T = T} (Err fault) finding.Missing ↔ get files name ≡ None)
      → ((n : ℕ) → (IsErrOf {T = T} (Err fault) (finding.Small n) ↔ IsSmall files name 0 n)) → ((n : ℕ) → IsErrOf {T = T} (Err fault) (finding.BadGeometry n) → ⊥) → ReadSays AnyCount files name slot (status_of_find fault)
  unseen_says finding.Missing f missing small fields = absurd (found_there files name (Some slot) slot f (missing.0 refl))
  unseen_says (finding.Small n) f missing small fields = absurd (found_long files name (Some slot) slot n f ((small n).0 refl))
  unseen_says (finding.BadGeometry field) f missing small fields = absurd (fields field refl)
  unseen_says finding.Failed f missing small fields = tt
  unseen_says finding.Memory f missing small fields = tt
