-- How a file is refused, and what its refusal says.
use Rattle.std.proofs.Common.{◌≡◌, ◌<◌, ◌≤◌, ◌+◌, ◌∙◌, arith, inl, inr, List, Some, ap, length, refl, subst, suc, sym, zero, ℕ}
use Rattle.std.specs.Prelude.{Err, IsErrOf, IsOk, None, Ok, Option, Result, ◌↔◌, ◌⊎◌}
use Rattle.std.specs.FinMap.{get}
use Rattle.db_layout.specs.Layout.{IsSlotSize, slots_of}
use Rattle.db_layout.specs.declared.layout.TheConstants.{HEADER_BYTES}
use Rattle.rock_io.specs.Faults.{Rose}
use Rattle.rock_disk.specs.File.{File, Files, bytes_of}
use Rattle.rock_disk.specs.Opened.{IsSmall}
use Rattle.rock_disk.specs.declared.volume.OpenFault.{OpenFault}
use Rattle.rock_disk.specs.declared.volume.OpenFault.TheVariants as opening
use Rattle.rock_disk.specs.declared.volume.StationFault.{StationFault}
use Rattle.rock_disk.specs.declared.volume.StationFault.TheVariants as making
use Rattle.rock_rebuild.specs.declared.outcome.RebuildFault.{RebuildFault}
use Rattle.rock_rebuild.specs.declared.outcome.RebuildFault.TheVariants as rebuilding
use Rattle.rock_open.specs.declared.fault.OpenStoreFault.{OpenStoreFault}
use Rattle.rock_open.specs.declared.fault.OpenStoreFault.TheVariants.{BadGeometry, Failed, Memory, Missing, Small}
use Rattle.rock_disk.specs.Counts.{Counts, EachEnded, HasFailed, NoStation, NoneFailed, OneStation, counted}
use Rattle.rock_open.specs.Faults.{fault_of_open, fault_of_rebuild, fault_of_station}
use Rattle.rock_open.specs.Opening.{FileSays, HasSlots, IsPasses, KeepingEnds, OpeningEnds, ReadingEnds, RebuildEnds}

module _ {T : Type 0} where
  same_error : {E : Type 0} {f g : E} → ◌≡◌ {A = Result T E} (Err f) (Err g) → f ≡ g
  same_error e = cc

  -- a station was refused
  pub station_refused : (before after : Counts) (f : StationFault) → (IsErrOf {T = T} (Err f) making.Failed → Rose before.faults after.faults) → RebuildEnds before after (fault_of_station f)
  station_refused before after making.Failed failed = inl (failed refl)
  station_refused before after making.Memory failed = tt

  -- a rebuild was refused, and its station was ended
  pub rebuild_refused : (before after : Counts) (count : ℕ) (f : RebuildFault) → OneStation count before after → (IsErrOf {T = T} (Err f) rebuilding.Failed → 0 < count) → RebuildEnds before after (fault_of_rebuild f)
  rebuild_refused before after count rebuilding.Failed one failed = inr (count, one, failed refl)
  rebuild_refused before after count rebuilding.Memory one failed = tt

  -- a file was not opened
  pub open_refused : (slot anchors : ℕ) (before after : Counts) (f : OpenFault) → NoStation before after → ((bytes : ℕ) → IsErrOf {T = T} (Err f) (opening.Small bytes) → bytes < HEADER_BYTES + slot)
      → (IsErrOf {T = T} (Err f) opening.Failed → Rose before.faults after.faults) → ReadingEnds slot anchors before after (fault_of_open f)
  open_refused slot anchors before after opening.Missing none short failed = none
  open_refused slot anchors before after (opening.Small bytes) none short failed = (short bytes refl, none)
  open_refused slot anchors before after opening.Failed none short failed = inl (failed refl)
  open_refused slot anchors before after opening.Memory none short failed = tt

  pub open_says : (files : Files) (name : List ℕ) (slot anchors : ℕ) (f : OpenFault) → (IsErrOf {T = T} (Err f) opening.Missing ↔ (get files name ≡ None)) → ((bytes : ℕ) → (IsErrOf {T = T} (Err f) (opening.Small bytes) ↔ IsSmall files name slot bytes))
      → FileSays files name slot anchors (fault_of_open f)
  open_says files name slot anchors opening.Missing missing small = missing.0 refl
  open_says files name slot anchors (opening.Small bytes) missing small = (small bytes).0 refl
  open_says files name slot anchors opening.Failed missing small = tt
  open_says files name slot anchors opening.Memory missing small = tt

  -- a fault of opening is told as one
  pub open_told : {U : Type 0} (f g : OpenFault) (e : OpenStoreFault) → e ≡ fault_of_open f → IsErrOf {T = T} (Err f) g → IsErrOf {T = U} (Err e) (fault_of_open g)
  open_told f g e is told = ap (λ z. Err z) (is ∙ ap fault_of_open (same_error told))

-- what is kept is no error
pub ok_is_no_error : {A E : Type 0} {e : E} (r : Result A E) → IsOk r → IsErrOf r e → ⊥
ok_is_no_error (Ok x) ok is = cc
ok_is_no_error (Err e) ok is = cc

-- where the answer is no failure, what was handed up is none
pub handed_up : {A B : Type 0} (kept : Result A OpenStoreFault) (f : OpenStoreFault) → (kept ≡ Err f) ⊎ (IsOk kept × (f ≡ Memory)) → (IsErrOf {T = B} (Err f) Failed → ⊥) → IsErrOf kept Failed → ⊥
handed_up kept f (inl same) not is = not (ap Err (same_error (sym same ∙ is)))
handed_up kept f (inr told) not is = ok_is_no_error kept told.0 is

-- a rebuild is refused as an opened file is
pub keeping_of : (anchors slots : ℕ) (before after : Counts) (f : OpenStoreFault) → RebuildEnds before after f → KeepingEnds anchors slots before after f
keeping_of anchors slots before after (BadGeometry field) ends = absurd ends
keeping_of anchors slots before after Missing ends = absurd ends
keeping_of anchors slots before after (Small bytes) ends = absurd ends
keeping_of anchors slots before after Failed ends = ends
keeping_of anchors slots before after Memory ends = tt

module _ (v m : ℕ) (e : List ℕ) (v1 m1 : ℕ) (e1 : List ℕ) (v2 m2 : ℕ) (e2 : List ℕ) (v' m' : ℕ) (e' : List ℕ) (pv : v1 ≡ v) (pm : m1 ≡ m) (pe : e1 ≡ e) (qv : v' ≡ v2) (qm : m' ≡ m2) (qe : e' ≡ e2) where
  -- calls around that leave the counts
  moved : (P : Counts → Counts → Type 0) → P (counted v1 m1 e1) (counted v2 m2 e2) → P (counted v m e) (counted v' m' e')
  moved P h = subst (λ (z : Counts × Counts). P z.0 z.1) (λ i. (counted (pv i) (pm i) (pe i), counted (sym qv i) (sym qm i) (sym qe i))) h

  pub ended_around : EachEnded (counted v1 m1 e1) (counted v2 m2 e2) → EachEnded (counted v m e) (counted v' m' e')
  ended_around h = moved EachEnded h

  pub none_around : NoStation (counted v1 m1 e1) (counted v2 m2 e2) → NoStation (counted v m e) (counted v' m' e')
  none_around h = moved NoStation h

  pub unfailed_around : NoneFailed (counted v1 m1 e1) (counted v2 m2 e2) → NoneFailed (counted v m e) (counted v' m' e')
  unfailed_around h = moved NoneFailed h

  pub one_around : OneStation 0 (counted v1 m1 e1) (counted v2 m2 e2) → OneStation 0 (counted v m e) (counted v' m' e')
  one_around h = moved (OneStation 0) h

  -- an opened file, which has slots, is refused as a file is
  pub opened_refused : (slot anchors slots : ℕ) (f : OpenStoreFault) → 0 < slots → KeepingEnds anchors slots (counted v1 m1 e1) (counted v2 m2 e2) f → ReadingEnds slot anchors (counted v m e) (counted v' m' e') f
  opened_refused slot anchors slots (BadGeometry field) some ends = (ends.0, (slots, some, ends.1), moved NoStation ends.2)
  opened_refused slot anchors slots Missing some ends = absurd ends
  opened_refused slot anchors slots (Small bytes) some ends = absurd ends
  opened_refused slot anchors slots Failed some ends = moved HasFailed ends
  opened_refused slot anchors slots Memory some ends = tt

pub opened_says : (files : Files) (name : List ℕ) (slot anchors slots : ℕ) (before after : Counts) (f : OpenStoreFault) → HasSlots files name slot slots → KeepingEnds anchors slots before after f → FileSays files name slot anchors f
opened_says files name slot anchors slots before after (BadGeometry field) has ends = λ is. (slots, has, ends.1)
opened_says files name slot anchors slots before after Missing has ends = absurd ends
opened_says files name slot anchors slots before after (Small bytes) has ends = absurd ends
opened_says files name slot anchors slots before after Failed has ends = tt
opened_says files name slot anchors slots before after Memory has ends = tt

-- a file that is long enough for a slot has one
pub has_slots : (bytes slot n : ℕ) → HEADER_BYTES + slot ≤ bytes → n ≡ slots_of bytes slot → (slots_of bytes slot ≡ 0 → bytes < HEADER_BYTES + slot) → 0 < n
has_slots bytes slot zero room is none = let short = none (sym is) in omega arith
has_slots bytes slot (suc n) room is none = omega arith

-- a file whose numbers are within their limits is refused as any file
pub opening_of : (slot anchors passes : ℕ) (before after : Counts) (f : OpenStoreFault) → IsSlotSize slot → IsPasses passes → ReadingEnds slot anchors before after f → OpeningEnds slot anchors passes before after f
opening_of slot anchors passes before after (BadGeometry field) size some ends = inr (inr (ends.0, size, some, ends.1, ends.2))
opening_of slot anchors passes before after Missing size some ends = (size, some, ends)
opening_of slot anchors passes before after (Small bytes) size some ends = (size, some, ends)
opening_of slot anchors passes before after Failed size some ends = (size, some, ends)
opening_of slot anchors passes before after Memory size some ends = (size, some, tt)

lacks_no_file : {f : File} {o : Option File} → o ≡ None → o ≡ Some f → ⊥
lacks_no_file e k = cc

one_file : {f g : File} {o : Option File} → o ≡ Some f → o ≡ Some g → f ≡ g
one_file e k = cc

-- a file has one number of slots
pub one_count : (files : Files) (name : List ℕ) (slot n m : ℕ) → HasSlots files name slot n → HasSlots files name slot m → n ≡ m
one_count files name slot n m h k = h.count ∙ ap (λ f. slots_of (length (bytes_of f)) slot) (one_file h.there k.there) ∙ sym k.count
