-- A file that is opened, whose header area is written, and that is given back.
use Rattle.std.proofs.Common.{◌≡◌, ◌⊎◌, inl, inr, ◌+◌, ◌*◌, ◌≤◌, ◌++◌, [], ◌∷◌, ℕ, List, length, length-append, take, drop, arith, Bool, cond, true, false, refl, ap, sym, ◌∙◌, subst, Some}
use Rattle.std.specs.Prelude.{Contains, Err, IfErr, IsErrOf, Ok, OnErr, OnOk, Option, Result}
use Rattle.std.proofs.lemmas.List.{length-drop, take_at}
use Rattle.std.proofs.lemmas.List.Elements.{All-cons, All-contains, All-nil}
use Rattle.std.proofs.lemmas.Slice.{drop-append-drop}
use Rattle.std.proofs.lemmas.Slice.Eq.{bytes_eq-Decides}
use Rattle.std.proofs.lemmas.Map.Text.{is_eq-slice_cmp}
use Rattle.std.proofs.lemmas.Cmp.{nat_list_cmp_total}
use Rattle.std.specs.Ordering.{nat_cmp, eq_by_cmp}
use Rattle.std.specs.Cmp.Lexicographic.{slice_cmp}
use Rattle.std.specs.FinMap.{get, insert, get-insert, same_map, slice_cmp-IsAntisymmetric, nat_cmp-IsAntisymmetric}
use Rattle.db_layout.specs.Geometry.{header_of}
use Rattle.db_layout.specs.Layout.{slots_of}
use Rattle.db_layout.specs.declared.geometry.Geometry.{Geometry}
use Rattle.rock_disk.specs.Cell.{CellState, settle, settled, shape}
use Rattle.rock_disk.specs.Counts.{Counts}
use Rattle.rock_disk.specs.File.{File, Files, IsKept, bytes_of, cut, rest_cut, slots_cut, slots_from}
use Rattle.rock_disk.specs.File.File.{Home, Away}
use Rattle.rock_disk.specs.Opened.{HasShape, IsOpened}
use Rattle.rock_disk.specs.Written.{AddsAtMost, ReadsOldOrNew}
use Rattle.rock_disk.specs.declared.cell.TheConstants.{HEADER_NUMBER}
use Rattle.rock_disk.specs.declared.volume.OpenFault.{OpenFault}
use Rattle.rock_disk.specs.declared.volume.OpenFault.TheVariants as opening
use Rattle.file_commands.specs.Faults.{status_of_open}
use Rattle.file_commands.specs.Recording.{HeaderLeft, HoldsEither, IsRecorded, MayBeRecorded, RecordLeaves, with_header}
use Rattle.file_commands.specs.Report.{AnyCount, OpenedEnds, ReadSays}
use Rattle.rock_status.specs.declared.status.Status.{Status}
use Rattle.rock_status.specs.declared.status.Status.TheVariants.{Done, Usage, Memory, SourceFault, SinkFault, DeviceFault, BadScript, Missing, Small, BadGeometry, Exists}

abbrev by_bytes : List ℕ → List ℕ → Bool
by_bytes = eq_by_cmp (slice_cmp nat_cmp)

one_name : (a b : List ℕ) → by_bytes a b ≡ true → a ≡ b
one_name a b e = (bytes_eq-Decides a b).0 (sym (is_eq-slice_cmp a b) ∙ e)

pick : (b : Bool) (f g : File) (o : Option File) → cond b (Some f) (cond b (Some g) o) ≡ cond b (Some f) o
pick true f g o = refl
pick false f g o = refl

-- of two files that are put in under one name, one after the other, the second one is there
pub inserted_twice : (files : Files) (name : List ℕ) (f g : File) → insert (insert files name g) name f ≡ insert files name f
inserted_twice files name f g =
    same_map nat_list_cmp_total (slice_cmp-IsAntisymmetric nat_cmp-IsAntisymmetric) _ _ (λ q.
    get-insert nat_list_cmp_total (insert files name g) name f q
    ∙ (ap (cond (by_bytes q name) (Some f)) (get-insert nat_list_cmp_total files name g q)
    ∙ (pick (by_bytes q name) f g (get files q)
    ∙ sym (get-insert nat_list_cmp_total files name f q))))

at_another : (o : Option File) (name other : List ℕ) (f : File) (b : Bool) → by_bytes other name ≡ b → (other ≡ name → ⊥) → cond b (Some f) o ≡ o
at_another o name other f true e apart = absurd (apart (one_name other name e))
at_another o name other f false e apart = refl

pub others_inserted : (files : Files) (name : List ℕ) (f : File) (other : List ℕ) → (other ≡ name → ⊥) → get (insert files name f) other ≡ get files other
others_inserted files name f other apart = get-insert nat_list_cmp_total files name f other ∙ at_another (get files other) name other f (by_bytes other name) refl apart

-- A file that is cut, with another header area in place of its own, is the file of these bytes that is cut: no other slot begins in it.
pub recorded_cut : (slot : ℕ) (header bytes : List ℕ) → length header ≡ 16384 → 16384 ≤ length bytes → with_header slot bytes (settled HEADER_NUMBER 16384 header) ≡ cut slot (header ++ drop 16384 bytes)
recorded_cut slot header bytes whole long =
    let all : List ℕ = header ++ drop 16384 bytes in
    let size : length all ≡ length bytes = omega (arith, length-append header (drop 16384 bytes), length-drop 16384 bytes, whole, long) in
    let front : take 16384 all ≡ header = take_at header (drop 16384 bytes) 16384 whole in
    let slots : slots_cut slot all ≡ slots_cut slot bytes =
    ap (λ (n : ℕ). slots_from 0 (slots_of n slot) slot (drop 16384 all)) size
    ∙ ap (slots_from 0 (slots_of (length bytes) slot) slot) (drop-append-drop 16384 bytes header 16384 (omega arith) whole) in
    let rest : rest_cut slot all ≡ rest_cut slot bytes =
    ap (λ (n : ℕ). drop (16384 + slots_of n slot * slot) all) size
    ∙ drop-append-drop 16384 bytes header (16384 + slots_of (length bytes) slot * slot) (omega arith) whole in
    sym (ap (λ (h : List ℕ). Home (settled HEADER_NUMBER 16384 h) (slots_cut slot all) (rest_cut slot all)) front
    ∙ (ap (λ (cells : List CellState). Home (settled HEADER_NUMBER 16384 header) cells (rest_cut slot all)) slots
    ∙ ap (λ (r : List ℕ). Home (settled HEADER_NUMBER 16384 header) (slots_cut slot bytes) r) rest))

-- an opened file that gets its slots back as they are, and a header area
pub given_back : {before after now final : Files} {name : List ℕ} {slot bytes : ℕ} {header : CellState} {cells : List CellState} (header_now : CellState) (o : IsOpened before after name slot bytes header cells)
    → get after name ≡ Some (Away (slots_of bytes slot) slot (rest_cut slot (bytes_of o.was))) → now ≡ after
    → ((slots width : ℕ) (rest : List ℕ) → get now name ≡ Some (Away slots width rest) → final ≡ insert now name (Home header_now cells rest))
    → final ≡ insert before name (with_header slot (bytes_of o.was) header_now)
given_back {before = before} {after = after} {now = now} {final = final} {name = name} {slot = slot} {bytes = bytes} {cells = cells} header_now o away same back =
    let rest : List ℕ = rest_cut slot (bytes_of o.was) in
    let out : File = Away (slots_of bytes slot) slot rest in
    let is : final ≡ insert now name (Home header_now cells rest) = back (slots_of bytes slot) slot rest (ap (λ (m : Files). get m name) same ∙ away) in
    is ∙ (ap (λ (m : Files). insert m name (Home header_now cells rest)) (same ∙ o.out)
    ∙ (inserted_twice before name (Home header_now cells rest) out
    ∙ ap (λ (x : List CellState). insert before name (Home header_now x rest)) o.cells_are))

-- what is one of one
only_one : (x content : List ℕ) → Contains (x ∷ []) content → content ≡ x
only_one x content among = All-contains (λ (c : List ℕ). c ≡ x) (x ∷ []) content (All-cons (λ (c : List ℕ). c ≡ x) x [] refl (All-nil (λ (c : List ℕ). c ≡ x))) among

same_cell : (c : CellState) (number width : ℕ) → shape c ≡ (number, width) → (bytes : List ℕ) → settled c.number c.width bytes ≡ settled number width bytes
same_cell c number width e bytes = ap (λ (s : ℕ × ℕ). settled s.0 s.1 bytes) e

-- a header area that was written and synced
pub holds_new : (old new : List ℕ) (before after : CellState) → shape before ≡ (HEADER_NUMBER, 16384) → after ≡ settled before.number before.width new → HoldsEither old new after
holds_new old new before after shaped is =
    let whole : after ≡ settled HEADER_NUMBER 16384 new = is ∙ same_cell before HEADER_NUMBER 16384 shaped new in
    subst (HoldsEither old new) (sym whole) (record { shape_is = refl; now = inr refl; left = λ content among. inr (only_one new content among) })

old_or_new : (old new : List ℕ) (before after : CellState) → before ≡ settled HEADER_NUMBER 16384 old → ReadsOldOrNew new before after → (after.now ≡ old) ⊎ (after.now ≡ new)
old_or_new old new before after was (inl same) = inl (same ∙ ap (λ (c : CellState). c.now) was)
old_or_new old new before after was (inr is) = inr is

left_of : (old new content : List ℕ) (before : CellState) → before ≡ settled HEADER_NUMBER 16384 old → Contains before.possible content ⊎ (content ≡ new) → (content ≡ old) ⊎ (content ≡ new)
left_of old new content before was (inl among) = inl (only_one old content (subst (λ (c : CellState). Contains c.possible content) was among))
left_of old new content before was (inr is) = inr is

-- one that may have been written
pub holds_either : (old new : List ℕ) (before after : CellState) → before ≡ settled HEADER_NUMBER 16384 old → shape after ≡ shape before → AddsAtMost new before after → ReadsOldOrNew new before after → HoldsEither old new after
holds_either old new before after was shaped adds reads = record {
  shape_is = shaped ∙ ap shape was;
  now = old_or_new old new before after was reads;
  left = λ content among. left_of old new content before was (adds content among);
}

-- one that was not begun
pub holds_old : (old new : List ℕ) (after : CellState) → after ≡ settled HEADER_NUMBER 16384 old → HoldsEither old new after
holds_old old new after is = subst (HoldsEither old new) (sym is) (record { shape_is = refl; now = inl refl; left = λ content among. inl (only_one old content among) })

-- whatever was met, it holds one of the two
pub holds_left : (old new : List ℕ) (before after : CellState) (status : Status) → before ≡ settled HEADER_NUMBER 16384 old → shape after ≡ shape before → HeaderLeft new before after status → HoldsEither old new after
holds_left old new before after Done was shaped left = holds_either old new before after was shaped left.0 left.1
holds_left old new before after Usage was shaped left = holds_either old new before after was shaped left.0 left.1
holds_left old new before after Memory was shaped left = holds_old old new after (left ∙ was)
holds_left old new before after SourceFault was shaped left = holds_either old new before after was shaped left.0 left.1
holds_left old new before after SinkFault was shaped left = holds_either old new before after was shaped left.0 left.1
holds_left old new before after DeviceFault was shaped left = holds_either old new before after was shaped left.0 left.1
holds_left old new before after (BadScript line cause) was shaped left = holds_either old new before after was shaped left.0 left.1
holds_left old new before after Missing was shaped left = holds_either old new before after was shaped left.0 left.1
holds_left old new before after (Small bytes) was shaped left = holds_either old new before after was shaped left.0 left.1
holds_left old new before after (BadGeometry field) was shaped left = holds_either old new before after was shaped left.0 left.1
holds_left old new before after Exists was shaped left = holds_either old new before after was shaped left.0 left.1

-- a write that succeeded, and then a sync
pub synced_adds : {T : Type 0} {E : Type 0} (bytes : List ℕ) (old written new : CellState) (r : Result (Unit {0}) E) → T → written.now ≡ bytes → AddsAtMost bytes old written
    → OnOk r (T → new ≡ settle written) → OnErr r (new ≡ written) → AddsAtMost bytes old new
synced_adds bytes old written new (Ok x) t is adds settled unchanged = λ content among. inr (only_one written.now content (subst (λ (c : CellState). Contains c.possible content) (settled t) among) ∙ is)
synced_adds bytes old written new (Err e) t is adds settled unchanged = λ content among. adds content (subst (λ (c : CellState). Contains c.possible content) unchanged among)

-- a file that is told to be short was found so by opening it
pub short_open : {T U : Type 0} (f : OpenFault) (s : Status) (bytes : ℕ) → s ≡ status_of_open f → IsErrOf {T = U} (Err s) (Small bytes) → IsErrOf {T = T} (Err f) (opening.Small bytes)
short_open opening.Missing s bytes h told = cc
short_open (opening.Small n) s bytes h told = let same : n ≡ bytes = cc in ap (λ (k : ℕ). Err (opening.Small k)) same
short_open opening.Failed s bytes h told = cc
short_open opening.Memory s bytes h told = cc

-- how the writing of an opened file's header area may be refused
pub station_says : (c c' : Counts) (files : Files) (name : List ℕ) (slot : ℕ) (r : Result (Unit {0}) Status) → IfErr r (OpenedEnds AnyCount 0 c c') → IfErr r (ReadSays AnyCount files name slot)
station_says c c' files name slot (Ok x) k = tt
station_says c c' files name slot (Err Done) k = absurd k
station_says c c' files name slot (Err Usage) k = absurd k
station_says c c' files name slot (Err Memory) k = tt
station_says c c' files name slot (Err SourceFault) k = absurd k
station_says c c' files name slot (Err SinkFault) k = absurd k
station_says c c' files name slot (Err DeviceFault) k = tt
station_says c c' files name slot (Err (BadScript line cause)) k = absurd k
station_says c c' files name slot (Err Missing) k = absurd k
station_says c c' files name slot (Err (Small bytes)) k = absurd k
station_says c c' files name slot (Err (BadGeometry field)) k = absurd (k.1 tt)
station_says c c' files name slot (Err Exists) k = absurd k

pub station_not_short : {A : Type 0} (c c' : Counts) (bytes : ℕ) (r : Result (Unit {0}) Status) → IfErr r (OpenedEnds AnyCount 0 c c') → IsErrOf r (Small bytes) → A
station_not_short c c' bytes r k told = absurd (subst (λ (q : Result (Unit {0}) Status). IfErr q (OpenedEnds AnyCount 0 c c')) told k)

module _ {before after now final : Files} {name : List ℕ} {bytes : ℕ} {header : CellState} {cells : List CellState} (g : Geometry) (o : IsOpened before after name g.slot bytes header cells) (has : HasShape g.slot bytes header cells) (whole : length (header_of g) ≡ 16384)
    (away : get after name ≡ Some (Away (slots_of bytes g.slot) g.slot (rest_cut g.slot (bytes_of o.was)))) (same : now ≡ after) (header_now : CellState)
    (back : (slots width : ℕ) (rest : List ℕ) → get now name ≡ Some (Away slots width rest) → final ≡ insert now name (Home header_now cells rest)) where
  its_header : header ≡ settled HEADER_NUMBER 16384 (take 16384 (bytes_of o.was))
  its_header = o.header_is

  put_back : final ≡ insert before name (with_header g.slot (bytes_of o.was) header_now)
  put_back = given_back header_now o away same back

  pub back_recorded : header_now ≡ settled header.number header.width (header_of g) → IsRecorded g name before final
  back_recorded is = record {
    was = o.was;
    there = o.found;
    long = omega (arith, has.room, o.size);
    is = put_back
        ∙ ap (insert before name) (ap (with_header g.slot (bytes_of o.was)) (is ∙ same_cell header HEADER_NUMBER 16384 has.header_shape (header_of g))
        ∙ recorded_cut g.slot (header_of g) (bytes_of o.was) whole (omega (arith, has.room, o.size)));
  }

  maybe_recorded : HoldsEither (take 16384 (bytes_of o.was)) (header_of g) header_now → MayBeRecorded g name before final
  maybe_recorded holds = record { was = o.was; there = o.found; long = omega (arith, has.room, o.size); header = header_now; either = holds; is = put_back }

  back_kept : header_now ≡ header → IsKept g.slot name before final
  back_kept is = inr (o.was, o.found, put_back ∙ ap (λ (h : CellState). insert before name (with_header g.slot (bytes_of o.was) h)) (is ∙ o.header_is))

  -- whatever was answered
  pub back_either : {T : Type 0} (r : Result (Unit {0}) Status) → T → shape header_now ≡ shape header → OnOk r (T → header_now ≡ settled header.number header.width (header_of g))
      → IfErr r (λ (status : Status). T → HeaderLeft (header_of g) header header_now status) → MayBeRecorded g name before final
  back_either (Ok x) t shaped settled left = maybe_recorded (holds_new (take 16384 (bytes_of o.was)) (header_of g) header header_now has.header_shape (settled t))
  back_either (Err status) t shaped settled left = maybe_recorded (holds_left (take 16384 (bytes_of o.was)) (header_of g) header header_now status its_header shaped (left t))

  pub back_left : {U : Type 0} (c c' : Counts) (r : Result (Unit {0}) Status) → U → shape header_now ≡ shape header → OnOk r (U → header_now ≡ settled header.number header.width (header_of g))
      → IfErr r (λ (status : Status). U → HeaderLeft (header_of g) header header_now status) → IfErr r (OpenedEnds AnyCount 0 c c') → IfErr r (RecordLeaves g name before final)
  back_left c c' (Ok x) t shaped settled left k = tt
  back_left c c' (Err Done) t shaped settled left k = absurd k
  back_left c c' (Err Usage) t shaped settled left k = absurd k
  back_left c c' (Err Memory) t shaped settled left k = back_kept (left t)
  back_left c c' (Err SourceFault) t shaped settled left k = absurd k
  back_left c c' (Err SinkFault) t shaped settled left k = absurd k
  back_left c c' (Err DeviceFault) t shaped settled left k = inr (back_either (Err DeviceFault) t shaped settled left)
  back_left c c' (Err (BadScript line cause)) t shaped settled left k = absurd k
  back_left c c' (Err Missing) t shaped settled left k = absurd k
  back_left c c' (Err (Small bytes)) t shaped settled left k = absurd k
  back_left c c' (Err (BadGeometry field)) t shaped settled left k = absurd (k.1 tt)
  back_left c c' (Err Exists) t shaped settled left k = absurd k

-- what holds of a refusal wherever the volume tells
pub left_by : {T : Type 0} (P : Status → Type 0) (r : Result (Unit {0}) Status) → (T → IfErr r P) → IfErr r (λ (status : Status). T → P status)
left_by P (Ok x) h = tt
left_by P (Err status) h = h
