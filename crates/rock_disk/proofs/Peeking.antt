-- A file whose header area is read, or that is refused.
use Rattle.std.proofs.Common.{◌≡◌, inl, inr, ◌+◌, ◌++◌, ◌<◌, ◌≤◌, ℕ, List, length, take, arith, refl, ap, sym, ◌∙◌, Some, None}
use Rattle.std.specs.Prelude.{Result, IsErrOf, IsErrAnd, Ok, Err, ◌↔◌}
use Rattle.std.specs.FinMap.{get}
use Rattle.std.proofs.lemmas.Grind.{common_steps}
use Rattle.std.proofs.Math.Seq.{take-append_seam}
use Rattle.rock_disk.specs.Cell.{CellState, joined}
use Rattle.rock_disk.specs.File.{File, Files, IsKept, bytes_of, cut}
use Rattle.rock_disk.specs.File.File.{Home}
use Rattle.rock_disk.specs.Opened.{IsOpened, IsPeeked, IsSmall}
use Rattle.rock_disk.specs.Memory.{HasRoom}
use Rattle.rock_disk.specs.declared.volume.OpenFault.{OpenFault}
use Rattle.rock_disk.specs.declared.volume.OpenFault.TheVariants as opening
use Rattle.rock_disk.specs.declared.volume.PeekFault.{PeekFault}
use Rattle.rock_disk.specs.declared.volume.PeekFault.TheVariants as peeking
use Rattle.rock_disk.proofs.Cutting.{joined_again}
use Rattle.rock_disk.proofs.Out.{get_inserted}
use Rattle.rock_disk.proofs.Refusals.{same_file}

-- a refusal for its size is one of either kind
pub small_again : {T U P : Type 0} (fault : OpenFault) (n bytes : ℕ) → fault ≡ opening.Small n → (IsErrOf {T = T} (Err fault) (opening.Small bytes) ↔ P) → (IsErrOf {T = U} (Err (peeking.Small n)) (peeking.Small bytes) ↔ P)
small_again {T = T} {U = U} fault n bytes is k = (
  λ e.
      let same : n ≡ bytes = cc in
      let was : IsErrOf {T = T} (Err fault) (opening.Small bytes) = ap (λ (f : OpenFault). Err f) (is ∙ ap (λ (m : ℕ). opening.Small m) same) in
      k.0 was,
  λ p.
      let w = k.1 p in
      let same : n ≡ bytes = cc in
      ap (λ m. Err (peeking.Small m)) same,
)

-- a refusal that `?` passes on
pub passed : {T U P : Type 0} (fault want : PeekFault) (r : Result U PeekFault) → IsErrAnd r (λ e. e ≡ fault) → (IsErrOf {T = T} (Err fault) want ↔ P) → (IsErrOf r want ↔ P)
passed fault want (Ok x) h k = absurd h
passed {T = T} fault want (Err e) h k = (
  λ w.
      let same : fault ≡ want = cc in
      let was : IsErrOf {T = T} (Err fault) want = ap (λ f. Err f) same in
      k.0 was,
  λ p. let w = k.1 p in cc,
)

-- a file that is missing or too short has no room for a header area
pub no_header : {T : Type 0} (fault : PeekFault) (files : Files) (name : List ℕ) → (IsErrOf {T = T} (Err fault) peeking.Missing ↔ get files name ≡ None)
    → ((bytes : ℕ) → (IsErrOf {T = T} (Err fault) (peeking.Small bytes) ↔ IsSmall files name 0 bytes))
    → (IsErrOf {T = T} (Err fault) peeking.Failed → ⊥) → (IsErrOf {T = T} (Err fault) peeking.Memory → ⊥) → HasRoom files name 0 → ⊥
no_header peeking.Missing files name m s f o r = let none = m.0 refl in let found = r.found in cc
no_header (peeking.Small n) files name m s f o r =
    let small = (s n).0 refl in
    let one : small.was ≡ r.was = same_file (sym small.found ∙ r.found) in
    let long : length (bytes_of small.was) ≡ length (bytes_of r.was) = ap (λ w. length (bytes_of w)) one in
    omega (arith, small.size, small.short, r.room)
no_header peeking.Failed files name m s f o r = f refl
no_header peeking.Memory files name m s f o r = o refl

-- as many bytes as are taken from the front
taken : (n : ℕ) (bytes : List ℕ) → n ≤ length bytes → length (take n bytes) ≡ n
taken n bytes room = grind (arith, common_steps)

pub front_long : (bytes : List ℕ) → 16384 + 0 ≤ length bytes → length (take 16384 bytes) ≡ 16384
front_long bytes room = taken 16384 bytes (omega (arith, room))

pub peeked : (files : Files) (name : List ℕ) (was : File) (bytes : ℕ) (all front : List ℕ) → get files name ≡ Some was → all ≡ bytes_of was → bytes ≡ length all → 16384 + 0 ≤ length all → front ≡ take 16384 all → IsPeeked files name bytes front
peeked files name was bytes all front found whole long room is = record {
  was = was;
  found = found;
  size = long ∙ ap length whole;
  long = omega (arith, long, room);
  front_is = is ∙ ap (take 16384) whole;
}

pub read_at_home : {files : Files} {name front rest : List ℕ} {bytes : ℕ} {header : CellState} {cells : List CellState} → IsPeeked files name bytes front → get files name ≡ Some (Home header cells rest) → length header.now ≡ 16384 → header.now ≡ front
read_at_home {rest = rest} {header = header} {cells = cells} p found wide =
    let same : p.was ≡ Home header cells rest = same_file (sym p.found ∙ found) in
    sym (
    p.front_is
    ∙ ap (λ f. take 16384 (bytes_of f)) same
    ∙ ap (λ n. take n (header.now ++ (joined cells ++ rest))) (sym wide)
    ∙ take-append_seam header.now (joined cells ++ rest)
    )

pub read_when_opened : {before after : Files} {name front : List ℕ} {slot bytes seen : ℕ} {header : CellState} {cells : List CellState} → IsPeeked before name seen front → IsOpened before after name slot bytes header cells → (header.now ≡ front) × (bytes ≡ seen)
read_when_opened p o =
    let same : o.was ≡ p.was = same_file (sym o.found ∙ p.found) in (
      ap (λ h. h.now) o.header_is ∙ ap (λ f. take 16384 (bytes_of f)) same ∙ sym p.front_is,
      o.size ∙ ap (λ f. length (bytes_of f)) same ∙ sym p.size,
    )

pub peeked_when_kept : (slot : ℕ) {before after : Files} {name front : List ℕ} {bytes : ℕ} → IsPeeked before name bytes front → IsKept slot name before after → IsPeeked after name bytes front
peeked_when_kept slot {name = name} p (inl same) = record {
  was = p.was;
  found = ap (λ files. get files name) same ∙ p.found;
  size = p.size;
  long = p.long;
  front_is = p.front_is;
}
peeked_when_kept slot {before = before} {name = name} p (inr (was, found, after_is)) =
    let one : was ≡ p.was = same_file (sym found ∙ p.found) in
    let whole : bytes_of (cut slot (bytes_of was)) ≡ bytes_of p.was = joined_again slot (bytes_of was) ∙ ap bytes_of one in
    record {
      was = cut slot (bytes_of was);
      found = ap (λ files. get files name) after_is ∙ get_inserted before name (cut slot (bytes_of was));
      size = p.size ∙ ap length (sym whole);
      long = p.long;
      front_is = p.front_is ∙ ap (take 16384) (sym whole);
    }
