-- When opening is refused because of what the file is.
use Rattle.std.proofs.Common.{◌≡◌, ◌+◌, ◌<◌, ◌≤◌, ℕ, zero, suc, List, length, map, drop, ◌∷◌, arith, refl, ap, sym, ◌∙◌, Some, None}
use Rattle.std.specs.Prelude.{Result, IsErrOf, IsErrAnd, Ok, Err, ◌↔◌}
use Rattle.std.specs.FinMap.{get}
use Rattle.rock_disk.specs.Cell.{CellState, shape}
use Rattle.rock_disk.specs.File.{File, Files, bytes_of, shapes_from, slots_from, slots_cut, header_cut}
use Rattle.db_layout.specs.Layout.{slots_of}
use Rattle.rock_disk.specs.Opened.{IsSmall, HasShape}
use Rattle.rock_disk.specs.Memory.{HasRoom}
use Rattle.rock_disk.specs.declared.volume.OpenFault.{OpenFault}
use Rattle.rock_disk.specs.declared.volume.OpenFault.TheVariants as opening

pub same_file : {f g : File} → Some f ≡ Some g → f ≡ g
same_file e = cc

pub not_missing : {T : Type 0} (r : Result T OpenFault) (files : Files) (name : List ℕ) (was : File) → get files name ≡ Some was → (IsErrOf r opening.Missing → ⊥) → (IsErrOf r opening.Missing ↔ get files name ≡ None)
not_missing r files name was found not = (λ e. absurd (not e), λ none. cc)

pub missing : {T : Type 0} (files : Files) (name : List ℕ) → get files name ≡ None → (bytes slot : ℕ) → (IsErrOf {T = T} (Err opening.Missing) (opening.Small bytes) ↔ IsSmall files name slot bytes)
missing files name none bytes slot = (λ e. absurd (cc), λ s. let f = s.found in absurd (cc))

pub not_small : {T : Type 0} (r : Result T OpenFault) (files : Files) (name : List ℕ) (was : File) (slot bytes : ℕ) → get files name ≡ Some was → 16384 + slot ≤ length (bytes_of was)
    → (IsErrOf r (opening.Small bytes) → ⊥) → (IsErrOf r (opening.Small bytes) ↔ IsSmall files name slot bytes)
not_small r files name was slot bytes found room not = (
  λ e. absurd (not e),
  λ s.
      let same : s.was ≡ was = same_file (sym s.found ∙ found) in
      let long : length (bytes_of s.was) ≡ length (bytes_of was) = ap (λ f. length (bytes_of f)) same in
      absurd (omega (arith, s.size, s.short)),
)

pub small : {T : Type 0} (files : Files) (name : List ℕ) (was : File) (slot size bytes : ℕ) → get files name ≡ Some was → size ≡ length (bytes_of was) → size < 16384 + slot
    → (IsErrOf {T = T} (Err (opening.Small size)) (opening.Small bytes) ↔ IsSmall files name slot bytes)
small files name was slot size bytes found long short = (
  λ e.
      let same : size ≡ bytes = cc in
      record { was = was; found = found; size = sym same ∙ long; short = omega (arith, same) },
  λ s.
      let same : s.was ≡ was = same_file (sym s.found ∙ found) in
      let is : size ≡ bytes = long ∙ (ap (λ f. length (bytes_of f)) (sym same) ∙ sym s.size) in
      ap (λ n. Err (opening.Small n)) is,
)

shapes-slots_from : (number n slot : ℕ) (bytes : List ℕ) → map shape (slots_from number n slot bytes) ≡ shapes_from number n slot
shapes-slots_from number zero slot bytes = refl
shapes-slots_from number (suc n) slot bytes = ap (λ s. (number, slot) ∷ s) (shapes-slots_from (number + 1) n slot (drop slot bytes))

-- what a cut file's cells say of their places
pub has_shape : (slot : ℕ) (all : List ℕ) (bytes : ℕ) (header : CellState) (cells : List CellState) → 16384 + slot ≤ bytes → bytes ≡ length all → header ≡ header_cut all → cells ≡ slots_cut slot all
    → HasShape slot bytes header cells
has_shape slot all bytes header cells room long h c = record {
  room = room;
  header_shape = ap shape h;
  cell_shapes = ap (map shape) c ∙ (shapes-slots_from 0 (slots_of (length all) slot) slot (drop 16384 all) ∙ ap (λ n. shapes_from 0 (slots_of n slot) slot) (sym long));
}

-- a refusal that `?` passes on
pub passed_on : {T U P : Type 0} (fault want : OpenFault) (r : Result U OpenFault) → IsErrAnd r (λ e. e ≡ fault) → (IsErrOf {T = T} (Err fault) want ↔ P) → (IsErrOf r want ↔ P)
passed_on fault want (Ok x) h k = absurd h
passed_on {T = T} fault want (Err e) h k = (
  λ w.
      let same : fault ≡ want = cc in
      let was : IsErrOf {T = T} (Err fault) want = ap (λ f. Err f) same in
      k.0 was,
  λ p. let w = k.1 p in cc,
)

-- what is refused because of the file has no room
pub no_room : {T : Type 0} (fault : OpenFault) (files : Files) (name : List ℕ) (slot : ℕ) → (IsErrOf {T = T} (Err fault) opening.Missing ↔ get files name ≡ None)
    → ((bytes : ℕ) → (IsErrOf {T = T} (Err fault) (opening.Small bytes) ↔ IsSmall files name slot bytes))
    → (IsErrOf {T = T} (Err fault) opening.Failed → ⊥) → (IsErrOf {T = T} (Err fault) opening.Memory → ⊥) → HasRoom files name slot → ⊥
no_room opening.Missing files name slot m s f o r = let none = m.0 refl in let found = r.found in cc
no_room (opening.Small n) files name slot m s f o r =
    let small = (s n).0 refl in
    let one : small.was ≡ r.was = same_file (sym small.found ∙ r.found) in
    let long : length (bytes_of small.was) ≡ length (bytes_of r.was) = ap (λ w. length (bytes_of w)) one in
    omega (arith, small.size, small.short, r.room)
no_room opening.Failed files name slot m s f o r = f refl
no_room opening.Memory files name slot m s f o r = o refl
