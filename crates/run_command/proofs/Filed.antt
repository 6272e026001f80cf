-- What is known of a file by its name.
use Rattle.std.proofs.Common.{List, None, Some, ap, arith, length, refl, subst, sym, ◌∙◌, ◌≡◌, ℕ}
use Rattle.std.specs.Prelude.{Option}
use Rattle.db_layout.specs.Layout.{slots_of}
use Rattle.rock_disk.specs.Cell.{CellState}
use Rattle.rock_disk.specs.File.{File, Files, bytes_of}
use Rattle.rock_disk.specs.Opened.{HasShape, IsOpened, IsSmall}
use Rattle.rock_open.specs.Opening.{HasSlots, IsAnchors}
use Rattle.rock_run.proofs.Opened.{at_most}
use Rattle.run_command.specs.Says.{Fits, IsUnfit}

pub lacks_no_file : {f : File} {o : Option File} → o ≡ None → o ≡ Some f → ⊥
lacks_no_file e k = cc

one_file : {f g : File} {o : Option File} → o ≡ Some f → o ≡ Some g → f ≡ g
one_file e k = cc

pub not_short : (files : Files) (name : List ℕ) (slot n bytes : ℕ) → HasSlots files name slot n → IsSmall files name slot bytes → ⊥
not_short files name slot n bytes h small =
    let same : length (bytes_of h.was) ≡ length (bytes_of small.was) = ap (λ f. length (bytes_of f)) (one_file h.there small.found) in
    omega (arith, h.long, small.size, small.short, same)

-- a file has one number of slots
one_count : (files : Files) (name : List ℕ) (slot n m : ℕ) → HasSlots files name slot n → HasSlots files name slot m → n ≡ m
one_count files name slot n m h k = h.count ∙ ap (λ f. slots_of (length (bytes_of f)) slot) (one_file h.there k.there) ∙ sym k.count

pub fits_not : (files : Files) (name : List ℕ) (slot anchors : ℕ) → IsUnfit files name slot anchors → Fits files name slot anchors → ⊥
fits_not files name slot anchors unfit fit = unfit.2 (subst (IsAnchors anchors)
    (one_count files name slot fit.0 unfit.0 fit.1 unfit.1) fit.2)

-- whether anchors fit can be told
as_anchors : (anchors slots : ℕ) → ((IsAnchors anchors slots → ⊥) → ⊥) → IsAnchors anchors slots
as_anchors anchors slots h = record { from = at_most 1 anchors (λ n. h (λ z. n z.from)); to = at_most anchors slots (λ n. h (λ z. n z.to)) }

-- a file that was opened fits, where none is refused that does not
pub fits_when_opened : (before after : Files) (name : List ℕ) (slot anchors bytes : ℕ) (header : CellState) (cells : List CellState)
    → HasShape slot bytes header cells → IsOpened before after name slot bytes header cells
    → ((slots : ℕ) → HasSlots before name slot slots → (IsAnchors anchors slots → ⊥) → ⊥) → Fits before name slot anchors
fits_when_opened before after name slot anchors bytes header cells shape opened not =
    let slots = slots_of (length (bytes_of opened.was)) slot in
    let has : HasSlots before name slot (slots_of (length (bytes_of opened.was)) slot) =
    record { was = opened.was; there = opened.found; long = omega (arith, shape.room, opened.size); count = refl } in
    (slots, has, as_anchors anchors slots (not slots has))
