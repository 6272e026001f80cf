-- Cells that are read by one call, one behind the other.
use Rattle.std.proofs.Common.{◌≡◌, ◌+◌, ◌*◌, ◌<◌, ◌≤◌, ◌++◌, ◌∷◌, [], ℕ, suc, List, length, map, take, drop, get_or, arith, ap, sym, ◌∙◌, below_more, suc-mul, take-append-drop, zero-mul}
use Rattle.std.specs.Prelude.{All}
use Rattle.std.proofs.lemmas.List.{length-map, get_or-map, take_all}
use Rattle.std.proofs.lemmas.List.Elements.{All-head, All-tail}
use Rattle.std.proofs.lemmas.List.Sums.{sum_by-cons, sum_by_more, sum_by-take-le}
use Rattle.rock_io.specs.Plan.{FailsNext, Schedule, called}
use Rattle.rock_disk.specs.Cell.{CellState, joined}
use Rattle.rock_disk.specs.Memory.{NoneFails, called_by}
use Rattle.rock_disk.specs.Reads.{BeginsWith, width_of}
use Rattle.rock_disk.proofs.Cells.{joined_next}

pub one_width : (width : ℕ) (cells : List CellState) → All (λ (c : CellState). c.width ≡ width) cells → width_of cells ≡ length cells * width
one_width width [] each = sym (zero-mul width)
one_width width (c ∷ cells) each =
    let first : c.width ≡ width = All-head (λ (c : CellState). c.width ≡ width) c cells each in
    let rest : width_of cells ≡ length cells * width = one_width width cells (All-tail (λ (c : CellState). c.width ≡ width) c cells each) in
    let all : width_of (c ∷ cells) ≡ c.width + width_of cells = sum_by-cons (λ (c : CellState). c.width) c cells in
    let more : suc (length cells) * width ≡ length cells * width + width = suc-mul (length cells) width in
    omega (arith, first, rest, all, more)

-- the width of one cell more
pub width_more : {C : Type 0} (state : C → CellState) (cells : List C) (i : ℕ) (d : C) → i < length cells → d ≡ get_or cells i d
    → width_of (take (i + 1) (map state cells)) ≡ width_of (take i (map state cells)) + (state d).width
width_more state cells i d h is =
    let within : i < length (map state cells) = rw (length-map cells state) h in
    sum_by_more (λ (c : CellState). c.width) (map state cells) i (state d) within
    ∙ ap (λ (c : CellState). width_of (take i (map state cells)) + c.width) (get_or-map state cells i d (state d) h ∙ sym (ap state is))

-- there is room for the next cell
pub width_room : {C : Type 0} (state : C → CellState) (cells : List C) (i : ℕ) (d : C) → i < length cells → d ≡ get_or cells i d
    → width_of (take i (map state cells)) + (state d).width ≤ width_of (map state cells)
width_room state cells i d h is =
    let more : width_of (take (i + 1) (map state cells)) ≡ width_of (take i (map state cells)) + (state d).width = width_more state cells i d h is in
    let part : width_of (take (i + 1) (map state cells)) ≤ width_of (map state cells) = sum_by-take-le (λ (c : CellState). c.width) (map state cells) (i + 1) in
    omega (arith, more, part)

-- one cell more was put behind the others
pub front_more : {C : Type 0} (state : C → CellState) (cells : List C) (i : ℕ) (d : C) (end after : ℕ) (old new now : List ℕ) → i < length cells → d ≡ get_or cells i d → now ≡ (state d).now
    → take end old ≡ joined (take i (map state cells)) → take after new ≡ take end old ++ now → take after new ≡ joined (take (i + 1) (map state cells))
front_more state cells i d end after old new now h is here so_far grows =
    grows ∙ (ap (λ t. t ++ now) so_far ∙ sym (joined_next state cells i d now h is here))

-- where all were put, they fill the buffer
pub all_filled : (cells : List CellState) (i end : ℕ) (buf : List ℕ) → length cells ≤ i → end ≡ width_of (take i cells) → length buf ≡ width_of cells → take end buf ≡ joined (take i cells)
    → buf ≡ joined cells
all_filled cells i end buf all ends long front =
    let whole : take i cells ≡ cells = take_all i cells all in
    let full : length buf ≤ end = omega (arith, ends, long, ap width_of whole) in
    sym (take_all end buf full) ∙ (front ∙ ap joined whole)

pub begins : (front bytes : List ℕ) (n : ℕ) → take n bytes ≡ front → BeginsWith front bytes
begins front bytes n is = (drop n bytes, sym (take-append-drop n bytes) ∙ ap (λ f. f ++ drop n bytes) is)

-- one call more
pub called_more : (n : ℕ) (schedule : Schedule) → called (called_by n schedule) ≡ called_by (n + 1) schedule
called_more n schedule = let one : suc n ≡ n + 1 = omega arith in ap (λ k. called_by k schedule) one

pub none_more : (n : ℕ) (schedule : Schedule) → NoneFails n schedule → (FailsNext (called_by n schedule) → ⊥) → NoneFails (n + 1) schedule
none_more n schedule before here = below_more (λ k. FailsNext (called_by k schedule) → ⊥) n before here
