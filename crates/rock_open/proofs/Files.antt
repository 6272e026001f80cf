-- A file that is opened, and given back.
use Rattle.std.proofs.Common.{◌≡◌, ℕ, List, ◌++◌, length, take, map, arith, ap, sym, ◌∙◌, subst, Some}
use Rattle.std.specs.Prelude.{Err, IfErr, IsOk, Ok, OnOk, Result}
use Rattle.std.proofs.lemmas.List.{length-map, take-append-le}
use Rattle.std.proofs.Math.Seq.{take-length}
use Rattle.std.specs.FinMap.{get, insert}
use Rattle.rock_disk.specs.Cell.{CellState}
use Rattle.rock_disk.specs.File.{Files}
use Rattle.db_layout.specs.Layout.{slots_of}
use Rattle.rock_disk.specs.File.File.{Home, Away}
use Rattle.rock_disk.specs.Opened.{HasShape, IsOpened}
use Rattle.rock_open.specs.Opening.{HasSlots}

-- an opened file has as many slots as it has cells
pub slots_when_opened : {C : Type 0} (state : C → CellState) (cells : List C) {before after : Files} {name : List ℕ} {slot bytes : ℕ} {header : CellState} → HasShape slot bytes header (map state cells)
    → length (map state cells) ≡ slots_of bytes slot → IsOpened before after name slot bytes header (map state cells) → HasSlots before name slot (length cells)
slots_when_opened state cells {slot = slot} s count o = record {
  was = o.was;
  there = o.found;
  long = omega (arith, s.room, o.size);
  count = sym (length-map cells state) ∙ count ∙ ap (λ n. slots_of n slot) o.size;
}

-- what a volume says of cells that it takes back, it says of the cells that it gave out, where these are as they were
pub handed_back : (after now final : Files) (name : List ℕ) (header : CellState) (cells cells_now : List CellState) → now ≡ after → cells_now ≡ cells
    → ((slots slot : ℕ) (rest : List ℕ) → get now name ≡ Some (Away slots slot rest) → final ≡ insert now name (Home header cells_now rest))
    → (slots slot : ℕ) (rest : List ℕ) → get after name ≡ Some (Away slots slot rest) → final ≡ insert after name (Home header cells rest)
handed_back after now final name header cells cells_now files same back slots slot rest found =
    back slots slot rest (ap (λ m. get m name) files ∙ found) ∙ ap (λ m. insert m name (Home header cells_now rest)) files ∙ ap (λ cs. insert after name (Home header cs rest)) same

-- a slice that a call has filled is the whole of the buffer
pub filled : {A : Type 0} (new old : List A) (n : ℕ) → length new ≡ n → take n (new ++ old) ≡ new
filled new old n e = take-append-le n new old (omega arith) ∙ (ap (λ k. take k new) (sym e) ∙ take-length new)

-- a file is out as it was where the files and its cells are as they were
pub out_still : (before after now : Files) (name : List ℕ) (slot bytes : ℕ) (header : CellState) (cells cells_now : List CellState) → now ≡ after → cells_now ≡ cells → IsOpened before after name slot bytes header cells
    → IsOpened before now name slot bytes header cells_now
out_still before after now name slot bytes header cells cells_now files same o = subst (λ (z : Files × List CellState). IsOpened before z.0 name slot bytes header z.1) (λ i. (sym files i, sym same i)) o

-- what holds where a call succeeds
pub on_ok : {T E : Type 0} (P : Type 0) (r : Result T E) → IsOk r → OnOk r P → P
on_ok P (Ok x) ok h = h
on_ok P (Err e) ok h = cc

-- what holds of an error
pub of_error : {T E : Type 0} (P : E → Type 0) (r : Result T E) (e : E) → r ≡ Err e → IfErr r P → P e
of_error {T = T} {E = E} P r e is h = let Q : Result T E → Type 0 = λ z. IfErr z P in subst Q is h
