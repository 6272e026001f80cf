-- A file that is opened, read and given back.
use Rattle.std.proofs.Common.{◌≡◌, ℕ, List, ◌++◌, length, take, map, arith, refl, ap, sym, ◌∙◌, subst, Some}
use Rattle.std.proofs.lemmas.List.{length-map, take-append-le}
use Rattle.std.proofs.Math.Seq.{take-length}
use Rattle.std.specs.Prelude.{Option}
use Rattle.std.specs.FinMap.{get, insert}
use Rattle.rock_disk.specs.Cell.{CellState, shape}
use Rattle.rock_disk.specs.File.{File, Files, bytes_of}
use Rattle.db_layout.specs.Layout.{slots_of}
use Rattle.rock_disk.specs.File.File.{Home, Away}
use Rattle.rock_disk.specs.Opened.{HasShape, IsOpened, IsOut}
use Rattle.file_commands.specs.Report.{HasSlots}

-- an opened file has as many slots as it has cells
pub slots_when_opened : {C : Type 0} (state : C → CellState) (cells : List C) {before after : Files} {name : List ℕ} {slot bytes : ℕ} {header : CellState} → HasShape slot bytes header (map state cells)
    → length (map state cells) ≡ slots_of bytes slot → IsOpened before after name slot bytes header (map state cells) → HasSlots before name slot (length cells)
slots_when_opened state cells {slot = slot} s count o = record {
  was = o.was;
  there = o.found;
  long = omega (arith, s.room, o.size);
  count = sym (length-map cells state) ∙ count ∙ ap (λ n. slots_of n slot) o.size;
}

pub one_file : {f g : File} {o : Option File} → o ≡ Some f → o ≡ Some g → f ≡ g
one_file e k = cc

-- a file has one number of slots
pub one_count : (files : Files) (name : List ℕ) (slot n m : ℕ) → HasSlots files name slot n → HasSlots files name slot m → n ≡ m
one_count files name slot n m h k = h.count ∙ ap (λ f. slots_of (length (bytes_of f)) slot) (one_file h.there k.there) ∙ sym k.count

-- cells that may be given back may be so where the files and the cells are as they were
pub out_still : ((before after : Files) (name : List ℕ) (slot bytes : ℕ) (header header_now : CellState) (cells cells_now : List CellState) → HasShape slot bytes header cells → IsOpened before after name slot bytes header cells
    → shape header_now ≡ shape header → map shape cells_now ≡ map shape cells → IsOut after name header_now cells_now)
    → (before after now : Files) (name : List ℕ) (slot bytes : ℕ) (header : CellState) (cells cells_now : List CellState) → HasShape slot bytes header cells → IsOpened before after name slot bytes header cells → now ≡ after → cells_now ≡ cells
    → IsOut now name header cells_now
out_still out before after now name slot bytes header cells cells_now has opened files same =
    subst (λ f. IsOut f name header cells_now) (sym files) (out before after name slot bytes header header cells cells_now has opened refl (ap (map shape) same))

-- what a volume says of cells that it takes back, it says of the cells that it gave out, where these are as they were
pub handed_back : (after now final : Files) (name : List ℕ) (header : CellState) (cells cells_now : List CellState) → now ≡ after → cells_now ≡ cells
    → ((slots slot : ℕ) (rest : List ℕ) → get now name ≡ Some (Away slots slot rest) → final ≡ insert now name (Home header cells_now rest))
    → (slots slot : ℕ) (rest : List ℕ) → get after name ≡ Some (Away slots slot rest) → final ≡ insert after name (Home header cells rest)
handed_back after now final name header cells cells_now files same back slots slot rest found =
    back slots slot rest (ap (λ m. get m name) files ∙ found) ∙ ap (λ m. insert m name (Home header cells_now rest)) files ∙ ap (λ cs. insert after name (Home header cs rest)) same

-- a slice that a call has filled is the whole of the buffer
pub filled : {A : Type 0} (new old : List A) (n : ℕ) → length new ≡ n → take n (new ++ old) ≡ new
filled new old n e = take-append-le n new old (omega arith) ∙ (ap (λ k. take k new) (sym e) ∙ take-length new)
