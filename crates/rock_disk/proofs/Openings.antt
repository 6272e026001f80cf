-- A volume's files once cells are moved out of one, or back into it.
use Rattle.std.proofs.Common.{◌≡◌, ◌+◌, ◌≤◌, ℕ, List, length, get_or, arith, ap, sym, ◌∙◌, Some}
use Rattle.std.proofs.Math.ListN.{set}
use Rattle.std.specs.List.{position}
use Rattle.std.specs.Str.{bytes_eq}
use Rattle.std.specs.FinMap.{get, insert}
use Rattle.rock_disk.specs.Cell.{CellState}
use Rattle.rock_disk.specs.File.{bytes_of, header_cut, slots_cut, rest_cut}
use Rattle.db_layout.specs.Layout.{slots_of}
use Rattle.rock_disk.specs.File.File.{Home, Away}
use Rattle.rock_disk.specs.Opened.{IsOpened}
use Rattle.rock_disk.specs.Memory.{file_of, files_of, rest_of, HasRoom}
use Rattle.rock_disk.specs.declared.memory.entry.Entry.{Entry}
use Rattle.rock_disk.proofs.Places.{found_at, put_at}
use Rattle.rock_disk.proofs.Refusals.{same_file}

pub room_at : (name : List ℕ) (es seen : List Entry) (i : ℕ) (d : Entry) (slot : ℕ) (all : List ℕ) → seen ≡ es → Some i ≡ position (λ e. bytes_eq name e.name) seen → d ≡ get_or es i d
    → all ≡ bytes_of (file_of d.file) → HasRoom (files_of seen) name slot → 16384 + slot ≤ length all
room_at name es seen i d slot all same at is whole r =
    let there : get (files_of seen) name ≡ Some (file_of d.file) = ap (λ s. get (files_of s) name) same ∙ found_at name es seen i d same at is in
    let one : r.was ≡ file_of d.file = same_file (sym r.found ∙ there) in
    let long : length (bytes_of r.was) ≡ length all = ap (λ f. length (bytes_of f)) one ∙ ap length (sym whole) in
    omega (arith, r.room)

pub opened_at : (name : List ℕ) (es seen : List Entry) (i : ℕ) (d e' : Entry) (slot bytes : ℕ) (header : CellState) (cells : List CellState) (all : List ℕ)
    → seen ≡ es → Some i ≡ position (λ e. bytes_eq name e.name) seen → d ≡ get_or es i d → e'.name ≡ d.name → all ≡ bytes_of (file_of d.file)
    → bytes ≡ length all → header ≡ header_cut all → cells ≡ slots_cut slot all → file_of e'.file ≡ Away (slots_of (length all) slot) slot (rest_cut slot all)
    → IsOpened (files_of es) (files_of (set es i e')) name slot bytes header cells
opened_at name es seen i d e' slot bytes header cells all same at is named whole long h c away = record {
  was = file_of d.file;
  found = found_at name es seen i d same at is;
  size = long ∙ ap length whole;
  header_is = h ∙ ap header_cut whole;
  cells_are = c ∙ ap (slots_cut slot) whole;
  out =
      put_at name es seen i d e' same at is named
      ∙ ap (insert (files_of es) name) (away ∙ (ap (λ n. Away (slots_of n slot) slot (rest_cut slot all)) (sym long) ∙ ap (λ b. Away (slots_of bytes slot) slot (rest_cut slot b)) whole));
}

pub back_at : (name : List ℕ) (es seen : List Entry) (i : ℕ) (d e' : Entry) (header : CellState) (cells : List CellState) (slots slot : ℕ) (rest : List ℕ)
    → seen ≡ es → Some i ≡ position (λ e. bytes_eq name e.name) seen → d ≡ get_or es i d → e'.name ≡ d.name
    → file_of e'.file ≡ Home header cells (rest_of (file_of d.file)) → get (files_of es) name ≡ Some (Away slots slot rest)
    → files_of (set es i e') ≡ insert (files_of es) name (Home header cells rest)
back_at name es seen i d e' header cells slots slot rest same at is named home found =
    let was : file_of d.file ≡ Away slots slot rest = same_file (sym (found_at name es seen i d same at is) ∙ found) in
    put_at name es seen i d e' same at is named ∙ ap (insert (files_of es) name) (home ∙ ap (λ f. Home header cells (rest_of f)) was)
