-- A file whose cells are out, as a caller needs it.
use Rattle.std.proofs.Common.{◌≡◌, inr, ◌+◌, ◌++◌, [], ◌∷◌, ℕ, zero, suc, List, length, map, arith, Bool, cond, true, false, refl, ap, sym, ◌∙◌, Some}
use Rattle.std.specs.Prelude.{All, Option}
use Rattle.std.proofs.lemmas.Slice.Eq.{bytes_eq-Decides}
use Rattle.std.proofs.lemmas.Map.Text.{is_eq-slice_cmp}
use Rattle.std.proofs.lemmas.List.{length-map}
use Rattle.std.specs.Ordering.{nat_cmp, eq_by_cmp}
use Rattle.std.specs.Cmp.Lexicographic.{slice_cmp}
use Rattle.std.proofs.lemmas.Cmp.{nat_list_cmp_total, eq_by_cmp_equiv}
use Rattle.std.specs.FinMap.{get, insert, get-insert, same_map, slice_cmp-IsAntisymmetric, nat_cmp-IsAntisymmetric}
use Rattle.rock_disk.specs.Cell.{CellState, shape}
use Rattle.rock_disk.specs.File.{File, Files, IsThere, IsKept, bytes_of, shapes_from, header_cut, rest_cut}
use Rattle.db_layout.specs.Layout.{slots_of}
use Rattle.rock_disk.specs.File.File.{Home, Away}
use Rattle.rock_disk.specs.Opened.{HasShape, IsOpened, IsOut}

abbrev pub by_bytes : List ℕ → List ℕ → Bool
by_bytes = eq_by_cmp (slice_cmp nat_cmp)

-- files whose names are the same bytes have one name
pub one_name : (a b : List ℕ) → by_bytes a b ≡ true → a ≡ b
one_name a b e = (bytes_eq-Decides a b).0 (sym (is_eq-slice_cmp a b) ∙ e)

pub equal_by_bytes : (a b : List ℕ) → a ≡ b → by_bytes a b ≡ true
equal_by_bytes a b same = is_eq-slice_cmp a b ∙ (bytes_eq-Decides a b).1 same

bytes_same : (name : List ℕ) → eq_by_cmp (slice_cmp nat_cmp) name name ≡ true
bytes_same name = (eq_by_cmp_equiv nat_list_cmp_total).refl name

pub get_inserted : (files : Files) (name : List ℕ) (f : File) → get (insert files name f) name ≡ Some f
get_inserted files name f = get-insert nat_list_cmp_total files name f name ∙ ap (λ b. cond b (Some f) (get files name)) (bytes_same name)

at_another : (o : Option File) (name other : List ℕ) (f : File) (b : Bool) → by_bytes other name ≡ b → (other ≡ name → ⊥) → cond b (Some f) o ≡ o
at_another o name other f true e apart = absurd (apart (one_name other name e))
at_another o name other f false e apart = refl

others_inserted : (files : Files) (name : List ℕ) (f : File) (other : List ℕ) → (other ≡ name → ⊥) → get (insert files name f) other ≡ get files other
others_inserted files name f other apart = get-insert nat_list_cmp_total files name f other ∙ at_another (get files other) name other f (by_bytes other name) refl apart

pick : (b : Bool) (f g : File) (o : Option File) → cond b (Some f) (cond b (Some g) o) ≡ cond b (Some f) o
pick true f g o = refl
pick false f g o = refl

inserted_twice : (files : Files) (name : List ℕ) (f g : File) → insert (insert files name g) name f ≡ insert files name f
inserted_twice files name f g =
    same_map nat_list_cmp_total (slice_cmp-IsAntisymmetric nat_cmp-IsAntisymmetric) _ _ (λ q.
    get-insert nat_list_cmp_total (insert files name g) name f q
    ∙ (ap (cond (by_bytes q name) (Some f)) (get-insert nat_list_cmp_total files name g q)
    ∙ (pick (by_bytes q name) f g (get files q)
    ∙ sym (get-insert nat_list_cmp_total files name f q))))

pub length-shapes_from : (number n slot : ℕ) → length (shapes_from number n slot) ≡ n
length-shapes_from number zero slot = refl
length-shapes_from number (suc n) slot = ap suc (length-shapes_from (number + 1) n slot)

-- the cells' own number serves as the number of slots
pub self_shaped : (cells : List CellState) (n slot : ℕ) → map shape cells ≡ shapes_from 0 n slot → map shape cells ≡ shapes_from 0 (length cells) slot
self_shaped cells n slot e =
    let count : length cells ≡ n = sym (length-map cells shape) ∙ (ap length e ∙ length-shapes_from 0 n slot) in
    e ∙ ap (λ k. shapes_from 0 k slot) (sym count)

pub count_of : (cells : List CellState) (n slot : ℕ) → map shape cells ≡ shapes_from 0 n slot → length cells ≡ n
count_of cells n slot e = sym (length-map cells shape) ∙ (ap length e ∙ length-shapes_from 0 n slot)

-- cells of these shapes are as wide as a slot
pub widths : (cells : List CellState) (number n slot : ℕ) → map shape cells ≡ shapes_from number n slot → All (λ c. c.width ≡ slot) cells
widths [] number n slot e k d within = absurd (omega arith)
widths (c ∷ cells) number zero slot e k d within =
    let impossible : length (map shape (c ∷ cells)) ≡ 0 = ap length e in
    absurd (omega (arith, impossible))
widths (c ∷ cells) number (suc n) slot e zero d within =
    let front : shape c ≡ (number, slot) = cc in
    ap (λ s. s.1) front
widths (c ∷ cells) number (suc n) slot e (suc k) d within =
    let tail : map shape cells ≡ shapes_from (number + 1) n slot = cc in
    widths cells (number + 1) n slot tail k d (omega arith)

pub away_when_opened : {before after : Files} {name : List ℕ} {slot bytes : ℕ} {header : CellState} {cells : List CellState}
    → (o : IsOpened before after name slot bytes header cells) → get after name ≡ Some (Away (slots_of bytes slot) slot (rest_cut slot (bytes_of o.was)))
away_when_opened {before = before} {name = name} {slot = slot} {bytes = bytes} o =
    ap (λ m. get m name) o.out ∙ get_inserted before name (Away (slots_of bytes slot) slot (rest_cut slot (bytes_of o.was)))

pub others_when_opened : {before after : Files} {name : List ℕ} {slot bytes : ℕ} {header : CellState} {cells : List CellState}
    → IsOpened before after name slot bytes header cells → (other : List ℕ) → (other ≡ name → ⊥) → get after other ≡ get before other
others_when_opened {before = before} {name = name} o other apart = ap (λ m. get m other) o.out ∙ others_inserted before name _ other apart

pub there_when_opened : {before after : Files} {name : List ℕ} {slot bytes : ℕ} {header : CellState} {cells : List CellState} → IsOpened before after name slot bytes header cells → IsThere after name
there_when_opened o = (_, away_when_opened o)

pub there_still : {before after : Files} (name : List ℕ) → after ≡ before → IsThere before name → IsThere after name
there_still name same there = (there.0, ap (λ m. get m name) same ∙ there.1)

-- cells of the shapes of an opened file's may be given back
pub out_when_shaped : {before after : Files} {name : List ℕ} {slot bytes : ℕ} {header header_now : CellState} {cells cells_now : List CellState}
    → HasShape slot bytes header cells → IsOpened before after name slot bytes header cells → shape header_now ≡ shape header → map shape cells_now ≡ map shape cells → IsOut after name header_now cells_now
out_when_shaped {before = before} {name = name} {slot = slot} {bytes = bytes} {cells_now = cells_now} s o h c =
    let shapes : map shape cells_now ≡ shapes_from 0 (slots_of bytes slot) slot = c ∙ s.cell_shapes in
    let same : length cells_now ≡ slots_of bytes slot = count_of cells_now (slots_of bytes slot) slot shapes in
    record {
      slot = slot;
      rest = rest_cut slot (bytes_of o.was);
      found = ap (λ m. get m name) o.out ∙ (get_inserted before name _ ∙ ap (λ n. Some (Away n slot (rest_cut slot (bytes_of o.was)))) (sym same));
      header_shape = h ∙ s.header_shape;
      cell_shapes = self_shaped cells_now (slots_of bytes slot) slot shapes;
    }

-- an opened file that gets its cells back as they are is as opening cuts it
pub kept_when_back : {before after final : Files} {name : List ℕ} {slot bytes : ℕ} {header : CellState} {cells : List CellState} → IsOpened before after name slot bytes header cells
    → ((slots slot : ℕ) (rest : List ℕ) → get after name ≡ Some (Away slots slot rest) → final ≡ insert after name (Home header cells rest)) → IsKept slot name before final
kept_when_back {before = before} {after = after} {final = final} {name = name} {slot = slot} {bytes = bytes} {header = header} {cells = cells} o back =
    let rest = rest_cut slot (bytes_of o.was) in
    let away : File = Away (slots_of bytes slot) slot rest in
    let is : final ≡ insert after name (Home header cells rest) = back (slots_of bytes slot) slot rest (away_when_opened o) in
    inr (
      o.was,
      o.found,
      is ∙ (ap (λ m. insert m name (Home header cells rest)) o.out
          ∙ (inserted_twice before name (Home header cells rest) away
          ∙ (ap (λ x. insert before name (Home x cells rest)) o.header_is ∙ ap (λ x. insert before name (Home (header_cut (bytes_of o.was)) x rest)) o.cells_are))),
    )
