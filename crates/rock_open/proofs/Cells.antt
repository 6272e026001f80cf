-- The cells of an opened file: they stand in a row, a crash leaves of each what a read gives, and what a rebuild of them kept is a store's.
use Rattle.std.proofs.Common.{◌+◌, ◌≤◌, ◌≡◌, ◌∙◌, ◌∷◌, All, Bool, List, [], ap, arith, drop, false, length, map, refl, subst, suc, sym, take, true, zero, ℕ}
use Rattle.std.specs.Prelude.{Err, IfOk, IsTrue, Ok, Result}
use Rattle.std.proofs.lemmas.List.{length-map}
use mathlib.Core.Option.{some, some-injective, some-ne-none}
use lib.ListN.{get_elem?}
use Rattle.rebuild_model.specs.Rebuilt.{IsRebuilt}
use Rattle.rebuild_model.specs.declared.rebuilt.Rebuilt.{Rebuilt}
use Rattle.rock_disk.specs.Cell.{CellState, settled, shape}
use Rattle.std.specs.Prelude.{Some}
use Rattle.std.specs.FinMap.{get}
use Rattle.db_layout.specs.Layout.{slots_of}
use Rattle.db_layout.specs.declared.layout.TheConstants.{HEADER_BYTES, MOST_SLOTS}
use Rattle.rock_disk.specs.declared.cell.TheConstants.{HEADER_NUMBER}
use Rattle.rock_disk.specs.File.{Files, shapes_from, slots_cut, slots_from}
use Rattle.rock_disk.specs.File.File.{Away}
use Rattle.rock_disk.specs.Opened.{IsOut}
use Rattle.rock_rebuild.specs.Read.{AreImagesOf}
use Rattle.store_rule.specs.Rebuilding.{IsRebuildOf}
use Rattle.store_rule.specs.Setting.{IsRow, IsSettled}

module _ {A : Type 0} where
  abbrev first_of : List A → A → A
  first_of [] d = d
  first_of (x ∷ xs) d = x

  abbrev others_of : List A → List A
  others_of [] = []
  others_of (x ∷ xs) = xs

-- a cell of which a crash leaves what a read gives
abbrev IsSure : CellState → Type 0
IsSure c = c.possible ≡ c.now ∷ []

module _ {C : Type 0} (state : C → CellState) where
  row_from : (slot from n : ℕ) (cells : List C) → map shape (map state cells) ≡ shapes_from from n slot → (j : ℕ) (c : C) → get_elem? cells j ≡ some c → shape (state c) ≡ (from + j, slot)
  row_from slot from n [] same j c e = absurd (some-ne-none c (sym e))
  row_from slot from zero (x ∷ xs) same j c e = absurd (let z = ap length same in omega arith)
  row_from slot from (suc n) (x ∷ xs) same zero c e = ap (λ (z : C). shape (state z)) (sym (some-injective x c e)) ∙ ap (λ (z : List (ℕ × ℕ)). first_of z (from, slot)) same ∙ (let more : from ≡ from + 0 = omega arith in ap (λ (z : ℕ). (z, slot)) more)
  row_from slot from (suc n) (x ∷ xs) same (suc j) c e = row_from slot (from + 1) n xs (ap others_of same) j c e ∙ (let more : from + 1 + j ≡ from + suc j = omega arith in ap (λ (z : ℕ). (z, slot)) more)

  -- cells with the shapes of a file's slots are its row
  pub row_of : (slot n : ℕ) (cells : List C) → map shape (map state cells) ≡ shapes_from 0 n slot → IsRow state slot cells
  row_of slot n cells same j c e = row_from slot 0 n cells same j c e ∙ (let more : 0 + j ≡ j = omega arith in ap (λ (z : ℕ). (z, slot)) more)

  sure_from : (slot from n : ℕ) (bytes : List ℕ) (cells : List C) → map state cells ≡ slots_from from n slot bytes → All (λ (c : C). IsSure (state c)) cells
  sure_from slot from n bytes [] same k d lt = absurd (omega arith)
  sure_from slot from zero bytes (x ∷ xs) same k d lt = absurd (let z = ap length same in omega arith)
  sure_from slot from (suc n) bytes (x ∷ xs) same zero d lt = subst IsSure (sym (ap (λ (z : List CellState). first_of z (settled from slot (take slot bytes))) same)) refl
  sure_from slot from (suc n) bytes (x ∷ xs) same (suc k) d lt = sure_from slot (from + 1) n (drop slot bytes) xs (ap others_of same) k d (omega arith)

  -- a crash leaves of the slots of a file that was just opened what reads give
  pub sure_of : (tells : Bool) (slot : ℕ) (cells : List C) → (IsTrue tells → (bytes : List ℕ) × (map state cells ≡ slots_cut slot bytes)) → All (IsSettled tells state) cells
  sure_of true slot cells told = let file = told refl in sure_from slot 0 (slots_of (length file.0) slot) (drop HEADER_BYTES file.0) cells file.1
  sure_of false slot cells told = λ k d lt. refl

  -- there are few enough
  pub few_of : (cells : List C) (states : List CellState) → map state cells ≡ states → length states ≤ MOST_SLOTS → length cells ≤ 1048576
  few_of cells states same few = let long = ap length same in let as_many = length-map cells state in omega arith

  now_of : (cells : List C) → map (λ (c : CellState). c.now) (map state cells) ≡ map (λ (c : C). (state c).now) cells
  now_of [] = refl
  now_of (c ∷ cells) = ap (λ (z : List (List ℕ)). (state c).now ∷ z) (now_of cells)

  -- what a rebuild of cells kept it kept of cells that are as they were
  pub rebuilt_of : (tells : Bool) (slot anchors : ℕ) (cells : List C) (states : List CellState) (images : List (List ℕ)) (r : Rebuilt) → map state cells ≡ states → AreImagesOf tells slot states images → IsRebuilt slot images anchors r
      → IsRebuildOf tells state slot anchors cells r
  rebuilt_of tells slot anchors cells states images r same read kept = record {
    images = images;
    many = read.count ∙ ap length (sym same) ∙ length-map cells state;
    told = λ t. read.told t ∙ ap (map (λ (c : CellState). c.now)) (sym same) ∙ now_of cells;
    rebuilt = kept;
  }

  shapes_of : (slot from : ℕ) (cells : List C) → ((j : ℕ) (c : C) → get_elem? cells j ≡ some c → shape (state c) ≡ (from + j, slot)) → map shape (map state cells) ≡ shapes_from from (length cells) slot
  shapes_of slot from [] row = refl
  shapes_of slot from (x ∷ xs) row =
      let first : from + 0 ≡ from = omega arith in
      let here : shape (state x) ≡ (from, slot) = row 0 x refl ∙ ap (λ (z : ℕ). (z, slot)) first in
      let others = shapes_of slot (from + 1) xs (λ j c e. row (suc j) c e ∙ (let more : from + suc j ≡ from + 1 + j = omega arith in ap (λ (z : ℕ). (z, slot)) more)) in
      λ i. here i ∷ others i

  -- cells in a row may be given back
  pub row_is_out : (files : Files) (name : List ℕ) (slots slot : ℕ) (rest : List ℕ) (header : C) (cells : List C) → get files name ≡ Some (Away slots slot rest) → shape (state header) ≡ (HEADER_NUMBER, HEADER_BYTES)
      → length cells ≡ slots → IsRow state slot cells → IsOut files name (state header) (map state cells)
  row_is_out files name slots slot rest header cells found head many row = let as_many = length-map cells state in record {
    slot = slot;
    rest = rest;
    found = found ∙ ap (λ (n : ℕ). Some (Away n slot rest)) (sym many ∙ sym as_many);
    header_shape = head;
    cell_shapes = shapes_of slot 0 cells (λ j c e. row j c e ∙ (let more : j ≡ 0 + j = omega arith in ap (λ (z : ℕ). (z, slot)) more)) ∙ ap (λ (n : ℕ). shapes_from 0 n slot) (sym as_many);
  }

  pub rebuilds : {E : Type 0} (tells : Bool) (slot anchors : ℕ) (cells : List C) (states : List CellState) (r : Result Rebuilt E) → map state cells ≡ states
      → IfOk r (λ (kept : Rebuilt). (images : List (List ℕ)) × AreImagesOf tells slot states images × IsRebuilt slot images anchors kept) → IfOk r (IsRebuildOf tells state slot anchors cells)
  rebuilds tells slot anchors cells states (Ok kept) same h = rebuilt_of tells slot anchors cells states h.0 kept same h.1 h.2
  rebuilds tells slot anchors cells states (Err e) same h = tt
