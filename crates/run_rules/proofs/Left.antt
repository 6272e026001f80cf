-- The cells of a store that was closed are back in the file, and what a crash leaves of them.
use Rattle.std.proofs.Common.{◌≡◌, ◌⊎◌, inl, inr, ⊎_elim, ℕ, List, [], ◌∷◌, All, Bool, IsTrue, Some, cond, false, length, map, refl, suc}
use Rattle.std.proofs.Common.{sym, ap, arith, subst, true, ◌+◌, ◌∙◌}
use Rattle.std.proofs.lemmas.Cmp.{nat_list_cmp_total}
use Rattle.std.proofs.lemmas.List.{length-map}
use Rattle.std.proofs.lemmas.List.Elements.{All-map}
use Rattle.std.specs.Cmp.Lexicographic.{slice_cmp}
use Rattle.std.specs.FinMap.{get, get-insert, insert, nat_cmp-IsAntisymmetric, same_map, slice_cmp-IsAntisymmetric}
use Rattle.std.specs.Ordering.{eq_by_cmp, nat_cmp}
use Rattle.std.specs.Prelude.{Option, slice_index_or}
use mathlib.Core.Option.{some}
use lib.ListN.{get_elem?}
use Rattle.db_layout.specs.Layout.{slots_of}
use Rattle.rock_disk.specs.Cell.{CellState, shape}
use Rattle.rock_disk.specs.Crash.{IsCrashImage, NowMayStay}
use Rattle.rock_disk.specs.File.{File, Files, bytes_of, header_cut, rest_cut, shapes_from}
use Rattle.rock_disk.specs.File.File.{Away, Home}
use Rattle.rock_disk.specs.Opened.{IsOpened}
use Rattle.rock_disk.proofs.Out.{count_of}
use Rattle.rebuild_model.specs.Entry.{Entry, IsComplete}
use Rattle.script_text.specs.declared.line.Line.{Line}
use Rattle.store_rule.specs.Setting.{IsRow}
use Rattle.rock_run.specs.Offered.{offers_of}
use Rattle.rock_run.specs.Runs.{HasClosed}
use Rattle.crashed_stores.specs.Left.{IsOfOrigin, bytes_now}
use Rattle.run_rules.specs.Responses.{IsOffered, IsResponse}
use Rattle.run_rules.specs.Left.{IsGivenBack, images_of}
use Rattle.run_rules.proofs.Offered.{offer_of_line}

map_twice : {A B C : Type 0} (f : A → B) (g : B → C) (xs : List A) → map g (map f xs) ≡ map (λ x. g (f x)) xs
map_twice f g [] = refl
map_twice f g (x ∷ xs) = ap (λ ys. g (f x) ∷ ys) (map_twice f g xs)

-- A file that was taken out and put in again.

pick : (b : Bool) (f g : File) (o : Option File) → cond b (Some f) (cond b (Some g) o) ≡ cond b (Some f) o
pick true f g o = refl
pick false f g o = refl

-- what was put in last stands there
inserted_twice : (files : Files) (name : List ℕ) (f g : File) → insert (insert files name g) name f ≡ insert files name f
inserted_twice files name f g =
    same_map nat_list_cmp_total (slice_cmp-IsAntisymmetric nat_cmp-IsAntisymmetric) _ _ (λ q.
    get-insert nat_list_cmp_total (insert files name g) name f q
    ∙ (ap (cond (eq_by_cmp (slice_cmp nat_cmp) q name) (Some f)) (get-insert nat_list_cmp_total files name g q)
    ∙ (pick (eq_by_cmp (slice_cmp nat_cmp) q name) f g (get files q)
    ∙ sym (get-insert nat_list_cmp_total files name f q))))

-- cells in a row have the shapes of a file's slots
shapes_of : {C : Type 0} (cell : C → CellState) (slot from : ℕ) (cells : List C)
    → ((j : ℕ) (c : C) → get_elem? cells j ≡ some c → shape (cell c) ≡ (from + j, slot))
    → map shape (map cell cells) ≡ shapes_from from (length cells) slot
shapes_of cell slot from [] row = refl
shapes_of cell slot from (x ∷ xs) row =
    let first : from + 0 ≡ from = omega arith in
    let here : shape (cell x) ≡ (from, slot) = row 0 x refl ∙ ap (λ (n : ℕ). (n, slot)) first in
    let others = shapes_of cell slot (from + 1) xs (λ j c e. row (suc j) c e
    ∙ (let more : from + suc j ≡ from + 1 + j = omega arith in ap (λ (n : ℕ). (n, slot)) more)) in
    λ i. here i ∷ others i

-- the law on what a crash leaves of the cells of a store that was closed
module _ {C : Type 0} (volume_tells tells : Bool) (cell : C → CellState) (files left : Files) (name : List ℕ) (slot anchors workers : ℕ)
    (script : List Line)
    (told : IsTrue volume_tells) (h : HasClosed volume_tells tells cell files left name slot anchors workers script) where
  abbrev pub Responses : Type 0
  Responses = (images : List (List ℕ)) (e : Entry) → IsCrashImage (map cell h.cells) images → IsComplete slot images e
      → IsComplete slot (bytes_now cell h.opened.cells) e ⊎ IsOfOrigin (offers_of script) e

  abbrev opened : IsOpened files h.middle name slot h.opened.bytes (cell h.header) (map cell h.opened.cells)
  opened = h.opened.out told

  -- the images of the file are what its cells held
  pub images_are : bytes_now cell h.opened.cells ≡ images_of slot opened.was
  images_are = sym (map_twice cell (λ (c : CellState). c.now) h.opened.cells) ∙ ap (map (λ (c : CellState). c.now)) opened.cells_are

  pub response : (e : Entry) (images : List (List ℕ)) → IsComplete slot images e → IsOfOrigin (offers_of script) e
      → IsResponse slot (images_of slot opened.was) script e.url e.body
  response e images c q = inr (subst (λ (z : List ℕ). IsOffered script z e.body) (sym q.url)
      (subst (λ (z : List ℕ). IsOffered script ((offers_of script).url q.offer) z) (sym q.body)
      (offer_of_line script q.offer (λ none. c.url.some (q.url ∙ none)))))

  -- there are as many cells as there were
  many : length (map cell h.cells) ≡ slots_of (length (bytes_of opened.was)) slot
  many = length-map h.cells cell ∙ h.closed.many ∙ h.opened.store.slots_are ∙ sym (length-map h.opened.cells cell)
      ∙ count_of (map cell h.opened.cells) (slots_of h.opened.bytes slot) slot h.opened.shape.cell_shapes
      ∙ ap (λ (n : ℕ). slots_of n slot) opened.size

  -- of the same shapes
  pub shapes : map shape (map cell h.cells) ≡ shapes_from 0 (slots_of (length (bytes_of opened.was)) slot) slot
  shapes = shapes_of cell slot 0 h.cells (λ j c e. subst (λ (n : ℕ). IsRow cell n h.cells) h.opened.store.slot_is h.closed.row j c e
      ∙ (let more : j ≡ 0 + j = omega arith in ap (λ (n : ℕ). (n, slot)) more))
      ∙ ap (λ (n : ℕ). shapes_from 0 n slot) (sym (length-map h.cells cell) ∙ many)

  pub back : left ≡ insert files name (Home (header_cut (bytes_of opened.was)) (map cell h.cells) (rest_cut slot (bytes_of opened.was)))
  back =
      h.back told
      ∙ ap (λ (z : Files). insert z name (Home (cell h.header) (map cell h.cells) (rest_cut slot (bytes_of opened.was)))) opened.out
      ∙ inserted_twice files name (Home (cell h.header) (map cell h.cells) (rest_cut slot (bytes_of opened.was)))
      (Away (slots_of h.opened.bytes slot) slot (rest_cut slot (bytes_of opened.was)))
      ∙ ap (λ (z : CellState). insert files name (Home z (map cell h.cells) (rest_cut slot (bytes_of opened.was)))) opened.header_is

  unfoldable pub given_back : Responses → ((c : C) → NowMayStay (cell c))
      → ((cells : List CellState) → All NowMayStay cells → IsCrashImage cells (map (λ (c : CellState). c.now) cells))
      → IsGivenBack files left name slot script
  given_back law stays now = record {
    was = opened.was;
    there = opened.found;
    cells = map cell h.cells;
    shapes = shapes;
    back = back;
    now = now (map cell h.cells) (All-map NowMayStay cell h.cells (λ k d lt. stays (slice_index_or h.cells k d)));
    responses = λ images p e c. ⊎_elim
        (λ (was : IsComplete slot (bytes_now cell h.opened.cells) e).
        inl record {
          entry = e;
          complete = subst (λ (z : List (List ℕ)). IsComplete slot z e) images_are was;
          url_is = refl;
          body_is =
              refl;
        })
        (λ (new : IsOfOrigin (offers_of script) e). response e images c new)
        (law images e p c);
  }
