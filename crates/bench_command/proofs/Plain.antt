-- The file of a benchmark was never written, and its line is that of plain stores.
use Rattle.std.proofs.Common.{◌≡◌, ◌≤◌, ◌∙◌, ◌*◌, ◌+◌, ◌++◌, ◌∷◌, List, [], ap, arith, length, map, refl, subst, suc, sym, zero, ℕ}
use Rattle.std.specs.Prelude.{All, Some, drop, take}
use Rattle.std.specs.FinMap.{get}
use Rattle.std.proofs.lemmas.List.{drop_at}
use Rattle.std.proofs.lemmas.List.Elements.{All-cons, All-drop, All-nil, All-replicate, All-take}
use Rattle.workload.specs.Counts.{summary_of}
use Rattle.workload.specs.Text.{summary_line}
use Rattle.db_layout.specs.Geometry.{header_of}
use Rattle.db_layout.specs.Layout.{IsSlotSize}
use Rattle.db_layout.specs.declared.geometry.Geometry.{Geometry}
use Rattle.file_commands.specs.Create.{IsMade, made_bytes}
use Rattle.file_commands.specs.Recording.{geometry_of}
use Rattle.rock_disk.specs.Cell.{CellState}
use Rattle.rock_disk.specs.File.{File, Files, bytes_of, cut, slots_cut, slots_from, zeros}
use Rattle.run_rules.specs.Runs.{HasImages}
use Rattle.script_text.specs.declared.answer.Answer.{Answer}
use Rattle.bench_laws.specs.Plain.{AreRenamed, all_of, plain_answers}
use Rattle.bench_command.specs.Answers.{answers_in}
use Rattle.bench_command.specs.Numbers.{slot_size, slots_for}
use Rattle.bench_command.specs.Plain.{plain_line}
use Rattle.bench_command.proofs.Made.{made_file, made_long, made_there}

pub sized : IsSlotSize slot_size
sized = record { from = omega arith; to = omega arith; multiple = omega arith }

abbrev pub AreZeros : List ℕ → Type 0
AreZeros bytes = All (λ b. b ≡ 0) bytes

abbrev images_from : (number n slot : ℕ) → List ℕ → List (List ℕ)
images_from number n slot bytes = map (λ (c : CellState). c.now) (slots_from number n slot bytes)

-- slots that are cut from zeros are zeros
zeros_cut : (number n slot : ℕ) (bytes : List ℕ) → AreZeros bytes → All AreZeros (images_from number n slot bytes)
zeros_cut number zero slot bytes h = All-nil AreZeros
zeros_cut number (suc n) slot bytes h =
    All-cons AreZeros (take slot bytes) (images_from (number + 1) n slot (drop slot bytes)) (All-take (λ b. b ≡ 0) slot bytes h)
    (zeros_cut (number + 1) n slot (drop slot bytes) (All-drop (λ b. b ≡ 0) slot bytes h))

as_many : (number n slot : ℕ) (bytes : List ℕ) → length (images_from number n slot bytes) ≡ n
as_many number zero slot bytes = refl
as_many number (suc n) slot bytes = let rest = as_many (number + 1) n slot (drop slot bytes) in omega (arith, rest)

are_zeros : (n : ℕ) → AreZeros (zeros n)
unfolding zeros
are_zeros n = All-replicate (λ b. b ≡ 0) n 0 refl

abbrev bytes_for : (workers : ℕ) → List ℕ
bytes_for workers = made_bytes slot_size (slots_for workers)

abbrev images_for : (workers : ℕ) → List (List ℕ)
images_for workers = map (λ (c : CellState). c.now) (slots_cut slot_size (bytes_for workers))

-- The file that was made for a benchmark was never written.
module _ (same_bytes : (slot : ℕ) (bytes : List ℕ) → bytes_of (cut slot bytes) ≡ bytes) (whole : (g : Geometry) → length (header_of g) ≡ 16384)
    (before middle : Files) (name : List ℕ) (workers : ℕ) (made : IsMade slot_size (slots_for workers) name before middle) where
  one_file : (f : File) → get middle name ≡ Some f → f ≡ made_file workers
  one_file f there = let is = made_there before middle name workers made in cc

  images_are : (images : List (List ℕ)) → HasImages middle name slot_size images → images ≡ images_for workers
  images_are images h = h.images_are ∙ ap (λ (f : File). map (λ (c : CellState). c.now) (slots_cut slot_size (bytes_of f))) (one_file h.was h.there)
      ∙ ap (λ (bytes : List ℕ). map (λ (c : CellState). c.now) (slots_cut slot_size bytes)) (same_bytes slot_size (bytes_for workers))

  behind : drop 16384 (bytes_for workers) ≡ zeros (slots_for workers * slot_size)
  behind = drop_at (header_of (geometry_of slot_size (slots_for workers))) (zeros (slots_for workers * slot_size)) 16384
      (whole (geometry_of slot_size (slots_for workers)))

  pub images_zeros : (images : List (List ℕ)) → HasImages middle name slot_size images → All AreZeros images
  images_zeros images h = subst (All AreZeros) (sym (images_are images h))
      (zeros_cut 0 _ slot_size (drop 16384 (bytes_for workers)) (subst AreZeros (sym behind) (are_zeros (slots_for workers * slot_size))))

  pub many : workers ≤ 32 → (images : List (List ℕ)) → HasImages middle name slot_size images → length images ≡ slots_for workers
  many few images h =
      let long = made_long same_bytes whole workers in
      let count = as_many 0 _ slot_size (drop 16384 (bytes_for workers)) in
      ap length (images_are images h) ∙ count ∙ omega (arith, long, few)

-- The answers of workers, without the numbers of their lines.

abbrev pub answers_alone : List (ℕ × Answer) → List Answer
answers_alone row = map (λ (numbered : ℕ × Answer). numbered.1) row

rows_joined : (rows : List (List (ℕ × Answer))) → answers_in rows ≡ all_of (map answers_alone rows)
rows_joined [] = refl
rows_joined (row ∷ rows) = ap (λ (rest : List Answer). answers_alone row ++ rest) (rows_joined rows)

-- workers that are answered as by plain stores, each but for versions, print the one line of these stores
pub line_of_all : (seed workers count : ℕ) (rows : List (List (ℕ × Answer)))
    → ((answered : List (List Answer)) → AreRenamed seed workers count answered → summary_of (all_of answered) ≡ summary_of (plain_answers seed workers count))
    → AreRenamed seed workers count (map answers_alone rows) → summary_line (summary_of (answers_in rows)) ≡ plain_line seed workers count
line_of_all seed workers count rows law alike =
    ap (λ (given : List Answer). summary_line (summary_of given)) (rows_joined rows) ∙ ap summary_line (law (map answers_alone rows) alike)
