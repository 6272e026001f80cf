-- Each worker of a benchmark is alone at its anchors, and so it is answered as by a plain store of its own.
use Rattle.std.proofs.Common.{All, Contains, IsTrue, List, [], ap, arith, inr, length, length-append, map, refl, subst, suc, sym, true, zero, ◌+◌, ◌++◌}
use Rattle.std.proofs.Common.{◌<◌, ◌==◌, ◌∙◌, ◌∷◌, ◌≡◌, ◌≤◌, ◌⊎◌, ⊎_elim, ℕ, Bool, cond, false}
use Rattle.std.specs.Prelude.{count_by, slice_index_or}
use Rattle.std.specs.List.{filter}
use Rattle.std.proofs.lemmas.Bool.{eqb-true}
use Rattle.std.proofs.lemmas.List.{length-map}
use Rattle.std.proofs.lemmas.List.Elements.{All-head, All-tail}
use mathlib.Core.Option.{some, some-injective, some-ne-none}
use lib.ListN.{get_elem?}
use Rattle.rock_disk.specs.Counts.{Counts}
use Rattle.rock_disk.specs.File.{Files}
use Rattle.script_text.specs.declared.answer.Answer.{Answer}
use Rattle.script_text.specs.declared.line.Line.{Line}
use Rattle.plain_model.specs.declared.store.Plain.{Plain}
use Rattle.plain_model.specs.declared.store.Setting.{Setting}
use Rattle.plain_model.specs.Opening.{IsOpened}
use Rattle.plain_model.specs.Serving.{answers as plain_answers_to, fresh, lines_for}
use Rattle.entry_cut.specs.Content.{room_of}
use Rattle.plain_laws.specs.Fitting.{Fits}
use Rattle.plain_laws.specs.Private.{IsServedAlone, answers_to, is_private, private_lines}
use Rattle.plain_laws.specs.Renaming.{renamed}
use Rattle.run_rules.proofs.TabsApart.{alone_apart}
use Rattle.run_rules.specs.Fitting.{FitsInto}
use Rattle.run_rules.specs.Private.{AreAnsweredAlone, OpensWithRoom}
use Rattle.run_rules.specs.Runs.{IsExplained}
use Rattle.workload.specs.Script.{bench_lines}
use Rattle.bench_laws.specs.Plain.{AreRenamed, IsRenamed, answers_to_one}
use Rattle.bench_laws.specs.Setting.{setting_for, store_for}
use Rattle.bench_command.specs.Numbers.{anchors_for, slot_size, slots_for}
use Rattle.bench_command.specs.Plain.{NoWorkerFailed}
use Rattle.bench_command.specs.Stations.{made_counts}
use Rattle.bench_command.proofs.Plain.{AreZeros, answers_alone}

-- Lists by their places.

-- what stands at a place of a list
record StandsAt {A : Type 0} (xs : List A) (k : ℕ) : Type 0 where
  item : A
  at : get_elem? xs k ≡ some item

stands_at : {A : Type 0} (xs : List A) (k : ℕ) → k < length xs → StandsAt xs k
stands_at [] k lt = absurd (omega arith)
stands_at (x ∷ xs) zero lt = record { item = x; at = refl }
stands_at (x ∷ xs) (suc k) lt = let rest = stands_at xs k (omega arith) in record { item = rest.item; at = rest.at }

mapped : {A B : Type 0} (f : A → B) (xs : List A) (k : ℕ) (x : A) → get_elem? xs k ≡ some x → get_elem? (map f xs) k ≡ some (f x)
mapped f [] k x e = absurd (some-ne-none x (sym e))
mapped f (y ∷ xs) zero x e = ap (λ z. some (f z)) (some-injective y x e)
mapped f (y ∷ xs) (suc k) x e = mapped f xs k x e

-- the image of it stands at the same place of the list of images
image_there : {A : Type 0} (f : A → List Answer) (xs : List A) (k : ℕ) (x : A) → get_elem? xs k ≡ some x → slice_index_or (map f xs) k [] ≡ f x
image_there f [] k x e = absurd (some-ne-none x (sym e))
image_there f (y ∷ xs) zero x e = ap f (some-injective y x e)
image_there f (y ∷ xs) (suc k) x e = image_there f xs k x e

all_zero : (xs : List ℕ) (k : ℕ) → All (λ n. n ≡ 0) xs → k < length xs → get_elem? xs k ≡ some 0
all_zero [] k zeros lt = absurd (omega arith)
all_zero (x ∷ xs) zero zeros lt = ap some (All-head (λ n. n ≡ 0) x xs zeros)
all_zero (x ∷ xs) (suc k) zeros lt = all_zero xs k (All-tail (λ n. n ≡ 0) x xs zeros) (omega arith)

-- a line of a worker is one of the lines, and its worker is that one
record IsOfWorker (lines : List Line) (worker : ℕ) (line : Line) : Type 0 where
  among : Contains lines line
  is : line.worker ≡ worker

of_worker : (worker : ℕ) (lines : List Line) (line : Line) → Contains (lines_for worker lines) line → IsOfWorker lines worker line
of_worker worker [] line (k, lt, e) = absurd (omega arith)
of_worker worker (x ∷ xs) line among = by_test (x.worker == worker) refl (of_worker worker xs line) among
  where
    behind : IsOfWorker xs worker line → IsOfWorker (x ∷ xs) worker line
    behind h = record { among = (suc h.among.0, (let lt = h.among.1 in omega (arith, lt)), h.among.2); is = h.is }

    by_test : (b : Bool) → (x.worker == worker) ≡ b → (Contains (lines_for worker xs) line → IsOfWorker xs worker line)
        → Contains (cond b (x ∷ lines_for worker xs) (lines_for worker xs)) line → IsOfWorker (x ∷ xs) worker line
    by_test true t rest (zero, lt, e) = record { among = (0, omega arith, e); is = ap Line.worker (sym e) ∙ eqb-true x.worker worker t }
    by_test true t rest (suc k, lt, e) = behind (rest (k, omega arith, e))
    by_test false t rest c = behind (rest c)

-- the store of a benchmark over so many slots
abbrev pub setting_of : (workers slots : ℕ) → Setting
setting_of workers slots = record { slots = slots; room = room_of slot_size; anchors = anchors_for workers }

-- What laws say of the lines of a benchmark.
pub record BenchLaws (seed workers count : ℕ) : Type 0 where
  pub private : (line : Line) → Contains (bench_lines seed workers count) line
      → IsTrue (is_private (setting_for workers) (bench_lines seed workers count) line.worker line)
  pub renamed : (worker : ℕ) (rename : ℕ → ℕ) (given : List Answer) → length given ≡ length (lines_for worker (bench_lines seed workers count))
      → answers_to (is_private (setting_for workers) (bench_lines seed workers count) worker) (lines_for worker (bench_lines seed workers count)) given
      ≡ map (renamed rename) (plain_answers_to (setting_for workers) (bench_lines seed workers count)
      (private_lines (setting_for workers) (bench_lines seed workers count) worker) (store_for workers))
      → IsRenamed given (answers_to_one seed workers count worker)
  pub fit : Fits (setting_for workers) (bench_lines seed workers count) (store_for workers)
  pub new : (images : List (List ℕ)) (p : Plain) → All AreZeros images → IsOpened slot_size images (anchors_for workers) p → p ≡ fresh (anchors_for workers)
  pub unwritten : (images : List (List ℕ)) → All AreZeros images
      → Fits (setting_of workers (length images)) (bench_lines seed workers count) (fresh (anchors_for workers))
      → FitsInto slot_size (anchors_for workers) images (bench_lines seed workers count)

module _ (seed workers count : ℕ) (laws : BenchLaws seed workers count) (volume_tells : Bool) (files left : Files) (name : List ℕ)
    (answers : List (List (ℕ × Answer))) (before after : Counts)
    (explained : IsExplained volume_tells files name slot_size (anchors_for workers) workers (bench_lines seed workers count) answers (made_counts before) after)
    (last : ℕ → ℕ) (private : AreAnsweredAlone files left name slot_size (anchors_for workers) workers (bench_lines seed workers count) answers (made_counts before) after last)
    (zeros : All AreZeros private.images) (slots : length private.images ≡ slots_for workers) (none : NoWorkerFailed before after) where
  abbrev script : List Line
  script = bench_lines seed workers count

  -- the store that is opened on the file is that of a benchmark
  setting_is : setting_of workers (length private.images) ≡ setting_for workers
  setting_is = ap (setting_of workers) slots

  store_is : private.plain ≡ store_for workers
  store_is = laws.new private.images private.plain zeros private.opened

  with_room : OpensWithRoom files name slot_size (anchors_for workers) script private.images private.plain
  with_room = record {
    file = private.file;
    opened = private.opened;
    slots = laws.unwritten private.images zeros (subst (λ (s : Setting). Fits s script (store_for workers)) (sym setting_is) laws.fit);
    versions = (let versions = laws.fit.versions in let counter = ap Plain.counter store_is in omega (arith, versions, counter));
  }

  module _ (j : ℕ) (small : j < workers) where
    row : StandsAt answers j
    row = stands_at answers j (let n = private.many in omega (arith, n, small))

    -- the worker has an answer to each of its lines
    each_answered : length (answers_alone row.item) ≡ length (lines_for (j + 1) script)
    each_answered = length-map row.item (λ (numbered : ℕ × Answer). numbered.1) ∙ private.counted j row.item row.at

    -- its station met no fault
    station : get_elem? explained.stations j ≡ some 0
    station = all_zero explained.stations j (none explained.stations explained.ended) (let n = explained.many in omega (arith, n, small))

    served : IsServedAlone (setting_of workers (length private.images)) script (j + 1) private.plain (answers_alone row.item)
    served = (private.each explained.stations explained.ended j row.item row.at station private.images private.plain with_room
        (λ tab. alone_apart (setting_of workers (length private.images)) script (j + 1) tab
        (λ line mine. let own = of_worker (j + 1) script line mine in
        inr (subst (λ (w : ℕ). is_private (setting_of workers (length private.images)) script w line ≡ true) own.is
        (subst (λ (s : Setting). is_private s script line.worker line ≡ true) (sym setting_is) (laws.private line own.among)))))).served

    renamed_row : IsRenamed (answers_alone row.item) (answers_to_one seed workers count (j + 1))
    renamed_row = laws.renamed (j + 1) served.rename (answers_alone row.item) each_answered
        subst_answered
      where
        subst_answered : answers_to (is_private (setting_for workers) script (j + 1)) (lines_for (j + 1) script) (answers_alone row.item)
            ≡ map (renamed served.rename) (plain_answers_to (setting_for workers) script (private_lines (setting_for workers) script (j + 1)) (store_for workers))
        subst_answered = subst (λ (s : Setting). answers_to (is_private s script (j + 1)) (lines_for (j + 1) script) (answers_alone row.item)
            ≡ map (renamed served.rename) (plain_answers_to s script (private_lines s script (j + 1)) (store_for workers))) setting_is
            (subst (λ (p : Plain). answers_to (is_private (setting_of workers (length private.images)) script (j + 1)) (lines_for (j + 1) script) (answers_alone row.item)
            ≡ map (renamed served.rename) (plain_answers_to (setting_of workers (length private.images)) script
            (private_lines (setting_of workers (length private.images)) script (j + 1)) p)) store_is served.answered)

  pub all_renamed : AreRenamed seed workers count (map answers_alone answers)
  all_renamed = record {
    many = length-map answers answers_alone ∙ private.many;
    each = λ j small. subst (λ (given : List Answer). IsRenamed given (answers_to_one seed workers count (j + 1)))
        (sym (image_there answers_alone answers j (row j small).item (row j small).at)) (renamed_row j small);
  }
