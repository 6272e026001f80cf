-- How the counts of a volume stand after an opening and after a run.
use Rattle.std.proofs.Common.{List, [], ap, append_assoc, arith, inl, inr, length, subst, sym, ◌+◌, ◌++◌, ◌∙◌, ◌∷◌, ◌≡◌, ℕ, ⊎_elim}
use Rattle.std.proofs.lemmas.List.{append_cancel_left}
use Rattle.rock_io.specs.Faults.{Rose}
use Rattle.db_layout.specs.Layout.{IsSlotSize}
use Rattle.rock_disk.specs.File.{Files}
use Rattle.rock_open.specs.declared.fault.OpenStoreFault.{OpenStoreFault}
use Rattle.rock_open.specs.declared.fault.OpenStoreFault.TheVariants.{BadGeometry, Failed, Memory, Missing, Small}
use Rattle.rock_disk.specs.Counts.{Counts, HasFailed, EachEnded, NoneFailed, NoStation, OneStation}
use Rattle.rock_open.specs.Opening.{FileSays, IsPasses, OpeningEnds, ReadingEnds}
use Rattle.rock_run.specs.Device.{RunEnded, HasEnded, RunFailed, RunUnfailed, RunEnds, ServingEnds, StartingEnds}

-- lists with the same front go on with the same
first_same : (front : List ℕ) (x y : ℕ) (xs ys : List ℕ) → front ++ x ∷ xs ≡ front ++ y ∷ ys → x ≡ y
first_same front x y xs ys e = ap head (append_cancel_left front (x ∷ xs) (y ∷ ys) e)
  where
    head : List ℕ → ℕ
    head [] = x
    head (z ∷ zs) = z

module _ (before after : Counts) where
  -- one station is that of the rebuild, with none of workers
  alone : (count : ℕ) → OneStation count before after → HasEnded count [] before after
  alone count one = record { made = one.made ∙ omega arith; ended = one.ended }

  no_worker : (rebuild : ℕ) (workers : List ℕ) → HasEnded rebuild workers before after → NoStation before after → ⊥
  no_worker rebuild workers h none = let m = h.made in let n = none.made in absurd (omega (arith, m, n))

  pub ended_alone : EachEnded before after → RunEnded before after
  ended_alone (inl none) = inl none
  ended_alone (inr one) = inr (one.0, [], alone one.0 one.1)

  failed_alone : HasFailed before after → RunFailed before after
  failed_alone (inl rose) = inl rose
  failed_alone (inr one) = inr (one.0, [], alone one.0 one.1, one.2)

  -- how an opening was refused is how a run is
  pub starting : (slot anchors : ℕ) (fault : OpenStoreFault) → ReadingEnds slot anchors before after fault → StartingEnds slot anchors before after fault
  starting slot anchors (BadGeometry field) h = h
  starting slot anchors Missing h = h
  starting slot anchors (Small bytes) h = h
  starting slot anchors Failed h = failed_alone h
  starting slot anchors Memory h = h

  pub ends_alone : (slot anchors workers : ℕ) (fault : OpenStoreFault) → OpeningEnds slot anchors workers before after fault → RunEnds slot anchors workers before after fault
  ends_alone slot anchors workers (BadGeometry field) h = h
  ends_alone slot anchors workers Missing h = h
  ends_alone slot anchors workers (Small bytes) h = h
  ends_alone slot anchors workers Failed h = (h.0, h.1, failed_alone h.2)
  ends_alone slot anchors workers Memory h = h

  one_is_all : (count rebuild : ℕ) (workers : List ℕ) → OneStation count before after → HasEnded rebuild workers before after → OneStation rebuild before after
  one_is_all count rebuild [] one h = record { made = one.made; ended = h.ended }
  one_is_all count rebuild (w ∷ workers) one h = let m = one.made in let n = h.made in absurd (omega (arith, m, n))

  -- where no call failed, the station of the rebuild was ended with none
  pub unfailed_alone : EachEnded before after → NoneFailed before after → RunUnfailed before after
  unfailed_alone ended h = record {
    faults = h.faults;
    station = λ rebuild workers all. ⊎_elim (λ none. absurd (no_worker rebuild workers all none)) (λ one. h.station rebuild (one_is_all one.0 rebuild workers one.1 all)) ended;
  }

-- Stations of workers were made and ended after the opening.
module _ (before opened after : Counts) (counts : List ℕ) (one : OneStation 0 before opened) (made : after.made ≡ opened.made + length counts) (ended : after.ended ≡ opened.ended ++ counts) where
  pub all_ended : HasEnded 0 counts before after
  all_ended = record {
    made = let m = one.made in omega (arith, made, m);
    ended = ended ∙ ap (λ (xs : List ℕ). xs ++ counts) one.ended ∙ append_assoc before.ended (0 ∷ []) counts;
  }

  pub none_failed : opened.faults ≡ before.faults → after.faults ≡ opened.faults → RunUnfailed before after
  none_failed first then = record { faults = then ∙ first; station = λ rebuild workers all. first_same before.ended rebuild 0 workers counts (sym all.ended ∙ all_ended.ended) }

  pub ends_serving : (slot anchors workers : ℕ) (fault : OpenStoreFault) → IsSlotSize slot → IsPasses workers → opened.faults ≡ before.faults → ServingEnds opened.faults after.faults fault → RunEnds slot anchors workers before after fault
  ends_serving slot anchors workers (BadGeometry field) size passes first h = absurd h
  ends_serving slot anchors workers Missing size passes first h = absurd h
  ends_serving slot anchors workers (Small bytes) size passes first h = absurd h
  ends_serving slot anchors workers Failed size passes first h = (size, passes, inl (subst (λ (n : ℕ). Rose n after.faults) first h))
  ends_serving slot anchors workers Memory size passes first h = (size, passes, tt)

-- What a refusal of serving says of the file is nothing.
pub says_serving : (before after : ℕ) (files : Files) (name : List ℕ) (slot anchors : ℕ) (fault : OpenStoreFault) → ServingEnds before after fault → FileSays files name slot anchors fault
says_serving before after files name slot anchors (BadGeometry field) h = absurd h
says_serving before after files name slot anchors Missing h = absurd h
says_serving before after files name slot anchors (Small bytes) h = absurd h
says_serving before after files name slot anchors Failed h = tt
says_serving before after files name slot anchors Memory h = tt
