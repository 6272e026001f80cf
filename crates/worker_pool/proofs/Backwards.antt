-- Workers that serve backwards.
use Rattle.std.proofs.Common.{◌≡◌, ℕ, ◌+◌, ◌-◌, ◌<◌, List, length, reverse, sym, ap, ◌∙◌, subst, arith, get_or}
use Rattle.std.proofs.lemmas.List.{get_or-reverse, length-reverse}
use Rattle.script_text.specs.declared.line.Line.{Line}
use Rattle.script_text.specs.declared.shelf.Shelf.{Ghosts}
use Rattle.marks.specs.declared.places.Marks.{Marks}
use Rattle.worker_pool.specs.declared.notes.Of.{Of}
use Rattle.worker_pool.specs.declared.worker.Worker.{Worker}
use Rattle.worker_pool.specs.Courses.{At}
use Rattle.worker_pool.specs.Crews.{AreEnded}
use Rattle.worker_pool.proofs.Places.{at_same}

module _ {X : Type 0} where
  -- what stands at a place of a list stands as far from the end of the list backwards
  pub at_reversed : (xs : List X) (j k : ℕ) (x : X) → j + k + 1 ≡ length xs → At xs j x → At (reverse xs) k x
  at_reversed xs j k x e a =
      let same : length (reverse xs) ≡ length xs = length-reverse xs in
      let lt : k < length xs = omega arith in
      let place : length xs - 1 - k ≡ j = omega arith in
      (omega arith, get_or-reverse xs k x lt ∙ (ap (λ (n : ℕ). get_or xs n x) place ∙ a.1))

  pub reversed_at : (xs : List X) (j k : ℕ) (x : X) → j + k + 1 ≡ length xs → At (reverse xs) k x → At xs j x
  reversed_at xs j k x e a =
      let lt : k < length xs = omega arith in
      let place : length xs - 1 - k ≡ j = omega arith in
      (omega arith, sym (get_or-reverse xs k x lt ∙ ap (λ (n : ℕ). get_or xs n x) place) ∙ a.1)

  pub from_reversed : (xs ys : List X) (k : ℕ) (x : X) → ys ≡ reverse xs → At ys k x → At xs (length xs - 1 - k) x
  from_reversed xs ys k x e a =
      let here : At (reverse xs) k x = at_same ys (reverse xs) k x e a in
      let same : length (reverse xs) ≡ length xs = length-reverse xs in
      let within : k < length (reverse xs) = here.0 in
      reversed_at xs (length xs - 1 - k) k x (omega arith) here

module _ {H N : Type 0} (g : Ghosts H N) where
  -- workers that were turned round, served, and were turned round again
  pub ended_backwards : (marks : Marks N (Of H) H) (lines : List Line) (before turned served after : List (Worker H N))
      → turned ≡ reverse before → after ≡ reverse served → AreEnded g marks lines turned served → AreEnded g marks lines before after
  ended_backwards marks lines before turned served after e f h =
      let ended : AreEnded g marks lines (reverse before) served = subst (λ (ws : List (Worker H N)). AreEnded g marks lines ws served) e h in
      let same : length served ≡ length before = ended.count ∙ length-reverse before in
      record {
        count = ap length f ∙ (length-reverse served ∙ same);
        each = λ w x y was is.
            let within : w < length before = was.0 in
            let here : At (reverse served) w y = at_same after (reverse served) w y f is in
            ended.each (length before - 1 - w) x y
            (at_reversed before w (length before - 1 - w) x (omega arith) was)
            (reversed_at served (length before - 1 - w) w y (omega arith) here);
      }
