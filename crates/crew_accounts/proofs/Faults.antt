-- The answers that tell a fault, and the count of a station.
use Rattle.std.proofs.Common.{Bool, Contains, List, [], ap, arith, false, inl, inr, refl, sym, true, ◌+◌, ◌-◌, ◌^◌, ◌∙◌, ◌∷◌, ◌≡◌, ◌≤◌, ℕ}
use Rattle.std.specs.Prelude.{cond, count_by, min}
use Rattle.std.proofs.lemmas.List.Sums.{sum_by-cons}
use Rattle.rock_disk.specs.Cell.{CellState}
use Rattle.script_text.specs.declared.answer.Answer.{Answer}
use Rattle.script_text.specs.declared.request.Request.{Request}
use Rattle.script_text.specs.declared.request.Request.TheVariants.{Await, Mark}
use Rattle.store_rule.specs.Ground.{Offers}
use Rattle.worker_pool.specs.Courses.{Linked, Stage}
use Rattle.store_serve.specs.Answers.{TellsFaults, is_fault}
use Rattle.worker_shelf.specs.Shelves.{OnShelf}
use Rattle.worker_shelf.specs.Playing.{IsStep, StepOn}
use Rattle.crew_accounts.proofs.Counting.{rises}
use Rattle.crew_accounts.proofs.CrewLists.{behind, first}

module _ {C O St : Type 0} (tells : Bool) (state : C → CellState) (offers : O → Offers) (faults : St → ℕ) where
  -- a line tells of the count of its station, at a mark that it stays
  quiet : (a : Answer) (before after : St) → is_fault a ≡ false → after ≡ before → TellsFaults a (faults before) (faults after)
  quiet a before after none is = record { rose = λ tells. absurd (let clash : false ≡ true = sym none ∙ tells in cc); same = λ n. ap faults is }

  told : (x : Stage (OnShelf C O St)) (request : Request) → StepOn tells state offers faults request x.before x.line x.answer x.after → TellsFaults x.answer (faults x.before.station) (faults x.after.station)
  told x (Mark mark) step = quiet x.answer x.before.station x.after.station (ap is_fault step.0) step.1.noted.station
  told x (Await mark) (inl met) = quiet x.answer x.before.station x.after.station (ap is_fault met.0) (met.1.notes.station ∙ met.1.learns.station)
  told x (Await mark) (inr unmet) = quiet x.answer x.before.station x.after.station (ap is_fault unmet.0) (ap OnShelf.station unmet.1)
  told x _ step = step.serves.faults

  abbrev fault_of : Stage (OnShelf C O St) → Bool
  fault_of x = is_fault x.answer

  count_first : (x : Stage (OnShelf C O St)) (stages : List (Stage (OnShelf C O St))) → count_by fault_of (x ∷ stages) ≡ cond (fault_of x) 1 0 + count_by fault_of stages
  count_first x stages = sum_by-cons (λ y. cond (fault_of y) 1 0) x stages

  -- after one line and those behind it
  one_line : (most : ℕ) (b : Bool) (before between after more : ℕ) → (b ≡ true → min (before + 1) most ≤ between) → (b ≡ false → between ≡ before) → min (between + more) most ≤ after
      → min (before + (cond b 1 0 + more)) most ≤ after
  one_line most true before between after more rose same rest = rises most before between after more (rose refl) rest
  one_line most false before between after more rose same rest = let e = same refl in omega (arith, e, rest)

  pub risen : (stages : List (Stage (OnShelf C O St))) (start last : OnShelf C O St) → Linked start stages last → ((x : Stage (OnShelf C O St)) → Contains stages x → IsStep tells state offers faults x)
      → min (faults start.station + count_by fault_of stages) (2 ^ 64 - 1) ≤ faults last.station
  risen [] start last linked steps = let e = ap (λ (z : OnShelf C O St). faults z.station) linked in omega (arith, e)
  risen (x ∷ stages) start last linked steps =
      let t = told x x.line.request (steps x (first x stages)) in
      let rest = risen stages x.after last linked.1 (λ y h. steps y (behind x stages y h)) in
      let all = one_line (2 ^ 64 - 1) (fault_of x) (faults x.before.station) (faults x.after.station) (faults last.station) (count_by fault_of stages) t.rose t.same rest in
      let from = ap (λ (z : OnShelf C O St). faults z.station) linked.0 in
      let count = count_first x stages in
      omega (arith, all, from, count)

  no_first : (b : Bool) (more : ℕ) → cond b 1 0 + more ≡ 0 → b ≡ false
  no_first true more e = absurd (omega (arith, e))
  no_first false more e = refl

  no_more : (b : Bool) (more : ℕ) → cond b 1 0 + more ≡ 0 → more ≡ 0
  no_more b more e = omega (arith, e)

  pub stays : (stages : List (Stage (OnShelf C O St))) (start last : OnShelf C O St) → Linked start stages last → ((x : Stage (OnShelf C O St)) → Contains stages x → IsStep tells state offers faults x)
      → count_by fault_of stages ≡ 0 → faults last.station ≡ faults start.station
  stays [] start last linked steps none = ap (λ (z : OnShelf C O St). faults z.station) linked
  stays (x ∷ stages) start last linked steps none =
      let t = told x x.line.request (steps x (first x stages)) in
      let all = sym (count_first x stages) ∙ none in
      stays stages x.after last linked.1 (λ y h. steps y (behind x stages y h)) (no_more (fault_of x) (count_by fault_of stages) all)
      ∙ t.same (no_first (fault_of x) (count_by fault_of stages) all)
      ∙ ap (λ (z : OnShelf C O St). faults z.station) linked.0
