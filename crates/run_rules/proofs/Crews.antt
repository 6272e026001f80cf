-- The workers of a run, as accounts say what they did and as lines that were printed.
use Rattle.std.proofs.Common.{Bool, List, [], ap, arith, map, min, refl, subst, sym, take, ◌++◌, ◌+◌, ◌-◌, ◌^◌, ◌∙◌, ◌∷◌, ◌≡◌, ◌≤◌, ℕ}
use Rattle.std.proofs.lemmas.List.{map-append}
use mathlib.Core.Option.{some}
use lib.ListN.{get_elem?}
use Rattle.rock_disk.specs.Cell.{CellState}
use Rattle.script_text.specs.declared.answer.Answer.{Answer}
use Rattle.script_text.specs.declared.line.Line.{Line}
use Rattle.script_text.specs.declared.request.Request.TheVariants.{Await}
use Rattle.line_account.specs.Answers.{Run}
use Rattle.line_account.specs.Closing.{Worker}
use Rattle.line_account.specs.Courses.{Stage as Told, lines_in}
use Rattle.line_account.specs.Parts.{IsCourseOf}
use Rattle.store_rule.specs.declared.store.Store.{Store}
use Rattle.store_rule.specs.Ground.{Offers}
use Rattle.worker_pool.specs.Courses.{Stage, lines_of}
use Rattle.worker_pool.specs.Running.{Account, answers_of}
use Rattle.store_serve.specs.Answers.{is_fault}
use Rattle.worker_shelf.specs.Shelves.{OnShelf}
use Rattle.crew_accounts.specs.Courses.{in_order}
use Rattle.crew_accounts.specs.Closings.{HasClosing, Played, crew_of, worker_of}
use Rattle.worker_shelf.specs.Playing.{HasSteps, IsPlayed, answer_to_await, fault_answers}
use Rattle.line_account.specs.Crews.{HasCourse, HaveCourses}
use Rattle.run_rules.specs.Runs.{AreCounted, AreMet, faults_in, printed_by}
use Rattle.run_rules.proofs.Lists.{beside, both, counted, image, one, same_images, there}

-- the number and the answer of a line
abbrev shown : Line × Answer → ℕ × Answer
shown p = (p.0.number, p.1)

-- the lines of a course, as they are printed
printed_lines : (stages : List (Told (List ℕ))) → printed_by (lines_in stages) ≡ map shown (in_order stages)
printed_lines [] = refl
printed_lines (x ∷ earlier) =
    ap (λ (zs : List (ℕ × Answer)). zs ++ (x.served.asked.number, x.served.answer) ∷ []) (printed_lines earlier)
    ∙ sym (map-append shown (in_order earlier) ((x.served.asked, x.served.answer) ∷ []))

module _ {C O St : Type 0} (r : Run (List ℕ)) (script : List Line) (accounts : List (Account (OnShelf C O St)))
    (h : HasClosing {C = C} {O = O} {St = St} r script accounts) where
  -- a worker of the crew has the course of its place
  pub record HasPlace (j : ℕ) (w : Worker) : Type 0 where
    pub course : Played (List ℕ)
    pub at : get_elem? h.courses j ≡ some course
    pub account : Account (OnShelf C O St)
    pub account_at : get_elem? accounts j ≡ some account
    pub is : worker_of course ≡ w

  place : (j : ℕ) (w : Worker) → get_elem? (crew_of h.courses) j ≡ some w → HasPlace j w
  place j w e =
      let i = image worker_of h.courses j w e in
      let a = beside accounts h.courses j i.item (sym h.count) i.at in
      record { course = i.item; at = i.at; account = a.item; account_at = a.at; is = i.is }

  course_at : (j : ℕ) (w : Worker) → HasPlace j w → HasCourse r w (h.closed.view_at j)
  course_at j w p = record {
    start = p.course.start;
    stages = p.course.stages;
    is = subst (λ v. IsCourseOf r w p.course.start p.course.stages v) (sym (h.views j p.course p.at))
        (subst (λ z. IsCourseOf r z p.course.start p.course.stages p.course.end) p.is ((h.each j p.account p.course p.account_at p.at).is));
  }

  pub have_courses : HaveCourses r (crew_of h.courses) h.closed.view_at
  unfolding place course_at
  have_courses = record {
    course = λ j w at. course_at j w (place j w at);
    meets = λ j l w u setter other m n mark in_m in_n sets awaits meets.
        let c = place j w setter in
        let d = place l u other in
        h.meets c.course d.course m n mark (there h.courses j c.course c.at) (there h.courses l d.course d.at) in_m in_n sets awaits meets;
  }

  -- and its lines are printed as the account has them
  pub printed : (answers : List (List (ℕ × Answer))) → map answers_of accounts ≡ answers
      → map (λ w. printed_by w.served) (crew_of h.courses) ≡ answers
  printed answers are =
      both worker_of (λ w. printed_by w.served) h.courses
      ∙ same_images (λ c. printed_by (lines_in c.stages)) answers_of h.courses accounts h.count
      (λ k c a at account_at. printed_lines c.stages ∙ ap (map shown) ((h.each k a c account_at at).lines)
      ∙ both (λ (x : Stage (OnShelf C O St)). (x.line, x.answer)) shown a.stages)
      ∙ are

module _ {C O St : Type 0} (tells : Bool) (state : C → CellState) (offers : O → Offers) (faults : St → ℕ) (s : Store C O)
    (script : List Line) (accounts : List (Account (OnShelf C O St)))
    (each : (j : ℕ) (a : Account (OnShelf C O St)) → get_elem? accounts j ≡ some a → IsPlayed tells state offers faults s script j a) where
  -- each `await` is answered by the script
  stage_met : (j k place mark number : ℕ) (line : Line) (answer : Answer) (a : Account (OnShelf C O St)) → get_elem? accounts j ≡ some a
      → get_elem? (lines_of (j + 1) script) k ≡ some (place, line) → get_elem? (answers_of a) k ≡ some (number, answer)
      → line.request ≡ Await mark → answer ≡ answer_to_await (take place script) mark
  stage_met j k place mark number line answer a at mine told asks =
      let p = each j a at in
      let x = image (λ (x : Stage (OnShelf C O St)). (x.place, x.line)) a.stages k (place, line)
      (ap (λ ls. get_elem? ls k) p.each ∙ mine) in
      let y = image (λ (x : Stage (OnShelf C O St)). (x.line.number, x.answer)) a.stages k (number, answer) told in
      let same : x.item ≡ y.item = one a.stages k x.item y.item x.at y.at in
      let line_is : x.item.line ≡ line = ap (λ q. q.1) x.is in
      let place_is : x.item.place ≡ place = ap (λ q. q.0) x.is in
      let answer_is : x.item.answer ≡ answer = ap Stage.answer same ∙ ap (λ q. q.1) y.is in
      sym answer_is ∙ p.awaits x.item (there a.stages k x.item x.at) mark (ap Line.request line_is ∙ asks)
      ∙ ap (λ n. answer_to_await (take n script) mark) place_is

  pub met : (answers : List (List (ℕ × Answer))) → map answers_of accounts ≡ answers → AreMet script answers
  met answers are j k place mark number line answer mine at of_script told asks =
      let i = image answers_of accounts j mine (ap (λ z. get_elem? z j) are ∙ at) in
      stage_met j k place mark number line answer i.item i.at of_script (ap (λ z. get_elem? z k) i.is ∙ told) asks

  -- each FAULT is counted by the station
  module _ (counts : (a : Account (OnShelf C O St)) → HasSteps tells state offers faults a
      → min (faults a.start.station + fault_answers a) (2 ^ 64 - 1) ≤ faults a.end.station) where
    fault_counted : (j : ℕ) (a : Account (OnShelf C O St)) → get_elem? accounts j ≡ some a
        → min (faults_in (answers_of a)) (2 ^ 64 - 1) ≤ faults a.end.station
    fault_counted j a at =
        let p = each j a at in
        let same : faults_in (answers_of a) ≡ fault_answers a = counted (λ (x : Stage (OnShelf C O St)). (x.line.number, x.answer))
        (λ q. is_fault q.1) a.stages in
        let most = counts a p.has_steps in
        let n = faults a.start.station in
        let f = fault_answers a in
        subst (λ z. min z (2 ^ 64 - 1) ≤ faults a.end.station) (sym same) (omega (arith, most))

    pub are_counted : (answers : List (List (ℕ × Answer))) (stations : List St) → map answers_of accounts ≡ answers
        → map (λ a. a.end.station) accounts ≡ stations → AreCounted answers (map faults stations)
    are_counted answers stations are stations_are j count mine at there_at =
        let i = image answers_of accounts j mine (ap (λ z. get_elem? z j) are ∙ at) in
        let t = image faults stations j count there_at in
        let e = image (λ (a : Account (OnShelf C O St)). a.end.station) accounts j t.item (ap (λ z. get_elem? z j) stations_are ∙ t.at) in
        let same : i.item ≡ e.item = one accounts j i.item e.item i.at e.at in
        let count_is : faults i.item.end.station ≡ count = ap (λ (a : Account (OnShelf C O St)). faults a.end.station) same ∙ ap faults e.is
        ∙ t.is in
        subst (λ z. min (faults_in z) (2 ^ 64 - 1) ≤ count) i.is (subst (λ n. min (faults_in (answers_of i.item)) (2 ^ 64 - 1) ≤ n) count_is
        (fault_counted j i.item i.at))
