-- The stages of a course are those of its worker, so what the marks hand on is handed on between courses.
use Rattle.std.proofs.Common.{Contains, List, [], ap, arith, inl, inr, map, subst, sym, take, ◌++◌, ◌∙◌, ◌∷◌, ◌≡◌, ◌⊎◌, ℕ}
use Rattle.std.proofs.lemmas.List.Elements.{Contains-append_left, Contains-append_right}
use mathlib.Core.Option.{some, some-injective}
use lib.ListN.{get_elem?}
use Rattle.script_text.specs.declared.answer.Answer.{Answer}
use Rattle.script_text.specs.declared.answer.Answer.TheVariants.{Met}
use Rattle.script_text.specs.declared.line.Line.{Line}
use Rattle.script_text.specs.declared.request.Request.TheVariants.{Await, Mark}
use Rattle.core_model.specs.declared.view.View.{View}
use Rattle.core_model.proofs.Lists.{cons_contains, contains_none}
use Rattle.core_model.proofs.SlotsOpened.{contains_map}
use Rattle.line_account.specs.Courses.{Stage as Told}
use Rattle.line_account.specs.Order.{HandsOver}
use Rattle.worker_pool.specs.Courses.{Stage, lines_of}
use Rattle.worker_pool.specs.Running.{Account}
use Rattle.worker_shelf.specs.Shelves.{OnShelf}
use Rattle.crew_accounts.specs.Courses.{in_order, stage_shown, with_views}
use Rattle.worker_shelf.specs.Playing.{TellsAtMarks, answer_to_await}
use Rattle.crew_accounts.proofs.CrewLists.{image, there}

-- a line of an account is shown with its views
abbrev shown : {X : Type 0} → Told X → View X × Line × Answer × View X
shown m = (m.before, m.served.asked, m.served.answer, m.after)

is_shown : {X : Type 0} → (course : List (Told X)) (m : Told X) → Contains course m → Contains (with_views course) (shown m)
is_shown [] m h = absurd (contains_none m h)
is_shown (x ∷ earlier) m h = either (cons_contains x m earlier h) (is_shown earlier m)
  where
    either : (x ≡ m) ⊎ Contains earlier m → (Contains earlier m → Contains (with_views earlier) (shown m)) → Contains (with_views earlier ++ shown x ∷ []) (shown m)
    either (inl e) rest = Contains-append_right (with_views earlier) (shown x ∷ []) (shown m) (0, omega arith, ap shown e)
    either (inr h) rest = Contains-append_left (with_views earlier) (shown x ∷ []) (shown m) (rest h)

module _ {C O St : Type 0} where
  -- a line of the course is a stage of the worker
  record IsStageOf (stages : List (Stage (OnShelf C O St))) (m : Told (List ℕ)) : Type 0 where
    pub stage : Stage (OnShelf C O St)
    pub among : Contains stages stage
    pub is : stage_shown stage ≡ shown m

  stage_of : (stages : List (Stage (OnShelf C O St))) (course : List (Told (List ℕ))) → with_views course ≡ map stage_shown stages → (m : Told (List ℕ)) → Contains course m → IsStageOf stages m
  stage_of stages course views m h =
      let s = contains_map stage_shown stages (shown m) (subst (λ (xs : List (View (List ℕ) × Line × Answer × View (List ℕ))). Contains xs (shown m)) views (is_shown course m h)) in
      record { stage = s.0; among = s.1; is = s.2 }

  pub hands_over : (a b : Account (OnShelf C O St)) (c d : List (Told (List ℕ))) → with_views c ≡ map stage_shown a.stages → with_views d ≡ map stage_shown b.stages → TellsAtMarks a b
      → (m n : Told (List ℕ)) (mark : ℕ) → Contains c m → Contains d n → m.served.asked.request ≡ Mark mark → n.served.asked.request ≡ Await mark → n.served.answer ≡ Met → HandsOver m n
  hands_over a b c d c_is d_is tells m n mark has_m has_n sets awaits met =
      let x = stage_of a.stages c c_is m has_m in
      let y = stage_of b.stages d d_is n has_n in
      record {
        number = mark;
        sets = sets;
        awaits = awaits;
        meets = met;
        hands = λ sight seen.
            subst (λ (v : View (List ℕ)). Contains v.seen sight) (ap (λ t. t.3) y.is)
            (tells x.stage y.stage mark x.among y.among (ap (λ t. t.1.request) x.is ∙ sets) (ap (λ t. t.1.request) y.is ∙ awaits) (ap (λ t. t.2) y.is ∙ met) sight
            (subst (λ (v : View (List ℕ)). Contains v.seen sight) (sym (ap (λ t. t.0) x.is)) seen));
      }

  -- `await` is answered by the script
  pub awaited : (w : ℕ) (script : List Line) (stages : List (Stage (OnShelf C O St))) (course : List (Told (List ℕ))) → map (λ x. (x.place, x.line)) stages ≡ lines_of w script
      → in_order course ≡ map (λ x. (x.line, x.answer)) stages
      → ((x : Stage (OnShelf C O St)) → Contains stages x → (mark : ℕ) → x.line.request ≡ Await mark → x.answer ≡ answer_to_await (take x.place script) mark)
      → (k place mark : ℕ) (line : Line) (answer : Answer) → get_elem? (lines_of w script) k ≡ some (place, line) → get_elem? (in_order course) k ≡ some (line, answer) → line.request ≡ Await mark
      → answer ≡ answer_to_await (take place script) mark
  awaited w script stages course each told awaits k place mark line answer at_place at_answer is =
      let p = image (λ x. (x.place, x.line)) stages k (place, line) (ap (λ xs. get_elem? xs k) each ∙ at_place) in
      let t = image (λ x. (x.line, x.answer)) stages k (line, answer) (ap (λ xs. get_elem? xs k) (sym told) ∙ at_answer) in
      let same = some-injective t.item p.item (sym t.at ∙ p.at) in
      sym (ap (λ y. y.1) t.is)
      ∙ ap Stage.answer same
      ∙ awaits p.item (there stages k p.item p.at) mark (ap (λ y. y.1.request) p.is ∙ is)
      ∙ ap (λ n. answer_to_await (take n script) mark) (ap (λ y. y.0) p.is)
