-- Lines of which a worker knew, as stages of courses: what was known after them is known to the worker.
use Rattle.std.proofs.Common.{Contains, List, [], subst, sym, ◌∷◌, ◌≡◌, ℕ}
use Rattle.std.proofs.lemmas.List.Elements.{Contains-append_right}
use mathlib.Core.Option.{some}
use lib.ListN.{get_elem?}
use Rattle.core_model.specs.declared.view.Sight.{Sight}
use Rattle.core_model.specs.declared.view.View.{View}
use Rattle.script_text.specs.declared.answer.Answer.TheVariants.{Met}
use Rattle.script_text.specs.declared.request.Request.TheVariants.{Await, Mark}
use Rattle.line_account.specs.Answers.{Run}
use Rattle.line_account.specs.Closing.{LineIn, Worker}
use Rattle.line_account.specs.Courses.{Adds, Course, Stage, lines_in}
use Rattle.line_account.specs.Crews.{HaveCourses, KnewOf}
use Rattle.line_account.specs.Crews.KnewOf.{own, told}
use Rattle.line_account.specs.Lines.{Served}
use Rattle.line_account.specs.Order.{HandsOver, StandsIn}
use Rattle.line_account.proofs.Ordering.{stage_in}
use Rattle.line_account.proofs.Stages.{HasStage, is_in, of_stage, stage_of}

module _ {X : Type 0} (r : Run X) (crew : List Worker) {view_at : ℕ → View X} (have : HaveCourses r crew view_at) where
  -- the worker has come so far along its course, with these stages and this view
  record Reached (j : ℕ) (w : Worker) (at : get_elem? crew j ≡ some w) (stages : List (Stage X)) (v : View X) : Type 0 where
    course : Course r (have.course j w at).start stages v
    inside : (x : Stage X) → Contains stages x → Contains (have.course j w at).stages x
    kept : (x : Sight) → Contains v.seen x → Contains (view_at j).seen x

  -- up to a stage, and with it
  record Passed (j : ℕ) (w : Worker) (at : get_elem? crew j ≡ some w) (t : Stage X) (before : List (Stage X)) : Type 0 where
    reached : Reached j w at before t.before
    adds : Adds r t.before (lines_in before) t.served t.after
    kept : (x : Sight) → Contains t.after.seen x → Contains (view_at j).seen x

  passed : (j : ℕ) (w : Worker) (at : get_elem? crew j ≡ some w) (t : Stage X) (before : List (Stage X)) → StandsIn (have.course j w at).stages t before → Passed j w at t before
  passed j w at t before is =
      let c = have.course j w at in
      let h = stage_in r c.start c.stages is.later t before c.is.last is.split c.is.course in
      record {
        reached = record {
          course = h.course;
          inside = λ x q. subst (λ (z : List (Stage X)). Contains z x) (sym is.split) (Contains-append_right is.later (t ∷ before) x (Contains-append_right (t ∷ []) before x q));
          kept = λ x q. c.is.leaves.keeps.seen x (h.keeps x (h.adds.keeps.seen x q));
        };
        adds = h.adds;
        kept = λ x q. c.is.leaves.keeps.seen x (h.keeps x q);
      }

  -- the line as a stage of the course of its worker, where this view has all that was known after it
  pub record IsKnown (v : View X) (s : Served) (earlier : List Served) : Type 0 where
    pub j : ℕ
    pub worker : Worker
    pub at : get_elem? crew j ≡ some worker
    pub stages : List (Stage X)
    pub has : HasStage stages s earlier
    pub course : Course r (have.course j worker at).start has.before has.stage.before
    pub adds : Adds r has.stage.before (lines_in has.before) has.stage.served has.stage.after
    pub known : (x : Sight) → Contains has.stage.after.seen x → Contains v.seen x
    pub kept : (x : Sight) → Contains has.stage.after.seen x → Contains (view_at j).seen x

  knew : {served earlier : List Served} {s : Served} → KnewOf crew served s earlier → (j : ℕ) (w : Worker) (at : get_elem? crew j ≡ some w) (stages : List (Stage X)) (v : View X) → Reached j w at stages v → lines_in stages ≡ served
      → IsKnown v s earlier
  knew {served} {earlier} {s} (own among) j w at stages v reached same =
      let h = stage_of stages served s earlier same among in
      let g = stage_in r (have.course j w at).start stages h.stands.later h.stage h.before v h.stands.split reached.course in
      record { j = j; worker = w; at = at; stages = stages; has = h; course = g.course; adds = g.adds; known = g.keeps; kept = λ x q. reached.kept x (g.keeps x q) }
  knew {served} {earlier} {s} (told {marked = marked} m knows) j w at stages v reached same =
      let h = stage_of stages served m.met m.between same m.awaits in
      let g = stage_in r (have.course j w at).start stages h.stands.later h.stage h.before v h.stands.split reached.course in
      let others = have.course m.j m.worker m.at in
      let d = stage_of others.stages m.worker.served m.setter marked others.is.lines m.sets in
      let before = (passed m.j m.worker m.at d.stage d.before d.stands).reached in
      let hands : HandsOver d.stage h.stage = have.meets m.j j m.worker w m.at at d.stage h.stage m.mark (is_in others.stages d.before d.stage d.stands) (reached.inside h.stage (is_in stages h.before h.stage h.stands))
      (of_stage (λ past x. x.asked.request ≡ Mark m.mark) others.stages m.setter marked d m.set)
      (of_stage (λ past x. x.asked.request ≡ Await m.mark) stages m.met m.between h m.asked)
      (of_stage (λ past x. x.answer ≡ Met) stages m.met m.between h m.meets) in
      let k = knew knows m.j m.worker m.at d.before d.stage.before before d.lines_are in
      record { j = k.j; worker = k.worker; at = k.at; stages = k.stages; has = k.has; course = k.course; adds = k.adds; known = λ x q. g.keeps x (hands.hands x (k.known x q)); kept = k.kept }

  -- A line that has this before it, as a stage of the course of its worker.
  module _ (P : List Served → Served → Type 0) (p : LineIn crew P) where
    pub has_stage : HasStage (have.course p.j p.worker p.at).stages p.served p.earlier
    has_stage = stage_of (have.course p.j p.worker p.at).stages p.worker.served p.served p.earlier (have.course p.j p.worker p.at).is.lines (record { later = p.later; split = p.split })

    along : Passed p.j p.worker p.at has_stage.stage has_stage.before
    along = passed p.j p.worker p.at has_stage.stage has_stage.before has_stage.stands

    pub adds : Adds r has_stage.stage.before (lines_in has_stage.before) has_stage.stage.served has_stage.stage.after
    adds = along.adds

    pub kept : (x : Sight) → Contains has_stage.stage.after.seen x → Contains (view_at p.j).seen x
    kept = along.kept

    pub course : Course r (have.course p.j p.worker p.at).start has_stage.before has_stage.stage.before
    course = along.reached.course

    -- and what was known of the lines of which the worker knew before it
    pub known_before : (s : Served) (earlier : List Served) → KnewOf crew p.earlier s earlier → IsKnown has_stage.stage.before s earlier
    known_before s earlier knows = knew knows p.j p.worker p.at has_stage.before has_stage.stage.before along.reached has_stage.lines_are
