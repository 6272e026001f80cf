use Rattle.std.proofs.Common.{List, [], arith, inr, length, map, refl, subst, sym, ◌∙◌, ◌∷◌, ◌≡◌, ℕ}
use Rattle.std.proofs.lemmas.List.{length-map}
use Rattle.std.proofs.lemmas.List.Concat.{length-flat_map}
use Rattle.std.proofs.lemmas.List.Sums.{sum_by-cons}
use Rattle.std.specs.Prelude.{sum_by}
use Rattle.rock_disk.specs.Counts.{counts}
use Rattle.rock_run.specs.Runs.{HasRun, RefusalLeaves}
use Rattle.rock_run.specs.Scripts.{MayBeServed}
use Rattle.script_text.specs.declared.answer.Answer.{Answer}
use Rattle.script_text.specs.declared.line.Line.{Line}
use Rattle.bench_command.specs.Answers.{answers_in}
use Rattle.bench_command.specs.Ends.{RunSays}
use Rattle.bench_command.specs.Leaves.{RunKept, RunLeaves, RunServed}
use Rattle.bench_command.specs.Numbers.{anchors_for, slot_size}
use Rattle.bench_command.proofs.Plain.{sized}
use Rattle.bench_command.proofs.Printed.{by_end, run_ends, told_so}
use Rattle.bench_command.proofs.Ran.{StoreClosed, refused_leaves}
use Rattle.bench_command.proofs.Served.{lines_served}
use Rattle.bench_command.proofs.running.run_bench.Goals as goal

pub run_script-requires-clause-lines : goal.run_script-requires-clause-lines
run_script-requires-clause-lines g c κs within =
    let t = c.args.target.now in
    let law = c.bench_lines_may_be_served.ensures in
    let few = c.requires.numbers.passes.to in
    subst (MayBeServed t.workers) (sym c.in-Ok.ensures)
    (lines_served t.workers _ (λ line among. law.within t.seed t.workers t.count line among) (λ line among. law.found t.seed t.workers t.count line among) (λ line among. law.named t.seed t.workers t.count line few among))

pub returns-in-Ok-run_script-clause-ends : goal.returns-in-Ok-run_script-clause-ends
returns-in-Ok-run_script-clause-ends g c = run_ends c.args.target.now.workers _ _ _ _ c.print_summary.result c.print_summary.ensures.ends

pub returns-in-Ok-run_script-clause-says : goal.returns-in-Ok-run_script-clause-says
returns-in-Ok-run_script-clause-says g c told has = by_end RunSays _ _ c.print_summary.result c.print_summary.ensures.ends tt tt tt

-- as many answers without numbers as with them
lengths : (workers : List (List (ℕ × Answer))) → sum_by (λ (answers : List (ℕ × Answer)). length (map (λ (numbered : ℕ × Answer). numbered.1) answers)) workers ≡ sum_by (λ (answers : List (ℕ × Answer)). length answers) workers
lengths [] = refl
lengths (answers ∷ workers) =
    let here : length (map (λ (numbered : ℕ × Answer). numbered.1) answers) ≡ length answers = length-map answers (λ (numbered : ℕ × Answer). numbered.1) in
    let rest = lengths workers in
    let left = sum_by-cons (λ (xs : List (ℕ × Answer)). length (map (λ (numbered : ℕ × Answer). numbered.1) xs)) answers workers in
    let right = sum_by-cons (λ (xs : List (ℕ × Answer)). length xs) answers workers in
    omega (arith, here, rest, left, right)

pub returns-in-Ok-run_script-clause-prints : goal.returns-in-Ok-run_script-clause-prints
returns-in-Ok-run_script-clause-prints g c told =
    let t = c.args.target.now in
    let ran = subst (λ (lines : List Line). HasRun g.V.Volume.tells g.V.C.Cell.tells g.V.C.Cell.state (g.V.Volume.files c.args.volume.now) (g.V.Volume.files c.run_script.new.volume) t.name.now slot_size (anchors_for t.workers) t.workers lines g.V.St.Station.faults (map (λ each. each.items) c.in-Ok-run_script.answers.items)
    (counts g.V.Volume.faults g.V.Volume.made g.V.Volume.ended c.args.volume.now)
    (counts g.V.Volume.faults g.V.Volume.made g.V.Volume.ended c.run_script.new.volume)) c.in-Ok.ensures c.in-Ok-run_script.ensures.ran in
    let given = map (λ each. each.items) c.in-Ok-run_script.answers.items in
    told_so _ _ _ _ c.print_summary.result (λ text is. record {
      run = record { answers = given; served = c.finished_runs_were_served.ensures _ _ _ _ _ _ _ _ _ _ _ sized (λ k line at. c.bench_lines_may_be_served.ensures.numbers t.seed t.workers t.count k line at) ran };
      is = is;
      requests = length-flat_map (λ (answers : List (ℕ × Answer)). map (λ (numbered : ℕ × Answer). numbered.1) answers) given
          ∙ lengths given ∙ c.each_line_has_one_answer.ensures _ _ _ _ _ _ _ _ _ _ _ (λ line among. c.bench_lines_may_be_served.ensures.within t.seed t.workers t.count line among) ran;
      kinds = c.answers_are_of_one_kind.ensures (answers_in given);
    }) (c.print_summary.ensures.prints told)

pub returns-in-Ok-run_script-clause-leaves : goal.returns-in-Ok-run_script-clause-leaves
returns-in-Ok-run_script-clause-leaves g c =
    let t = c.args.target.now in
    let ran = subst (λ (lines : List Line). HasRun g.V.Volume.tells g.V.C.Cell.tells g.V.C.Cell.state (g.V.Volume.files c.args.volume.now) (g.V.Volume.files c.run_script.new.volume) t.name.now slot_size (anchors_for t.workers) t.workers lines g.V.St.Station.faults (map (λ each. each.items) c.in-Ok-run_script.answers.items)
    (counts g.V.Volume.faults g.V.Volume.made g.V.Volume.ended c.args.volume.now)
    (counts g.V.Volume.faults g.V.Volume.made g.V.Volume.ended c.run_script.new.volume)) c.in-Ok.ensures c.in-Ok-run_script.ensures.ran in
    let served : RunServed g.V.Volume.tells (g.V.Volume.files c.args.volume.now) (g.V.Volume.files c.run_script.new.volume) t.name.now t.workers _ _ _ = record {
      answers = map (λ each. each.items) c.in-Ok-run_script.answers.items;
      served = c.finished_runs_were_served.ensures _ _ _ _ _ _ _ _ _ _ _ sized (λ k line at. c.bench_lines_may_be_served.ensures.numbers t.seed t.workers t.count k line at) ran;
    } in
    by_end (RunLeaves g.V.Volume.tells (g.V.Volume.files c.args.volume.now) (g.V.Volume.files c.run_script.new.volume) t.name.now t.workers _ _ _) _ _ c.print_summary.result c.print_summary.ensures.ends
    served (inr (λ told. (served.served.left told).file)) served

pub returns-clause-leaves : goal.returns-clause-leaves
returns-clause-leaves g c =
    rw c.status_of_run.ensures (refused_leaves g.V.Volume.tells g.V.C.Cell.tells g.V.C.Cell.state (g.V.Volume.files c.args.volume.now) (g.V.Volume.files c.run_script.new.volume) c.args.target.now.name.now c.args.target.now.workers _
    (λ told has. c.closed_runs_leave_responses.ensures _ _ _ _ _ _ _ _ sized told has) _ _ c.in-Err.fault
    (subst (λ (lines : List Line). RefusalLeaves (RunKept g.V.Volume.tells (g.V.Volume.files c.args.volume.now) (g.V.Volume.files c.run_script.new.volume) c.args.target.now.name.now c.args.target.now.workers lines) (StoreClosed g.V.Volume.tells g.V.C.Cell.tells g.V.C.Cell.state (g.V.Volume.files c.args.volume.now) (g.V.Volume.files c.run_script.new.volume) c.args.target.now.name.now c.args.target.now.workers lines) c.in-Err.fault) c.in-Ok.ensures c.in-Err.ensures.kept))
