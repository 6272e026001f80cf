use Rattle.std.proofs.Common.{ap, arith, length, map, refl, ◌∙◌}
use Rattle.std.proofs.lemmas.Bool.{false≢true}
use Rattle.std.proofs.lemmas.List.{length-map}
use Rattle.answer_text.specs.Text.{text_of}
use Rattle.slot_finding.proofs.Causes.{first_says}
use Rattle.run_command.proofs.Printed.{many, printed_complete, printed_ends, printed_leaves, printed_prints, printed_refused, printed_says}
use Rattle.run_command.proofs.Refused.{refused_complete, refused_ends, refused_leaves, refused_prints, refused_refused, refused_says}
use Rattle.run_command.proofs.Refused.{slot_refused, third_says, workers_refused}
use Rattle.run_command.proofs.Unread.{unread_refused}
use Rattle.run_command.proofs.command.run_command.Goals as goal

pub returns-in-Err-clause-refused : goal.returns-in-Err-clause-refused
returns-in-Err-clause-refused g c = rw c.of_script.ensures (unread_refused _ _ _ _ _ _ _ _ _ _ c.in-Err.fault c.in-Err.ensures.good
    c.in-Err.ensures.bad)

pub returns-then-not-may_be_given-clause-says : goal.returns-then-not-may_be_given-clause-says
returns-then-not-may_be_given-clause-says g c = ((c.in-Ok.lines.lines, c.in-Ok.ensures.script), λ told. first_says)

pub returns-then-not-may_be_given-clause-refused : goal.returns-then-not-may_be_given-clause-refused
returns-then-not-may_be_given-clause-refused g c = slot_refused _ _ _ _ _ _ _ _ _ _ c.in-Ok.ensures.bad
    (λ may. false≢true (c.if-not-may_be_given.ensures.1 may))

pub returns-then-not-are_workers-clause-says : goal.returns-then-not-are_workers-clause-says
returns-then-not-are_workers-clause-says g c = ((c.in-Ok.lines.lines, c.in-Ok.ensures.script), λ told. third_says)

pub returns-then-not-are_workers-clause-refused : goal.returns-then-not-are_workers-clause-refused
returns-then-not-are_workers-clause-refused g c = workers_refused _ _ _ _ _ _ _ _ _ _ c.in-Ok.ensures.bad
    (c.if-not-may_be_given.ensures.0 refl) (λ number. false≢true (c.if-not-are_workers.ensures.1 number))

pub run_found-requires-clause-lines : goal.run_found-requires-clause-lines
run_found-requires-clause-lines g c κs within = c.read_scripts_may_be_served.ensures _ _ c.in-Ok.lines.lines c.in-Ok.ensures.script.1

pub print-requires : goal.print-requires
print-requires g c =
    let most = (c.if-not-are_workers.ensures.0 refl).to in
    let count = many _ _ _ _ _ _ _ _ _ _ _ _ _ _ c.in-Ok-run_found.ensures.ran.ran in
    let long = length-map c.in-Ok-run_found.answers.items (λ each. each.items) in
    let whole = ap length c.deref.ensures.value in
    omega (arith, most, count, long, whole)

pub returns-in-Ok-run_found-clause-ends : goal.returns-in-Ok-run_found-clause-ends
returns-in-Ok-run_found-clause-ends g c = printed_ends _ _ _ _ _ _ _ _ _ c.print.result (c.if-not-may_be_given.ensures.0 refl)
    (c.if-not-are_workers.ensures.0 refl) c.print.ensures.ends

pub returns-in-Ok-run_found-clause-says : goal.returns-in-Ok-run_found-clause-says
returns-in-Ok-run_found-clause-says g c = printed_says _ _ _ _ _ _ _ _ _ _ _ c.print.result (c.in-Ok.lines.lines, c.in-Ok.ensures.script)
    (λ told. c.in-Ok-run_found.ensures.fits told refl) c.print.ensures.ends

pub returns-in-Ok-run_found-clause-refused : goal.returns-in-Ok-run_found-clause-refused
returns-in-Ok-run_found-clause-refused g c =
    printed_refused _ _ _ _ _ _ _ _ _ _ c.print.result c.in-Ok.ensures.bad (c.if-not-may_be_given.ensures.0 refl)
    (c.if-not-are_workers.ensures.0 refl) (λ told. c.in-Ok-run_found.ensures.fits told refl)

pub returns-in-Ok-run_found-clause-complete : goal.returns-in-Ok-run_found-clause-complete
returns-in-Ok-run_found-clause-complete g c source_told volume_told may none =
    printed_complete _ _ c.print.result none.sink_none c.print.ensures.ends

pub returns-in-Ok-run_found-clause-prints : goal.returns-in-Ok-run_found-clause-prints
returns-in-Ok-run_found-clause-prints g c told =
    let run = c.in-Ok-run_found.ensures.ran in
    printed_prints _ _ _ _ _ _ c.print.result (λ text is. record {
      run = record {
        lines = c.in-Ok.lines.lines;
        read = c.in-Ok.ensures.script;
        slot = run.slot;
        sized = run.sized;
        answers = map (λ each. each.items) c.in-Ok-run_found.answers.items;
        served = c.finished_runs_were_served.ensures _ _ _ _ _ _ _ _ _ _ _ run.sized.sized
            (c.read_lines_are_numbered.ensures _ _ _ c.in-Ok.ensures.script.1) run.ran;
      };
      is = is ∙ ap (λ answers. text_of (map (λ each. each.items) answers)) c.deref.ensures.value;
    }) c.print.ensures.ends (c.print.ensures.prints told)

pub returns-in-Ok-run_found-clause-kept : goal.returns-in-Ok-run_found-clause-kept
returns-in-Ok-run_found-clause-kept g c =
    let run = c.in-Ok-run_found.ensures.ran in
    printed_leaves _ _ _ _ _ _ _ _ _ _ _ _ _ _ c.print.result (record {
      lines = c.in-Ok.lines.lines;
      read = c.in-Ok.ensures.script;
      slot = run.slot;
      sized = run.sized;
      answers = map (λ each. each.items) c.in-Ok-run_found.answers.items;
      served = c.finished_runs_were_served.ensures _ _ _ _ _ _ _ _ _ _ _ run.sized.sized
          (c.read_lines_are_numbered.ensures _ _ _ c.in-Ok.ensures.script.1) run.ran;
    }) c.print.ensures.ends

pub returns-clause-ends : goal.returns-clause-ends
returns-clause-ends g c = refused_ends _ _ _ _ _ _ _ _ _ c.in-Err-run_found.status (c.if-not-may_be_given.ensures.0 refl)
    (c.if-not-are_workers.ensures.0 refl) c.in-Err-run_found.ensures.ends

pub returns-clause-says : goal.returns-clause-says
returns-clause-says g c = refused_says _ _ _ _ _ _ _ _ _ _ _ c.in-Err-run_found.status
    (c.in-Ok.lines.lines, c.in-Ok.ensures.script) c.in-Err-run_found.ensures.ends c.in-Err-run_found.ensures.says

pub returns-clause-refused : goal.returns-clause-refused
returns-clause-refused g c = refused_refused _ _ _ _ _ _ _ _ _ _ c.in-Err-run_found.status c.in-Ok.ensures.bad
    (c.if-not-may_be_given.ensures.0 refl) (c.if-not-are_workers.ensures.0 refl) c.in-Err-run_found.ensures.refused

pub returns-clause-complete : goal.returns-clause-complete
returns-clause-complete g c source_told volume_told may none = refused_complete _ _ _ _ _ _ _ _ _ _ _ _ c.in-Err-run_found.status may none
    c.in-Err-run_found.ensures.ends (c.in-Err-run_found.ensures.says volume_told)

pub returns-clause-prints : goal.returns-clause-prints
returns-clause-prints g c told = refused_prints _ _ _ _ _ _ c.in-Err-run_found.status c.in-Err-run_found.ensures.ends

pub returns-clause-kept : goal.returns-clause-kept
returns-clause-kept g c =
    refused_leaves _ _ _ _ _ _ _ _ _ _ _ _ c.in-Ok.lines.lines c.in-Ok.ensures.script
    (λ slot sized told closed. c.closed_runs_leave_responses.ensures _ _ _ _ _ _ _ _ sized told closed)
    _ _ c.in-Err-run_found.status c.in-Err-run_found.ensures.ends c.in-Err-run_found.ensures.kept
