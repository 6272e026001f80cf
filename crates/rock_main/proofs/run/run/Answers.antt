use Rattle.std.proofs.Common.{ap, sym, ◌∙◌}
use Rattle.rock_status.specs.Status.{code_of}
use Rattle.rock_main.proofs.Codes.{of_sink_fault, of_source_fault, of_usage}
use Rattle.rock_main.proofs.run.run.Goals as goal

pub returns-clause-usage : goal.returns-clause-usage
returns-clause-usage g c = (
  λ two. c.rock-status.ensures.usage.0 (of_usage c.rock-status.result (sym c.end.ensures ∙ two)),
  λ none. c.end.ensures ∙ ap code_of (c.rock-status.ensures.usage.1 none),
)

pub returns-clause-source_fault : goal.returns-clause-source_fault
returns-clause-source_fault g c four =
    c.rock-status.ensures.faults.source_failed (of_source_fault c.rock-status.result (sym c.end.ensures ∙ four))

pub returns-clause-sink_fault : goal.returns-clause-sink_fault
returns-clause-sink_fault g c five =
    c.rock-status.ensures.faults.sink_failed (of_sink_fault c.rock-status.result (sym c.end.ensures ∙ five))

pub returns-clause-source_unfailed : goal.returns-clause-source_unfailed
returns-clause-source_unfailed g c other = c.rock-status.ensures.faults.source_unfailed (λ is. other (c.end.ensures ∙ ap code_of is))

pub returns-clause-sink_unfailed : goal.returns-clause-sink_unfailed
returns-clause-sink_unfailed g c other = c.rock-status.ensures.faults.sink_unfailed (λ is. other (c.end.ensures ∙ ap code_of is))

pub returns-clause-device_unfailed : goal.returns-clause-device_unfailed
returns-clause-device_unfailed g c other = c.rock-status.ensures.faults.volume_unfailed (λ is. other (c.end.ensures ∙ ap code_of is))

pub returns-clause-list : goal.returns-clause-list
returns-clause-list g c name given asked =
    record { status = c.rock-status.result; is = c.end.ensures; causes = c.rock-status.ensures.list name given asked }

pub returns-clause-check : goal.returns-clause-check
returns-clause-check g c name given anchors asked =
    record { status = c.rock-status.result; is = c.end.ensures; causes = c.rock-status.ensures.check name given anchors asked }

pub returns-clause-create : goal.returns-clause-create
returns-clause-create g c name slot slots asked =
    record { status = c.rock-status.result; is = c.end.ensures; causes = c.rock-status.ensures.create name slot slots asked }

pub returns-clause-migrate : goal.returns-clause-migrate
returns-clause-migrate g c name slot asked =
    record { status = c.rock-status.result; is = c.end.ensures; causes = c.rock-status.ensures.migrate name slot asked }

pub returns-clause-run : goal.returns-clause-run
returns-clause-run g c name given anchors workers asked =
    record { status = c.rock-status.result; is = c.end.ensures; causes = c.rock-status.ensures.run name given anchors workers asked }

pub returns-clause-bench : goal.returns-clause-bench
returns-clause-bench g c name seed workers count asked =
    record { status = c.rock-status.result; is = c.end.ensures; causes = c.rock-status.ensures.bench name seed workers count asked }
