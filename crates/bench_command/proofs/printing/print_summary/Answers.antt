use Rattle.std.proofs.Common.{ap, subst, ◌∙◌, ◌≡◌}
use Rattle.workload.specs.Counts.{summary_of}
use Rattle.workload.specs.Text.{summary_line}
use Rattle.workload.specs.declared.summary.Summary.{Summary}
use Rattle.file_commands.specs.Report.{ReportPrints}
use Rattle.bench_command.proofs.printing.print_summary.Goals as goal

pub returns-in-Ok-clause-prints : goal.returns-in-Ok-clause-prints
returns-in-Ok-clause-prints g c told =
    subst (λ (s : Summary). ReportPrints (λ text. text ≡ summary_line s) (g.K.Sink.taken c.args.out.now) (g.K.Sink.taken c.print_line.new.out) c.print_line.result)
    (c.summary_of.ensures.counts ∙ ap summary_of (c.deref.ensures.value ∙ c.in-Ok.ensures)) (c.print_line.ensures.prints told)
