use Rattle.std.proofs.Common.{IsTrue, ◌↔◌, sym, subst}
use Rattle.file_commands.specs.Report.{Fits}
use Rattle.file_commands.proofs.report.Report.is_for.Goals as goal

pub returns-in-Summary : goal.returns-in-Summary
returns-in-Summary c = subst (λ r. IsTrue c.are_anchors.result ↔ Fits r c.args.slots) (sym c.in-Summary.is) c.are_anchors.ensures
