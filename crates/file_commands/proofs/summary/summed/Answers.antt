use Rattle.file_commands.proofs.LineFacts.{sums}
use Rattle.file_commands.proofs.summary.summed.Goals as goal

pub returns-clause-sums : goal.returns-clause-sums
returns-clause-sums g c = sums c.tally.result _ c.args.anchors c.args.slot _ c.tally.ensures.counted
