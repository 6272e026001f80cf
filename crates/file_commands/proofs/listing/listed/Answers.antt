use Rattle.file_commands.proofs.LineFacts.{lists, short_urls}
use Rattle.file_commands.proofs.listing.listed.Goals as goal

pub returns-clause-lists : goal.returns-clause-lists
returns-clause-lists g c t = lists c.args.slot _ c.in_ok-scan.scan (c.in_ok-scan.ensures.scanned t)

pub invariant_of-result : goal.invariant_of-result
invariant_of-result g c = record { short = short_urls c.args.slot c.in_ok-scan.ensures.read.0 c.in_ok-scan.scan c.in_ok-scan.ensures.read.2 }
