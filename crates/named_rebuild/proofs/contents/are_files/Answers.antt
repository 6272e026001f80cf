use Rattle.std.proofs.Common.{rules}
use Rattle.named_rebuild.proofs.Files.{files_on}
use Rattle.named_rebuild.proofs.contents.are_files.Goals as goal

pub slots-preserved : goal.slots-preserved
slots-preserved c = files_on c.args.contents.now c.slots.left.now c.in-Some.rest.now c.args.slots.now c.in-Some.slot.now (search rules) (search rules) c.slots.invariant
