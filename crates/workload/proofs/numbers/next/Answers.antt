use Rattle.std.proofs.Common.{◌*◌}
use Rattle.std.proofs.Math.Nat.{mod-add-mod}
use Rattle.workload.specs.Numbers.{next}
use Rattle.workload.proofs.numbers.next.Goals as goal

pub returns : goal.returns
unfolding next
returns c = mod-add-mod (c.args.number * 6364136223846793005) 18446744073709551616 1442695040888963407
