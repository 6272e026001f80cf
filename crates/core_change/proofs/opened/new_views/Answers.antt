use Rattle.std.proofs.Common.{arith}
use Rattle.std.proofs.lemmas.Grind.{common_steps}
use Rattle.core_change.proofs.NewParts.{views_more}
use Rattle.core_change.proofs.opened.new_views.Goals as goal

pub loop-pass-preserved : goal.loop-pass-preserved
loop-pass-preserved c = grind (arith, common_steps, views_more)
