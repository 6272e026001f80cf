use Rattle.std.specs.List.{slice_get}
use Rattle.std.proofs.Common.{refl}
use Rattle.rock_rebuild.proofs.BestCandidates.{chosen_at}
use Rattle.rock_rebuild.proofs.chosen.choose.Goals as goal

pub returns-clause-best : goal.returns-clause-best
returns-clause-best c anchors found place up is are =
    chosen_at anchors place found c.args.best.now c.args.candidate c.better_of.result (slice_get found place) refl up is are c.requires c.better_of.ensures
