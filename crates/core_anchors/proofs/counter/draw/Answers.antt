use Rattle.std.proofs.Common.{◌<◌, arith}
use Rattle.std.proofs.lemmas.Grind.{common_steps}
use Rattle.lock_word.specs.Words.{version_limit}
use Rattle.core_model.specs.declared.moves.Move.TheVariants as move
use Rattle.core_model.specs.Trails.{last_count}
use Rattle.core_change.proofs.Facts.{known}
use Rattle.core_anchors.proofs.counter.draw.Goals as goal

pub overflow_add-left : goal.overflow_add-left
overflow_add-left c =
    let allowed : last_count c.args.view.now.trail < version_limit = grind (arith, common_steps) in
    let few = (known c.args.opening.now c.args.table.now c.args.view.now move.Draw c.requires allowed).few in grind (arith, common_steps, few)
