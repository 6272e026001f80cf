use Rattle.std.proofs.Common.{true}
use Rattle.lock_word.specs.declared.stage.Stage.TheVariants as stage
use Rattle.lock_word.proofs.Parts.{version_of-epoch_number}
use Rattle.line_account.proofs.Unexplained.{one_key}
use Rattle.line_account.proofs.absurd.no_neighbour_is_purged.Goals as goal

pub returns : goal.returns
returns c start r script w p s url other body x rules is differs pq pa sq sa =
    differs (one_key r script w rules p s url other body x (record { version = x; stage = stage.Closed; doom = true }) is pq pa sq sa (version_of-epoch_number (record { version = x; stage = stage.Closed; doom = true })))
