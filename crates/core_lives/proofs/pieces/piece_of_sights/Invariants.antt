use Rattle.std.proofs.Common.{length}
use Rattle.core_model.specs.declared.view.LoggedPiece.{LoggedPiece}
use Rattle.core_model.specs.declared.view.Sight.{Sight}
use Rattle.core_lives.specs.Crash.{IsLoggedAs}
use Rattle.core_lives.proofs.Seeking.{Seeks}
use Rattle.core_lives.proofs.pieces.piece_of_sights.Given as goal

abbrev pub invariant-sights : goal.invariant-sights
invariant-sights g = Seeks (λ (x : Sight). (l : LoggedPiece) × IsLoggedAs x g.slot g.piece l) g.sights g.left

abbrev pub decreases-sights : goal.decreases-sights
decreases-sights g = length g.left
