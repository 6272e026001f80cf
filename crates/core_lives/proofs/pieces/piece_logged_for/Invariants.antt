use Rattle.std.proofs.Common.{◌≡◌, length, Contains}
use Rattle.core_model.specs.declared.view.LoggedPiece.{LoggedPiece}
use Rattle.core_model.specs.declared.view.Sight.TheVariants.{Logged}
use Rattle.core_model.specs.declared.view.View.{View}
use Rattle.core_table.specs.declared.content.Content.{Content}
use Rattle.core_lives.proofs.Seeking.{Seeks}
use Rattle.core_lives.proofs.pieces.piece_logged_for.Given as goal

abbrev pub invariant-views : goal.invariant-views
invariant-views g = Seeks (λ (view : View Content). (l : LoggedPiece) × Contains view.seen (Logged l) × (l.slot ≡ g.slot) × (l.piece ≡ g.piece)) g.views g.left

abbrev pub decreases-views : goal.decreases-views
decreases-views g = length g.left
