use Rattle.std.proofs.Common.{rules, refl}
use Rattle.core_model.specs.declared.view.LoggedPiece.{LoggedPiece}
use Rattle.core_model.specs.declared.view.Sight.{Sight}
use Rattle.core_model.specs.declared.view.Sight.TheVariants.{Logged}
use Rattle.core_lives.specs.Crash.{IsLoggedAs}
use Rattle.core_lives.proofs.Seeking.{none_has, none_of, seeks_on}
use Rattle.core_lives.proofs.pieces.piece_of_sights.Goals as goal

pub sights-preserved : goal.sights-preserved
sights-preserved c = seeks_on (λ (x : Sight). (l : LoggedPiece) × IsLoggedAs x c.args.slot c.args.piece.now l) c.args.sights.now c.sights.left.now c.in-Some.rest.now c.in-Some.sight.now c.sights.invariant (search rules)
    (λ has. none_of ((l : LoggedPiece) → IsLoggedAs c.in-Some.sight.now c.args.slot c.args.piece.now l → ⊥) (λ l. IsLoggedAs c.in-Some.sight.now c.args.slot c.args.piece.now l) c.in_default-piece_of_sight.is c.piece_of_sight.ensures has.0 has.1)

pub returns : goal.returns
returns c l has slot piece = none_has (λ (x : Sight). (m : LoggedPiece) × IsLoggedAs x c.args.slot c.args.piece.now m) c.args.sights.now c.sights.left.now c.sights.invariant c.in_default.ensures.cases (Logged l) has
    (l, record { is = refl; slot_is = slot; piece_is = piece })
