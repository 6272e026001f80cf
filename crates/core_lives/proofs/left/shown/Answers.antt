use Rattle.std.proofs.Common.{List, sym, subst}
use Rattle.core_model.specs.declared.view.LoggedPiece.{LoggedPiece}
use Rattle.core_model.specs.declared.view.View.{View}
use Rattle.core_table.specs.declared.content.Content.{Content}
use Rattle.core_lives.specs.Crash.{IsLoggedFor, IsPickedAs}
use Rattle.core_lives.proofs.LoggedFor.{logged_for}
use Rattle.core_lives.proofs.Seeking.{none_of}
use Rattle.core_lives.proofs.left.shown.Goals as goal

pub unreachable-requires : goal.unreachable-requires
unreachable-requires c =
    let picked = c.requires.picked in
    let there = logged_for c.args.core.now c.requires.logs c.args.slot picked.0 c.in-Offered.piece (subst (IsPickedAs c.args.core.now c.args.slot picked.0) c.in-Offered.is picked.1) in
    none_of ((l : LoggedPiece) → IsLoggedFor c.views.result.now c.args.slot c.in-Offered.piece l → ⊥) (λ l. IsLoggedFor c.views.result.now c.args.slot c.in-Offered.piece l) c.in-None.is c.piece_logged_for.ensures
    there.0 (subst (λ (vs : List (View Content)). IsLoggedFor vs c.args.slot c.in-Offered.piece there.0) (sym c.views.ensures) there.1)
