-- A version that a pass holds has no logged piece: it was seen nowhere, and the version of a logged piece was.
use Rattle.std.proofs.Common.{◌≡◌, inr, ℕ, List, Contains}
use mathlib.Core.Option.{some}
use lib.ListN.{get_elem?}
use Rattle.core_model.specs.declared.view.LoggedPiece.{LoggedPiece}
use Rattle.core_model.specs.declared.view.View.{View}
use Rattle.core_model.specs.Layout.{Setting}
use Rattle.core_model.specs.State.{State}
use Rattle.core_model.specs.Sound.{Sound}
use Rattle.core_log.specs.Logged.{LogStands}

pub not_logged : {X : Type 0} → (k : Setting X) (s : State X) (log : List LoggedPiece) (i : ℕ) (v : View X) (l : LoggedPiece) → Sound k s → LogStands k s log → get_elem? s.views i ≡ some v → Contains log l
    → Contains v.held l.piece.version → ⊥
not_logged k s log i v l so st at among held = (so.anchors.held.fresh i v at l.piece.version held).unknown l.anchor (inr (st.links.stood l among))
