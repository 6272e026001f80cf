-- Calls that count no reader and doom nothing.
use Rattle.std.specs.Prelude.{All, List, ◌++◌, ◌≡◌, ◌≢◌}
use Rattle.core_model.specs.declared.moves.Move.{Move}
use Rattle.core_model.specs.declared.moves.Move.TheVariants.{Doom, Enter}
use Rattle.core_model.specs.declared.view.Item.{Item}
use Rattle.core_model.specs.declared.view.Kind.{Kind}
use Rattle.core_model.specs.declared.view.Kind.TheVariants.{Doomed, Entered}
use Rattle.core_model.specs.declared.view.View.{View}

-- Between the views v and w these items were added to the trail of the pass, newest first, and none is of this kind.
pub record AddsNone {X : Type 0} (kind : Kind) (v w : View X) : Type 0 where
  pub items : List Item
  pub trail : w.trail ≡ items ++ v.trail
  pub none : All (λ (x : Item). x.kind ≢ kind) items

-- no step between them counted a reader, and none doomed an entry
abbrev pub CountsNoReader : {X : Type 0} → (v w : View X) → Type 0
CountsNoReader v w = AddsNone Entered v w

abbrev pub DoomsNothing : {X : Type 0} → (v w : View X) → Type 0
DoomsNothing v w = AddsNone Doomed v w

pub record Quiet {X : Type 0} (v w : View X) : Type 0 where
  pub counts : CountsNoReader v w
  pub dooms : DoomsNothing v w

-- a step that neither counts a reader nor dooms
abbrev pub IsQuietMove : Move → Type 0
IsQuietMove (Enter t a) = ⊥
IsQuietMove (Doom t) = ⊥
IsQuietMove m = Unit {0}
