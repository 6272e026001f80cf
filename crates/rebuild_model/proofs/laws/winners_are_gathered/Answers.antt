use Rattle.std.proofs.Common.{[], ◌∷◌, ◌++◌, refl}
use Rattle.rebuild_model.proofs.Winners.{none_won, none_here, one_won}
use Rattle.rebuild_model.proofs.laws.winners_are_gathered.Goals as goal

pub returns : goal.returns
returns c = record {
  none = λ slot images anchors. none_won slot images anchors [] refl;
  passed = none_here;
  more = λ slot images anchors anchor winners found are kept. one_won slot images anchors anchor winners (winners ++ found ∷ []) found are kept refl;
}
