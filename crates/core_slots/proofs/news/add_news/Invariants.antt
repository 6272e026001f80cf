use Rattle.std.proofs.Common.{◌≡◌, ◌++◌, List, reverse, take}
use Rattle.core_model.specs.declared.view.Sight.{Sight}
use Rattle.core_model.specs.CellMoves.{news_of}
use Rattle.core_slots.proofs.news.add_news.Given as goal

abbrev pub invariant-loop-sight : goal.invariant-loop-sight
invariant-loop-sight l = (below : List Sight) → reverse l.initial.news.items ≡ news_of l.slot l.known below
    → reverse l.news.items ≡ news_of l.slot l.known (reverse (take l.sight-index l.sight-items) ++ below)
