use Rattle.std.proofs.Common.{◌≡◌, ◌++◌, List, reverse}
use Rattle.core_model.specs.declared.view.View.{View}
use Rattle.core_model.specs.CellMoves.{all_seen, news_of}
use Rattle.core_table.specs.declared.content.Content.{Content}
use Rattle.core_slots.proofs.news.news_of.Given as goal

abbrev pub invariant-loop-view : goal.invariant-loop-view
invariant-loop-view l = (past : List (View Content)) × (l.views ≡ l.view-iterator.iter.rest.now ++ past)
    × (reverse l.news.items ≡ news_of l.slot l.known (all_seen past))
