use Rattle.std.proofs.Common.{◌≡◌, reverse}
use Rattle.core_model.specs.Opening.{sights_below}
use Rattle.core_table.specs.Inside.{setting}
use Rattle.core_change.proofs.opened.first_sights.Given as goal

abbrev pub invariant-loop-anchor : goal.invariant-loop-anchor
invariant-loop-anchor l = reverse l.seen.items ≡ sights_below (setting l.opening) l.anchor
