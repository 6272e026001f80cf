use Rattle.std.proofs.Common.{◌≡◌, ◌++◌, length}
use Rattle.core_table.specs.Kept.{with_turns}
use Rattle.core_table.proofs.kept.push_links.Given as goal

abbrev pub invariant-links : goal.invariant-links
invariant-links l = l.words.items ++ with_turns l.left ≡ l.fn.words.items ++ with_turns l.links

abbrev pub decreases-links : goal.decreases-links
decreases-links l = length l.left
