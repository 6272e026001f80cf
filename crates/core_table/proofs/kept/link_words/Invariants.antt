use Rattle.std.proofs.Common.{◌≡◌, length}
use Rattle.core_table.specs.Kept.{linked, link_words, AreWithin}
use Rattle.core_table.proofs.kept.link_words.Given as goal

abbrev pub invariant-winners : goal.invariant-winners
invariant-winners l = record { same : linked l.words.items l.left ≡ link_words l.winners l.slots; long : length l.words.items ≡ l.slots; within : AreWithin l.left l.slots }

abbrev pub decreases-winners : goal.decreases-winners
decreases-winners l = length l.left
