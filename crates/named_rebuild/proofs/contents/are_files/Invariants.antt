use Rattle.std.proofs.Common.{◌≡◌, All, length}
use Rattle.std.specs.Prelude.{◌↔◌}
use Rattle.named_rebuild.specs.Contents.{content_at}
use Rattle.named_rebuild.specs.declared.contents.FirstContent.TheVariants as content
use Rattle.named_rebuild.proofs.contents.are_files.Given as goal

abbrev pub invariant-slots : goal.invariant-slots
invariant-slots l = All (λ s. content_at l.contents s ≡ content.File) l.left ↔ All (λ s. content_at l.contents s ≡ content.File) l.slots

abbrev pub decreases-slots : goal.decreases-slots
decreases-slots l = length l.left
