use Rattle.std.proofs.Common.{ℕ, arith}
use Rattle.std.proofs.lemmas.Grind.{common_steps}
use Rattle.named_rebuild.specs.Keeping.{ShowsVersion}
use Rattle.named_rebuild.proofs.Walking.{some_of, none_of}
use Rattle.named_rebuild.proofs.Greatest.{of_all, none_on, shown_on}
use Rattle.named_rebuild.proofs.keeping.greatest_of.Goals as goal
use Rattle.named_rebuild.proofs.keeping.greatest_of.Goals.{in-Some, in_default}

pub slots-preserved : goal.slots-preserved
slots-preserved c =
    elim c.match-version_at.branch [
      | in-Some w ↦ shown_on c.args.file.now c.args.contents.now c.slots.slot c.slots.greatest w.in-Some.version c.match-version_at.greatest c.slots.invariant c.slots-test.true
          (some_of ((version : ℕ) → ShowsVersion c.args.file.now c.args.contents.now c.slots.slot version → ⊥) (ShowsVersion c.args.file.now c.args.contents.now c.slots.slot) w.in-Some.is c.version_at.ensures)
          (grind (arith, common_steps))
      | in_default w ↦ none_on c.args.file.now c.args.contents.now c.slots.slot c.slots.greatest c.match-version_at.greatest c.slots.invariant c.slots-test.true
          (none_of ((version : ℕ) → ShowsVersion c.args.file.now c.args.contents.now c.slots.slot version → ⊥) (ShowsVersion c.args.file.now c.args.contents.now c.slots.slot) w.in_default.is c.version_at.ensures)
          w.greatest-is
    ]

pub returns : goal.returns
returns c = of_all c.args.file.now c.args.contents.now c.slots.slot c.slots.greatest c.slots.invariant c.slots-test.false
