use Rattle.std.proofs.Common.{◌≡◌, length, replicate, arith}
use Rattle.std.proofs.lemmas.Grind.{common_steps}
use Rattle.named_rebuild.specs.declared.contents.FirstContent.TheVariants.{File}
use Rattle.core_lives.proofs.Living.{new_sound}
use Rattle.core_lives.proofs.life.Life.new.Goals as goal

pub invariant_of-result : goal.invariant_of-result
invariant_of-result c =
    let holds : c.from_vec-first.result ≡ replicate (length c.args.file.slots) File = grind (arith, common_steps) in
    new_sound c.args.file c.args.anchors c.args.passes c.in_ok-core.core c.from_vec-first.result c.in_ok-core.ensures.new c.in_ok-core.ensures.sound
    record { few = c.requires.few_slots; sized = let z = c.requires.size.from in omega arith; wide = c.requires.wide } c.requires.some_anchor holds

pub returns-clause-sound : goal.returns-clause-sound
returns-clause-sound c =
    let holds : c.from_vec-first.result ≡ replicate (length c.args.file.slots) File = grind (arith, common_steps) in
    new_sound c.args.file c.args.anchors c.args.passes c.in_ok-core.core c.from_vec-first.result c.in_ok-core.ensures.new c.in_ok-core.ensures.sound
    record { few = c.requires.few_slots; sized = let z = c.requires.size.from in omega arith; wide = c.requires.wide } c.requires.some_anchor holds
