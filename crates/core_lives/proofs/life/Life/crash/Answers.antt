use Rattle.std.proofs.Common.{rules, ◌≡◌, ◌<◌, ℕ, List, None, Some, length, refl, ap, sym, subst, arith}
use Rattle.std.specs.Prelude.{slice_index}
use Rattle.named_rebuild.specs.declared.contents.FirstContent.{FirstContent}
use Rattle.core_lives.specs.Crash.{ArePicked, IsPick}
use Rattle.core_lives.specs.Happening.{IsCrashed}
use Rattle.core_lives.specs.Life.{lived_of}
use Rattle.core_lives.specs.Lived.{Lived}
use Rattle.core_lives.proofs.Leaving.{has_crashed}
use Rattle.core_lives.proofs.Living.{crash_keeps}
use Rattle.core_lives.proofs.Seeking.{some_of}
use Rattle.core_lives.proofs.life.Life.crash.Goals as goal

came : (c : goal.Joined-self) → IsCrashed (lived_of c.self.inside) c.args.picks.now record { core = c.self.inside.core; file = c.self.inside.file; first = c.self.inside.first; left = Some c.from_vec.result }
came c =
    let runs : c.self.inside.left ≡ None = search rules in
    let found = some_of (((slot : ℕ) → slot < c.self.inside.core.slots → IsPick c.self.inside.core slot (slice_index c.args.picks.now slot)) → ⊥)
    (λ left. ArePicked c.self.inside.core c.as_slice-2.result.now c.args.picks.now left.items) c.in-Ok-Some.field-0-is c.in-Ok-Some.ensures in
    has_crashed (lived_of c.self.inside) c.args.picks.now c.from_vec.result runs
    (let e = ap length c.as_slice.ensures in let m = c.self.invariant.first.many in let z = c.if-picks-as_slice.false in omega arith)
    (subst (λ (xs : List FirstContent). ArePicked c.self.inside.core xs c.args.picks.now c.from_vec.result) c.as_slice-2.ensures
    (subst (ArePicked c.self.inside.core c.as_slice-2.result.now c.args.picks.now) (sym c.from_vec.ensures) found))

pub invariant_of-self : goal.invariant_of-self
invariant_of-self c = crash_keeps (lived_of c.self.inside) c.args.picks.now c.from_vec.result c.self.invariant (came c)

pub returns-in-Ok-Some-clause-made : goal.returns-in-Ok-Some-clause-made
returns-in-Ok-Some-clause-made c = (refl, subst (λ (l : Lived). IsCrashed l c.args.picks.now record { core = c.self.inside.core; file = c.self.inside.file; first = c.self.inside.first; left = Some c.from_vec.result }) c.self.view_is (came c))

pub returns-in-Ok-Some-clause-sound : goal.returns-in-Ok-Some-clause-sound
returns-in-Ok-Some-clause-sound c = crash_keeps (lived_of c.self.inside) c.args.picks.now c.from_vec.result c.self.invariant (came c)
