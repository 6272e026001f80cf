use Rattle.std.proofs.Common.{◌≡◌, Some, None, true, refl, ap, sym, ◌∙◌}
use Rattle.std.specs.Prelude.{Option, is_some}
use Rattle.rock_disk.specs.Memory.{files_of}
use Rattle.rock_disk.proofs.Homes.{none_away_put}
use Rattle.rock_disk.proofs.Out.{there_still}
use Rattle.rock_disk.proofs.memory.volume.MemVolumeVolume.create.Goals as goal

something : {A : Type 0} (o : Option A) → is_some o ≡ true → (x : A) × (o ≡ Some x)
something None e = absurd (cc)
something (Some x) e = (x, refl)

pub returns-then-has_file-clause-exists : goal.returns-then-has_file-clause-exists
returns-then-has_file-clause-exists c = (
  λ w. there_still c.args.name.now (ap files_of (sym c.deref.ensures.value)) (something _ (sym c.has_file.ensures ∙ c.if-has_file.true)),
  λ there. refl,
)

pub returns-clause-home : goal.returns-clause-home
returns-clause-home c = none_away_put c.put_entry.result _ _ c.args.name.now _ _ c.in_ok-file.ensures c.put_entry.ensures.ok c.put_entry.ensures.err
