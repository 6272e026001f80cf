use Rattle.std.proofs.Common.{Some, refl, subst, sym, ◌∙◌, ℕ}
use Rattle.std.specs.Prelude.{IfErr}
use Rattle.rock_io.specs.Faults.{Rose}
use Rattle.rock_disk.specs.Counts.{NoStation}
use Rattle.rock_disk.specs.File.{Files, HasSlots}
use Rattle.rock_disk.specs.Opened.{IsSmall}
use Rattle.rock_status.specs.declared.status.Status.TheVariants.{Small}
use Rattle.slot_finding.specs.Faults.{OrFailed}
use Rattle.slot_finding.specs.Finding.{FindsSlot}
use Rattle.file_commands.specs.Migrate.{IsMarkedFile}
use Rattle.file_commands.specs.Report.{AnyCount, ReadSays}
use Rattle.file_commands.proofs.Printing.{if_ok_on}
use Rattle.file_commands.proofs.SizeFound.{found_refused, found_says, unfound_refused, unfound_says}
use Rattle.file_commands.proofs.Telling.{moved, same_counts}
use Rattle.file_commands.proofs.migrate.migrate_found.Goals as goal

pub returns-in-Ok-clause-counted : goal.returns-in-Ok-clause-counted
returns-in-Ok-clause-counted g c = if_ok_on c.record_looked.result (λ migrated has t. (
  subst (λ (s : ℕ). FindsSlot (g.V.Volume.files c.args.volume.now) c.args.name.now (Some c.args.slot) s) (c.in-Ok.ensures.same c.args.slot refl) (c.in-Ok.ensures.found t),
  subst (λ (f : Files). HasSlots f c.args.name.now c.args.slot migrated.slots) c.in-Ok.ensures.files (has t),
)) c.record_looked.ensures.counted

pub returns-in-Ok-clause-says : goal.returns-in-Ok-clause-says
returns-in-Ok-clause-says g c t =
    found_says AnyCount _ _ (g.V.Volume.files c.args.volume.now) c.args.name.now (Some c.args.slot) c.args.slot c.record_looked.result
    (subst (λ (s : ℕ). FindsSlot (g.V.Volume.files c.args.volume.now) c.args.name.now (Some c.args.slot) s) (c.in-Ok.ensures.same c.args.slot refl) (c.in-Ok.ensures.found t)) c.record_looked.ensures.refused
    (subst (λ (f : Files). IfErr c.record_looked.result (ReadSays AnyCount f c.args.name.now c.args.slot)) c.in-Ok.ensures.files (c.record_looked.ensures.says t))

pub returns-in-Ok-clause-refused : goal.returns-in-Ok-clause-refused
returns-in-Ok-clause-refused g c =
    found_refused g.V.Volume.tells AnyCount _ _ (g.V.Volume.files c.args.volume.now) c.args.name.now (Some c.args.slot) c.args.slot c.record_looked.result c.requires.size
    (λ t. subst (λ (s : ℕ). FindsSlot (g.V.Volume.files c.args.volume.now) c.args.name.now (Some c.args.slot) s) (c.in-Ok.ensures.same c.args.slot refl) (c.in-Ok.ensures.found t)) c.record_looked.ensures.refused
    (λ t. subst (λ (f : Files). IfErr c.record_looked.result (ReadSays AnyCount f c.args.name.now c.args.slot)) c.in-Ok.ensures.files (c.record_looked.ensures.says t))
    (λ t. subst (λ (f : Files). (bytes : ℕ) → IsSmall f c.args.name.now c.args.slot bytes → IfErr c.record_looked.result (OrFailed (Small bytes))) c.in-Ok.ensures.files (c.record_looked.ensures.short t))

pub returns-in-Ok-clause-marked : goal.returns-in-Ok-clause-marked
returns-in-Ok-clause-marked g c t marked =
    let alone = c.record_looked.ensures.marked t (subst (λ (f : Files). IsMarkedFile f c.args.name.now) (sym c.in-Ok.ensures.files) marked) in (
      alone.0 ∙ c.in-Ok.ensures.files,
      moved (same_counts (c.in-Ok.ensures.unfailed (λ w. cc)) c.in-Ok.ensures.made c.in-Ok.ensures.ended) refl NoStation alone.1,
      λ told. subst (λ (n : ℕ). Rose n (g.V.Volume.faults c.record_looked.new.volume)) (c.in-Ok.ensures.unfailed (λ w. cc)) (alone.2 told),
    )

pub returns-in-Err-clause-says : goal.returns-in-Err-clause-says
returns-in-Err-clause-says g c t = unfound_says AnyCount (g.V.Volume.files c.args.volume.now) c.args.name.now (Some c.args.slot) c.in-Err.fault c.status_of_find.result c.status_of_find.ensures (c.in-Err.ensures.says t)

pub returns-in-Err-clause-refused : goal.returns-in-Err-clause-refused
returns-in-Err-clause-refused g c =
    unfound_refused g.V.Volume.tells AnyCount (g.V.Volume.files c.args.volume.now) c.args.name.now (Some c.args.slot) c.in-Err.fault c.status_of_find.result c.status_of_find.ensures c.requires.size
    c.in-Err.ensures.complete c.in-Err.ensures.missing c.in-Err.ensures.small c.in-Err.ensures.wrong c.in-Err.ensures.differs c.in-Err.ensures.unknown
