use Rattle.std.proofs.Common.{Option, arith, refl, subst, ℕ}
use Rattle.db_layout.specs.declared.geometry.Geometry.{Geometry}
use Rattle.slot_finding.specs.Finding.{FileRecords}
use Rattle.file_commands.specs.Recording.{IsRecorded, MayBeRecorded, RecordLeaves, geometry_of}
use Rattle.file_commands.proofs.Migrating.{leaves_marked, leaves_migrated, leaves_refused, looked_itself, looked_slots, marked_or_not}
use Rattle.file_commands.proofs.migrate.record_unmarked.Goals as goal

pub returns-in-Some-clause-counted : goal.returns-in-Some-clause-counted
returns-in-Some-clause-counted g c t =
    looked_slots (g.V.Volume.files c.args.volume.now) c.args.name.now c.args.slot c.in-Some.geometry c.args.looked.now.bytes
    (c.slots_are_whole.ensures.none c.args.looked.now.bytes c.args.slot (omega (arith, c.requires.size.from))) (c.requires.sized t)
    (subst (λ (r : Option Geometry). FileRecords (g.V.Volume.files c.args.volume.now) c.args.name.now r c.args.looked.now.bytes) c.in-Some.is (c.requires.looked t))

pub returns-in-Some-clause-done : goal.returns-in-Some-clause-done
returns-in-Some-clause-done g c t =
    leaves_marked c.args.slot c.args.name.now (g.V.Volume.files c.args.volume.now) (g.V.Volume.files c.args.volume.now)
    (looked_itself (g.V.Volume.files c.args.volume.now) c.args.name.now c.args.slot c.in-Some.geometry c.args.looked.now.bytes (c.requires.sized t)
    (subst (λ (r : Option Geometry). FileRecords (g.V.Volume.files c.args.volume.now) c.args.name.now r c.args.looked.now.bytes) c.in-Some.is (c.requires.looked t))) refl

pub returns-in-Ok-clause-done : goal.returns-in-Ok-clause-done
returns-in-Ok-clause-done g c t =
    leaves_migrated c.args.slot c.args.name.now (g.V.Volume.files c.args.volume.now) (g.V.Volume.files c.record.new.volume) c.args.looked.now.bytes
    (subst (λ (r : Option Geometry). FileRecords (g.V.Volume.files c.args.volume.now) c.args.name.now r c.args.looked.now.bytes) c.in-None.is (c.requires.looked t))
    (subst (λ (n : ℕ). MayBeRecorded (geometry_of c.args.slot n) c.args.name.now (g.V.Volume.files c.args.volume.now) (g.V.Volume.files c.record.new.volume)) c.slots_of-slots.ensures.value
    (c.in-Ok.ensures.either t (λ same. let one = c.in-Ok.ensures.done.made in omega (arith, same, one))))
    (subst (λ (n : ℕ). IsRecorded (geometry_of c.args.slot n) c.args.name.now (g.V.Volume.files c.args.volume.now) (g.V.Volume.files c.record.new.volume)) c.slots_of-slots.ensures.value (c.in-Ok.ensures.recorded t))

pub returns-in-Ok-clause-marked : goal.returns-in-Ok-clause-marked
returns-in-Ok-clause-marked g c t marked = absurd (marked_or_not (g.V.Volume.files c.args.volume.now) c.args.name.now marked (
  c.args.looked.now.bytes,
  subst (λ (r : Option Geometry). FileRecords (g.V.Volume.files c.args.volume.now) c.args.name.now r c.args.looked.now.bytes) c.in-None.is (c.requires.looked t),
))

pub returns-in-Err-clause-left : goal.returns-in-Err-clause-left
returns-in-Err-clause-left g c t =
    leaves_refused c.args.slot c.args.name.now (g.V.Volume.files c.args.volume.now) (g.V.Volume.files c.record.new.volume) c.args.looked.now.bytes
    (subst (λ (r : Option Geometry). FileRecords (g.V.Volume.files c.args.volume.now) c.args.name.now r c.args.looked.now.bytes) c.in-None.is (c.requires.looked t))
    _ _ c.in-Err.status c.in-Err.ensures.refused
    (subst (λ (n : ℕ). RecordLeaves (geometry_of c.args.slot n) c.args.name.now (g.V.Volume.files c.args.volume.now) (g.V.Volume.files c.record.new.volume) c.in-Err.status) c.slots_of-slots.ensures.value (c.in-Err.ensures.left t))

pub returns-in-Err-clause-marked : goal.returns-in-Err-clause-marked
returns-in-Err-clause-marked g c t marked = absurd (marked_or_not (g.V.Volume.files c.args.volume.now) c.args.name.now marked (
  c.args.looked.now.bytes,
  subst (λ (r : Option Geometry). FileRecords (g.V.Volume.files c.args.volume.now) c.args.name.now r c.args.looked.now.bytes) c.in-None.is (c.requires.looked t),
))
