use Rattle.std.proofs.Common.{Some}
use Rattle.rock_status.specs.declared.status.Status.TheVariants.{Done, SinkFault}
use Rattle.file_commands.specs.Report.{AnyCount}
use Rattle.file_commands.proofs.Migrating.{leaves_home, leaves_unprinted}
use Rattle.file_commands.proofs.SizeFound.{fit_refused}
use Rattle.file_commands.proofs.migrate.migrate_file.Goals as goal

pub returns-in-Err-clause-back : goal.returns-in-Err-clause-back
returns-in-Err-clause-back g c t home =
    c.created_files_are_in.ensures.maybe (g.V.Volume.files c.args.volume.now) (g.V.Volume.files c.migrate_found.new.volume) c.args.name.now
    (leaves_home c.args.slot c.args.name.now (g.V.Volume.files c.args.volume.now) (g.V.Volume.files c.migrate_found.new.volume) c.in-Err.status (c.in-Err.ensures.left t) home) home

pub returns-in-Ok-print_slots-clause-refused : goal.returns-in-Ok-print_slots-clause-refused
returns-in-Ok-print_slots-clause-refused g c =
    fit_refused g.V.Volume.tells AnyCount (g.V.Volume.files c.args.volume.now) c.args.name.now (Some c.args.slot) Done (c.slot_size_ok.ensures.0 c.if-not-slot_size_ok.false)
    (λ t. let told = c.in-Ok.ensures.counted t in (c.args.slot, told.0, (c.in-Ok.migrated.slots, told.1, tt)))

pub returns-in-Ok-print_slots-clause-back : goal.returns-in-Ok-print_slots-clause-back
returns-in-Ok-print_slots-clause-back g c t home =
    c.created_files_are_in.ensures.maybe (g.V.Volume.files c.args.volume.now) (g.V.Volume.files c.migrate_found.new.volume) c.args.name.now
    (leaves_home c.args.slot c.args.name.now (g.V.Volume.files c.args.volume.now) (g.V.Volume.files c.migrate_found.new.volume) Done (c.in-Ok.ensures.done t) home) home

pub returns-clause-refused : goal.returns-clause-refused
returns-clause-refused g c =
    fit_refused g.V.Volume.tells AnyCount (g.V.Volume.files c.args.volume.now) c.args.name.now (Some c.args.slot) SinkFault (c.slot_size_ok.ensures.0 c.if-not-slot_size_ok.false)
    (λ t. let told = c.in-Ok.ensures.counted t in (c.args.slot, told.0, (c.in-Ok.migrated.slots, told.1, tt)))

pub returns-clause-leaves : goal.returns-clause-leaves
returns-clause-leaves g c t = leaves_unprinted c.args.slot c.args.name.now (g.V.Volume.files c.args.volume.now) (g.V.Volume.files c.migrate_found.new.volume) (c.in-Ok.ensures.done t)

pub returns-clause-back : goal.returns-clause-back
returns-clause-back g c t home =
    c.created_files_are_in.ensures.maybe (g.V.Volume.files c.args.volume.now) (g.V.Volume.files c.migrate_found.new.volume) c.args.name.now
    (leaves_home c.args.slot c.args.name.now (g.V.Volume.files c.args.volume.now) (g.V.Volume.files c.migrate_found.new.volume) Done (c.in-Ok.ensures.done t) home) home
