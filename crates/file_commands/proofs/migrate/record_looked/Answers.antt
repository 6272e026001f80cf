use Rattle.std.proofs.Common.{subst, sym}
use Rattle.rock_status.specs.declared.status.Status.TheVariants.{Small}
use Rattle.slot_finding.specs.Faults.{OrFailed}
use Rattle.file_commands.specs.Report.{AnyCount, ReadSays}
use Rattle.file_commands.proofs.Migrating.{unseen_fails, unseen_says}
use Rattle.file_commands.proofs.migrate.record_looked.Goals as goal

pub returns-in-Err-clause-says : goal.returns-in-Err-clause-says
returns-in-Err-clause-says g c t =
    subst (ReadSays AnyCount (g.V.Volume.files c.args.volume.now) c.args.name.now c.args.slot) (sym c.status_of_find.ensures)
    (unseen_says (g.V.Volume.files c.args.volume.now) c.args.name.now c.args.slot c.in-Err.fault (c.requires.sized t) (c.in-Err.ensures.missing t) (c.in-Err.ensures.small t) c.in-Err.ensures.fields)

pub returns-in-Err-clause-short : goal.returns-in-Err-clause-short
returns-in-Err-clause-short g c t bytes is =
    subst (OrFailed (Small bytes)) (sym c.status_of_find.ensures)
    (unseen_fails (g.V.Volume.files c.args.volume.now) c.args.name.now c.args.slot c.in-Err.fault (Small bytes) (c.requires.sized t) (c.in-Err.ensures.missing t) (c.in-Err.ensures.small t) c.in-Err.ensures.fields)
