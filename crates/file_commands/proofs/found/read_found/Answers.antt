use Rattle.std.proofs.Common.{inr, refl, subst, sym}
use Rattle.std.specs.Prelude.{IfErr, IsErrOf, ℕ}
use Rattle.rock_io.specs.Faults.{Rose}
use Rattle.rock_disk.specs.Counts.{NoStation}
use Rattle.rock_disk.specs.File.{Files, IsKept}
use Rattle.rock_disk.specs.Opened.{IsSmall}
use Rattle.rock_status.specs.declared.status.Status.TheVariants.{Small}
use Rattle.slot_finding.proofs.Causes.{of_one}
use Rattle.file_commands.specs.Report.{Fits, IsUnfit, ReadSays}
use Rattle.file_commands.proofs.SizeFound.{due_err, found_refused, found_says, unfound_refused, unfound_says}
use Rattle.file_commands.proofs.Telling.{moved, same_counts}
use Rattle.file_commands.proofs.found.read_found.Goals as goal

pub returns-in-Err-clause-says : goal.returns-in-Err-clause-says
returns-in-Err-clause-says g c t = unfound_says (Fits c.args.report) (g.V.Volume.files c.args.volume.now) c.args.name.now c.args.given c.in-Err.fault c.status_of_find.result c.status_of_find.ensures (c.in-Err.ensures.says t)

pub returns-in-Err-clause-refused : goal.returns-in-Err-clause-refused
returns-in-Err-clause-refused g c =
    unfound_refused g.V.Volume.tells (Fits c.args.report) (g.V.Volume.files c.args.volume.now) c.args.name.now c.args.given c.in-Err.fault c.status_of_find.result c.status_of_find.ensures c.requires.given
    c.in-Err.ensures.complete c.in-Err.ensures.missing c.in-Err.ensures.small c.in-Err.ensures.wrong c.in-Err.ensures.differs c.in-Err.ensures.unknown

pub returns-clause-kept : goal.returns-clause-kept
returns-clause-kept g c t =
    inr (c.in-Ok.slot, c.in-Ok.ensures.found t, subst (λ (f : Files). IsKept c.in-Ok.slot c.args.name.now f (g.V.Volume.files c.read_file.new.volume)) c.in-Ok.ensures.files (c.read_file.ensures.kept t))

pub returns-clause-says : goal.returns-clause-says
returns-clause-says g c t =
    found_says (Fits c.args.report) _ _ (g.V.Volume.files c.args.volume.now) c.args.name.now c.args.given c.in-Ok.slot c.read_file.result (c.in-Ok.ensures.found t) c.read_file.ensures.refused
    (subst (λ (f : Files). IfErr c.read_file.result (ReadSays (Fits c.args.report) f c.args.name.now c.in-Ok.slot)) c.in-Ok.ensures.files (c.read_file.ensures.says t))

pub returns-clause-refused : goal.returns-clause-refused
returns-clause-refused g c =
    found_refused g.V.Volume.tells (Fits c.args.report) _ _ (g.V.Volume.files c.args.volume.now) c.args.name.now c.args.given c.in-Ok.slot c.read_file.result c.requires.given c.in-Ok.ensures.found c.read_file.ensures.refused
    (λ t. subst (λ (f : Files). IfErr c.read_file.result (ReadSays (Fits c.args.report) f c.args.name.now c.in-Ok.slot)) c.in-Ok.ensures.files (c.read_file.ensures.says t))
    (λ t bytes small. due_err c.read_file.result (Small bytes) (subst (λ (f : Files). (n : ℕ) → IsSmall f c.args.name.now c.in-Ok.slot n → IsErrOf c.read_file.result (Small n)) c.in-Ok.ensures.files (c.read_file.ensures.small t) bytes small))

pub returns-clause-early : goal.returns-clause-early
returns-clause-early g c t unfit =
    let mine = of_one (g.V.Volume.files c.args.volume.now) c.args.name.now c.args.given c.in-Ok.slot (c.in-Ok.ensures.found t) unfit in
    let there = subst (λ (f : Files). IsUnfit (Fits c.args.report) f c.args.name.now c.in-Ok.slot) (sym c.in-Ok.ensures.files) mine in
    let early = c.read_file.ensures.early t there.0 there.1 there.2 in (
      moved (same_counts (c.in-Ok.ensures.unfailed (λ w. cc)) c.in-Ok.ensures.made c.in-Ok.ensures.ended) refl NoStation early.0,
      λ told. subst (λ (n : ℕ). Rose n (g.V.Volume.faults c.read_file.new.volume)) (c.in-Ok.ensures.unfailed (λ w. cc)) (early.1 told),
    )
