use Rattle.std.proofs.Common.{refl, ap, subst, sym, Err}
use Rattle.std.proofs.lemmas.Bool.{false≢true}
use Rattle.slot_finding.proofs.Causes.{first_says}
use Rattle.file_commands.specs.Report.{Fits, OfFileFor, Prints}
use Rattle.file_commands.proofs.SizeFound.{fit_refused, ungiven_refused}
use Rattle.file_commands.proofs.Telling.{none_ended, printed_ends, printed_no_fault, printed_says, printed_text, refused_ends, refused_prints, same_status}
use Rattle.file_commands.proofs.report.print_report.Goals as goal

pub returns-then-not-may_be_given-clause-device_unfailed : goal.returns-then-not-may_be_given-clause-device_unfailed
returns-then-not-may_be_given-clause-device_unfailed g c none = none_ended (record { made = refl; ended = refl }) refl

pub returns-then-not-may_be_given-clause-says : goal.returns-then-not-may_be_given-clause-says
returns-then-not-may_be_given-clause-says g c t = first_says

pub returns-then-not-may_be_given-clause-refused : goal.returns-then-not-may_be_given-clause-refused
returns-then-not-may_be_given-clause-refused g c = ungiven_refused g.V.Volume.tells (Fits c.args.report) (g.V.Volume.files c.args.volume.now) c.args.name.now c.args.given (λ may. false≢true (c.if-not-may_be_given.ensures.1 may))

pub returns-in-Err-clause-ends : goal.returns-in-Err-clause-ends
returns-in-Err-clause-ends g c = refused_ends (Fits c.args.report) c.args.given _ _ _ c.in-Err.status (c.if-not-may_be_given.ensures.0 refl) c.in-Err.ensures.ends

pub returns-in-Err-clause-prints : goal.returns-in-Err-clause-prints
returns-in-Err-clause-prints g c k = refused_prints (Fits c.args.report) c.args.given _ _ _ _ c.in-Err.status c.in-Err.ensures.ends

pub returns-in-Err-clause-device_unfailed : goal.returns-in-Err-clause-device_unfailed
returns-in-Err-clause-device_unfailed g c none = c.in-Err.ensures.unfailed (λ told. none (same_status told))

pub returns-in-Err-clause-early : goal.returns-in-Err-clause-early
returns-in-Err-clause-early g c t unfit =
    let early = c.in-Err.ensures.early t unfit in
    (early.0, λ told. early.1 (ap (λ s. Err s) told))

pub returns-in-Ok-clause-ends : goal.returns-in-Ok-clause-ends
returns-in-Ok-clause-ends g c = printed_ends (Fits c.args.report) c.args.given _ _ _ _ c.print_reading.result (c.if-not-may_be_given.ensures.0 refl) c.print_reading.ensures.ends

pub returns-in-Ok-clause-says : goal.returns-in-Ok-clause-says
returns-in-Ok-clause-says g c t = printed_says (Fits c.args.report) _ _ (g.V.Volume.files c.args.volume.now) c.args.name.now c.args.given c.print_reading.result (c.in-Ok.ensures.fits t refl) c.print_reading.ensures.ends

pub returns-in-Ok-clause-refused : goal.returns-in-Ok-clause-refused
returns-in-Ok-clause-refused g c =
    fit_refused g.V.Volume.tells (Fits c.args.report) (g.V.Volume.files c.args.volume.now) c.args.name.now c.args.given c.print_reading.result (c.if-not-may_be_given.ensures.0 refl) (λ t. c.in-Ok.ensures.fits t refl)

pub returns-in-Ok-clause-prints : goal.returns-in-Ok-clause-prints
returns-in-Ok-clause-prints g c k =
    printed_text _ _ _ _ c.print_reading.result (λ text is t. subst (OfFileFor (Prints c.args.report) (g.V.Volume.files c.args.volume.now) c.args.name.now c.args.given) (sym is) (c.in-Ok.ensures.prints t)) c.print_reading.ensures.ends (c.print_reading.ensures.prints k)

pub returns-in-Ok-clause-device_unfailed : goal.returns-in-Ok-clause-device_unfailed
returns-in-Ok-clause-device_unfailed g c none = c.in-Ok.ensures.unfailed (λ told. cc)

pub returns-in-Ok-clause-early : goal.returns-in-Ok-clause-early
returns-in-Ok-clause-early g c t unfit =
    let early = c.in-Ok.ensures.early t unfit in
    (early.0, λ told. absurd (printed_no_fault _ _ c.print_reading.result c.print_reading.ensures.ends told))
