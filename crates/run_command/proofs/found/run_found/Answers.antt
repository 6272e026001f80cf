use Rattle.std.proofs.Common.{inl, map, subst, sym}
use Rattle.std.proofs.lemmas.Bool.{false≢true}
use Rattle.std.specs.Prelude.{IsTrue}
use Rattle.std.specs.FinMap.{get}
use Rattle.rock_disk.specs.File.{Files, IsKept, IsNotAway, NoneAway}
use Rattle.rock_disk.specs.Opened.{IsSmall}
use Rattle.rock_open.specs.declared.fault.OpenStoreFault.TheVariants as running
use Rattle.rock_disk.specs.Counts.{Counts, NoStation, counts}
use Rattle.rock_open.specs.Opening.{FileSays as OpeningSays, HasSlots}
use Rattle.rock_run.specs.Device.{RunEnded, RunUnfailed, RunEnds as RefusalEnds}
use Rattle.rock_run.specs.Runs.{HasClosed, HasRun, RefusalLeaves}
use Rattle.run_command.specs.Says.{Fits}
use Rattle.run_command.proofs.Filed.{fits_when_opened}
use Rattle.run_command.proofs.SizeFound.{before_as, found_ends, found_kept, found_refused, found_says}
use Rattle.run_command.proofs.Unfound.{unfound_ends, unfound_kept, unfound_refused, unfound_says}
use Rattle.run_command.proofs.found.run_found.Goals as goal

pub returns-in-Err-clause-ends : goal.returns-in-Err-clause-ends
returns-in-Err-clause-ends g c =
    unfound_ends c.args.target.now.slot c.args.target.now.anchors _ _ c.in-Err.fault c.status_of_find.result c.status_of_find.ensures
    (record { made = c.in-Err.ensures.made; ended = c.in-Err.ensures.ended }) c.in-Err.ensures.short c.in-Err.ensures.fields
    c.in-Err.ensures.failed

pub returns-in-Err-clause-says : goal.returns-in-Err-clause-says
returns-in-Err-clause-says g c told = unfound_says (g.V.Volume.files c.args.volume.now) c.args.target.now.name.now c.args.target.now.slot
    c.args.target.now.anchors c.in-Err.fault c.status_of_find.result c.status_of_find.ensures (c.in-Err.ensures.says told)

pub returns-in-Err-clause-refused : goal.returns-in-Err-clause-refused
returns-in-Err-clause-refused g c =
    unfound_refused g.V.Volume.tells (g.V.Volume.files c.args.volume.now) c.args.target.now.name.now c.args.target.now.slot
    c.args.target.now.anchors _ _ c.in-Err.fault c.status_of_find.result c.status_of_find.ensures
    (record { made = c.in-Err.ensures.made; ended = c.in-Err.ensures.ended })
    c.in-Err.ensures.complete c.in-Err.ensures.missing c.in-Err.ensures.small c.in-Err.ensures.wrong c.in-Err.ensures.differs
    c.in-Err.ensures.unknown

pub returns-in-Err-clause-kept : goal.returns-in-Err-clause-kept
returns-in-Err-clause-kept g c = unfound_kept _ _ c.in-Err.fault c.status_of_find.result c.status_of_find.ensures
    (λ told. inl c.in-Err.ensures.files)

pub run_script-requires-clause-home : goal.run_script-requires-clause-home
run_script-requires-clause-home g c κs within told = subst (λ (f : Files). IsNotAway (get f c.args.target.now.name.now))
    (sym c.in-Ok.ensures.files) (c.requires.home told)

pub returns-in-Ok-run_script-clause-ran : goal.returns-in-Ok-run_script-clause-ran
returns-in-Ok-run_script-clause-ran g c = record {
  slot = c.in-Ok.slot;
  sized = (record { sized = c.in-Ok.ensures.size; same = c.in-Ok.ensures.same; found = c.in-Ok.ensures.found });
  ran = before_as (λ (b : Counts). HasRun g.V.Volume.tells g.V.C.Cell.tells g.V.C.Cell.state (g.V.Volume.files c.args.volume.now)
      (g.V.Volume.files c.run_script.new.volume) c.args.target.now.name.now c.in-Ok.slot c.args.target.now.anchors c.args.target.now.workers
      c.args.script.now.lines g.V.St.Station.faults (map (λ each. each.items) c.in-Ok-run_script.answers.items) b
      (counts g.V.Volume.faults g.V.Volume.made g.V.Volume.ended c.run_script.new.volume))
      _ _ _ _ _ _ (c.in-Ok.ensures.unfailed (λ w. cc)) c.in-Ok.ensures.made c.in-Ok.ensures.ended
      (subst (λ (f : Files). HasRun g.V.Volume.tells g.V.C.Cell.tells g.V.C.Cell.state f
      (g.V.Volume.files c.run_script.new.volume) c.args.target.now.name.now c.in-Ok.slot c.args.target.now.anchors
      c.args.target.now.workers c.args.script.now.lines g.V.St.Station.faults
      (map (λ each. each.items) c.in-Ok-run_script.answers.items)
      (counts g.V.Volume.faults g.V.Volume.made g.V.Volume.ended c.find_slot.new.volume)
      (counts g.V.Volume.faults g.V.Volume.made g.V.Volume.ended c.run_script.new.volume))
      c.in-Ok.ensures.files c.in-Ok-run_script.ensures.ran);
}

pub returns-in-Ok-run_script-clause-fits : goal.returns-in-Ok-run_script-clause-fits
returns-in-Ok-run_script-clause-fits g c told ok =
    let opened = c.in-Ok-run_script.ensures.ran.closed.opened in
    let fits = fits_when_opened _ _ _ _ _ _ _ _ opened.shape (opened.out told)
    (λ slots has not. false≢true (c.in-Ok-run_script.ensures.bad_anchors told slots has not).0) in (
      c.in-Ok.slot,
      c.in-Ok.ensures.found told,
      subst (λ (f : Files).
          Fits f c.args.target.now.name.now c.in-Ok.slot c.args.target.now.anchors) c.in-Ok.ensures.files fits,
    )

pub returns-in-Ok-run_script-clause-back : goal.returns-in-Ok-run_script-clause-back
returns-in-Ok-run_script-clause-back g c told home = c.in-Ok-run_script.ensures.back told (subst NoneAway (sym c.in-Ok.ensures.files) home)

pub returns-in-Ok-run_script-clause-ended : goal.returns-in-Ok-run_script-clause-ended
returns-in-Ok-run_script-clause-ended g c = before_as (λ (b : Counts).
    RunEnded b (counts g.V.Volume.faults g.V.Volume.made g.V.Volume.ended c.run_script.new.volume)) _ _ _ _ _ _
    (c.in-Ok.ensures.unfailed (λ w. cc)) c.in-Ok.ensures.made c.in-Ok.ensures.ended c.in-Ok-run_script.ensures.ended

pub returns-in-Ok-run_script-clause-unfailed : goal.returns-in-Ok-run_script-clause-unfailed
returns-in-Ok-run_script-clause-unfailed g c none = before_as (λ (b : Counts).
    RunUnfailed b (counts g.V.Volume.faults g.V.Volume.made g.V.Volume.ended c.run_script.new.volume)) _ _ _ _ _ _
    (c.in-Ok.ensures.unfailed (λ w. cc)) c.in-Ok.ensures.made c.in-Ok.ensures.ended (c.in-Ok-run_script.ensures.unfailed (λ w. cc))

pub returns-in-Err-run_script-clause-ends : goal.returns-in-Err-run_script-clause-ends
returns-in-Err-run_script-clause-ends g c =
    rw c.status_of_run.ensures (found_ends c.args.target.now.slot c.in-Ok.slot c.args.target.now.anchors c.args.target.now.workers _ _
    c.in-Err-run_script.fault c.in-Ok.ensures.size c.requires.workers c.in-Ok.ensures.same
    (before_as (λ (b : Counts). RefusalEnds c.in-Ok.slot c.args.target.now.anchors c.args.target.now.workers b
    (counts g.V.Volume.faults g.V.Volume.made g.V.Volume.ended c.run_script.new.volume) c.in-Err-run_script.fault) _ _ _ _ _ _
    (c.in-Ok.ensures.unfailed (λ w. cc)) c.in-Ok.ensures.made c.in-Ok.ensures.ended c.in-Err-run_script.ensures.refused))

pub returns-in-Err-run_script-clause-says : goal.returns-in-Err-run_script-clause-says
returns-in-Err-run_script-clause-says g c told =
    rw c.status_of_run.ensures (found_says (g.V.Volume.files c.args.volume.now) c.args.target.now.name.now c.args.target.now.slot
    c.in-Ok.slot c.args.target.now.anchors c.args.target.now.workers _ _ c.in-Err-run_script.fault c.in-Ok.ensures.size
    c.requires.workers c.in-Err-run_script.ensures.refused (c.in-Ok.ensures.found told)
    (subst (λ (f : Files). OpeningSays f c.args.target.now.name.now c.in-Ok.slot c.args.target.now.anchors c.in-Err-run_script.fault)
    c.in-Ok.ensures.files (c.in-Err-run_script.ensures.says told)))

pub returns-in-Err-run_script-clause-refused : goal.returns-in-Err-run_script-clause-refused
returns-in-Err-run_script-clause-refused g c =
    rw c.status_of_run.ensures (found_refused g.V.Volume.tells (g.V.Volume.files c.args.volume.now) c.args.target.now.name.now
    c.args.target.now.slot c.in-Ok.slot c.args.target.now.anchors c.args.target.now.workers _ _ c.in-Err-run_script.fault
    c.in-Ok.ensures.size c.requires.workers c.in-Ok.ensures.found
    (before_as (λ (b : Counts). RefusalEnds c.in-Ok.slot c.args.target.now.anchors c.args.target.now.workers b
    (counts g.V.Volume.faults g.V.Volume.made g.V.Volume.ended c.run_script.new.volume) c.in-Err-run_script.fault) _ _ _ _ _ _
    (c.in-Ok.ensures.unfailed (λ w. cc)) c.in-Ok.ensures.made c.in-Ok.ensures.ended c.in-Err-run_script.ensures.refused)
    (λ told. subst (λ (f : Files). OpeningSays f c.args.target.now.name.now c.in-Ok.slot c.args.target.now.anchors
    c.in-Err-run_script.fault) c.in-Ok.ensures.files (c.in-Err-run_script.ensures.says told))
    (λ told bytes is. c.in-Err-run_script.ensures.small told c.in-Ok.ensures.size c.requires.workers bytes
    (subst (λ (f : Files). IsSmall f c.args.target.now.name.now c.in-Ok.slot bytes) (sym c.in-Ok.ensures.files) is))
    (λ told slots has not. before_as (λ (b : Counts). NoStation b (counts g.V.Volume.faults g.V.Volume.made g.V.Volume.ended
    c.run_script.new.volume)) _ _ _ _ _ _ (c.in-Ok.ensures.unfailed (λ w. cc)) c.in-Ok.ensures.made c.in-Ok.ensures.ended
    (c.in-Err-run_script.ensures.bad_anchors told slots (subst (λ (f : Files). HasSlots f c.args.target.now.name.now c.in-Ok.slot slots)
    (sym c.in-Ok.ensures.files) has) not).1))

pub returns-in-Err-run_script-clause-kept : goal.returns-in-Err-run_script-clause-kept
returns-in-Err-run_script-clause-kept g c =
    rw c.status_of_run.ensures (found_kept g.V.Volume.tells g.V.C.Cell.tells g.V.C.Cell.state (g.V.Volume.files c.args.volume.now)
    (g.V.Volume.files c.run_script.new.volume) c.args.target.now.name.now c.args.target.now.slot c.in-Ok.slot c.args.target.now.anchors
    c.args.target.now.workers c.args.script.now.lines (record {
      sized = c.in-Ok.ensures.size;
      same = c.in-Ok.ensures.same;
      found =
          c.in-Ok.ensures.found;
    }) c.in-Err-run_script.fault
    (subst (λ (f : Files). RefusalLeaves (IsTrue g.V.Volume.tells → IsKept c.in-Ok.slot c.args.target.now.name.now f
    (g.V.Volume.files c.run_script.new.volume)) (HasClosed g.V.Volume.tells g.V.C.Cell.tells g.V.C.Cell.state f
    (g.V.Volume.files c.run_script.new.volume) c.args.target.now.name.now c.in-Ok.slot c.args.target.now.anchors
    c.args.target.now.workers c.args.script.now.lines) c.in-Err-run_script.fault)
    c.in-Ok.ensures.files c.in-Err-run_script.ensures.kept))
