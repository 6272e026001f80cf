use Rattle.std.proofs.Common.{◌≡◌, inl, length, map, drop, arith, ◌∙◌, ap, subst}
use Rattle.rock_disk.specs.Counts.{NoStation, NoneFailed}
use Rattle.rock_disk.specs.declared.volume.OpenFault.TheVariants as opening
use Rattle.file_commands.specs.Report.{Fits}
use Rattle.file_commands.proofs.Kept.{filled, slots_when_opened, one_count, out_still, handed_back}
use Rattle.file_commands.proofs.Telling.{none_ended, moved, not_failed_open, failed_open, only_unfit, open_refused, open_says, open_told, opened_refused, opened_says, same_counts}
use Rattle.file_commands.proofs.read.read_file.Goals as goal

pub read_if_fit-outcome-requires-clause-there : goal.read_if_fit-outcome-requires-clause-there
read_if_fit-outcome-requires-clause-there g c κs within t = c.opened_cells_are_the_files.ensures.there _ _ _ _ _ _ _ ((c.in-Ok.ensures.opened t).1)

pub read_if_fit-outcome-requires-clause-slots : goal.read_if_fit-outcome-requires-clause-slots
read_if_fit-outcome-requires-clause-slots g c κs within = rw c.deref_mut.ensures.value (c.opened_slots_are_wide_and_few.ensures.slots _ _ _ _ c.requires.size c.in-Ok.ensures.shape)

pub give_back-requires : goal.give_back-requires
give_back-requires g c t =
    let long : length c.read_if_fit-outcome.new.cells ≡ length c.deref_mut.result.now = c.read_if_fit-outcome.auto.cells in
    let whole = filled c.read_if_fit-outcome.new.cells (drop (length c.read_if_fit-outcome.new.cells) c.in-Ok.opened.cells.items) c.in-Ok.opened.cells.len (omega arith) in
    let same = ap (map g.V.C.Cell.state) whole ∙ (c.read_if_fit-outcome.ensures.cells ∙ ap (map g.V.C.Cell.state) c.deref_mut.ensures.value) in
    out_still c.opened_cells_may_be_given_back.ensures.out _ _ _ _ _ _ _ _ _ c.in-Ok.ensures.shape ((c.in-Ok.ensures.opened t).1) c.read_if_fit-outcome.ensures.files same

pub returns-in-Err-clause-refused : goal.returns-in-Err-clause-refused
returns-in-Err-clause-refused g c = open_refused (Fits c.args.report) _ _ c.in-Err.fault c.not_opened.result c.not_opened.ensures (λ failed. inl (c.in-Err.ensures.failed failed))

pub returns-in-Err-clause-says : goal.returns-in-Err-clause-says
returns-in-Err-clause-says g c t =
    open_says (Fits c.args.report) (g.V.Volume.files c.args.volume.now) c.args.name.now c.args.slot c.in-Err.fault c.not_opened.result c.not_opened.ensures (c.in-Err.ensures.missing t) (c.in-Err.ensures.small t)

pub returns-in-Err-clause-missing : goal.returns-in-Err-clause-missing
returns-in-Err-clause-missing g c t none = open_told c.in-Err.fault opening.Missing c.not_opened.result c.not_opened.ensures ((c.in-Err.ensures.missing t).1 none)

pub returns-in-Err-clause-small : goal.returns-in-Err-clause-small
returns-in-Err-clause-small g c t bytes is = open_told c.in-Err.fault (opening.Small bytes) c.not_opened.result c.not_opened.ensures ((c.in-Err.ensures.small t bytes).1 is)

pub returns-in-Err-clause-unfailed : goal.returns-in-Err-clause-unfailed
returns-in-Err-clause-unfailed g c none =
    none_ended (record { made = c.in-Err.ensures.made; ended = c.in-Err.ensures.ended }) (c.in-Err.ensures.unfailed (not_failed_open c.in-Err.fault c.not_opened.result c.not_opened.ensures none))

pub returns-in-Err-clause-early : goal.returns-in-Err-clause-early
returns-in-Err-clause-early g c t slots has not = (
  record { made = c.in-Err.ensures.made; ended = c.in-Err.ensures.ended },
  λ told. c.in-Err.ensures.failed (failed_open c.in-Err.fault c.not_opened.result c.not_opened.ensures told),
)

pub returns-clause-fits : goal.returns-clause-fits
returns-clause-fits g c t ok = (
  length c.in-Ok.opened.cells.items,
  slots_when_opened g.V.C.Cell.state c.in-Ok.opened.cells.items c.in-Ok.ensures.shape (c.opened_slots_are_wide_and_few.ensures.count _ _ _ _ c.in-Ok.ensures.shape) ((c.in-Ok.ensures.opened t).1),
  subst (λ cells. Fits c.args.report (length cells)) c.deref_mut.ensures.value (c.read_if_fit-outcome.ensures.fits ok),
)

pub returns-clause-refused : goal.returns-clause-refused
returns-clause-refused g c =
    opened_refused (Fits c.args.report) _ c.read_if_fit-outcome.result (same_counts (c.in-Ok.ensures.unfailed (λ w. cc)) c.in-Ok.ensures.made c.in-Ok.ensures.ended)
    (same_counts c.give_back.ensures.faults c.give_back.ensures.made c.give_back.ensures.ended) c.read_if_fit-outcome.ensures.refused

pub returns-clause-says : goal.returns-clause-says
returns-clause-says g c t =
    let mine = slots_when_opened g.V.C.Cell.state c.in-Ok.opened.cells.items c.in-Ok.ensures.shape (c.opened_slots_are_wide_and_few.ensures.count _ _ _ _ c.in-Ok.ensures.shape) ((c.in-Ok.ensures.opened t).1) in
    opened_says (Fits c.args.report) _ _ _ (g.V.Volume.files c.args.volume.now) c.args.name.now c.args.slot c.read_if_fit-outcome.result (rw c.deref_mut.ensures.value mine) c.read_if_fit-outcome.ensures.refused

pub returns-clause-missing : goal.returns-clause-missing
returns-clause-missing g c t none = let told = (c.in-Ok.ensures.missing t).1 none in absurd (cc)

pub returns-clause-small : goal.returns-clause-small
returns-clause-small g c t bytes is = let told = (c.in-Ok.ensures.small t bytes).1 is in absurd (cc)

pub returns-clause-kept : goal.returns-clause-kept
returns-clause-kept g c t =
    let long : length c.read_if_fit-outcome.new.cells ≡ length c.deref_mut.result.now = c.read_if_fit-outcome.auto.cells in
    let whole = filled c.read_if_fit-outcome.new.cells (drop (length c.read_if_fit-outcome.new.cells) c.in-Ok.opened.cells.items) c.in-Ok.opened.cells.len (omega arith) in
    let same = ap (map g.V.C.Cell.state) whole ∙ (c.read_if_fit-outcome.ensures.cells ∙ ap (map g.V.C.Cell.state) c.deref_mut.ensures.value) in
    c.opened_cells_may_be_given_back.ensures.kept _ _ _ _ _ _ _ _ ((c.in-Ok.ensures.opened t).1)
    (handed_back _ _ (g.V.Volume.files c.give_back.new.self) c.args.name.now _ _ _ c.read_if_fit-outcome.ensures.files same (λ slots slot rest found. c.give_back.ensures.back slots slot rest t found))

pub returns-clause-unfailed : goal.returns-clause-unfailed
returns-clause-unfailed g c none =
    moved (same_counts (c.in-Ok.ensures.unfailed (λ w. cc)) c.in-Ok.ensures.made c.in-Ok.ensures.ended) (same_counts c.give_back.ensures.faults c.give_back.ensures.made c.give_back.ensures.ended) NoneFailed
    (c.read_if_fit-outcome.ensures.unfailed none)

pub returns-clause-early : goal.returns-clause-early
returns-clause-early g c t slots has not =
    let mine = slots_when_opened g.V.C.Cell.state c.in-Ok.opened.cells.items c.in-Ok.ensures.shape (c.opened_slots_are_wide_and_few.ensures.count _ _ _ _ c.in-Ok.ensures.shape) ((c.in-Ok.ensures.opened t).1) in
    let count : length c.in-Ok.opened.cells.items ≡ slots = one_count (g.V.Volume.files c.args.volume.now) c.args.name.now c.args.slot _ slots mine has in
    let unfit =
    c.read_if_fit-outcome.ensures.unfit (λ fits. not (subst (λ n. Fits c.args.report n) count (subst (λ cells. Fits c.args.report (length cells)) c.deref_mut.ensures.value fits))) in (
      moved (same_counts (c.in-Ok.ensures.unfailed (λ w. cc)) c.in-Ok.ensures.made c.in-Ok.ensures.ended)
          (same_counts {f = g.V.Volume.faults c.give_back.new.self} {m = g.V.Volume.made c.give_back.new.self} {e = g.V.Volume.ended c.give_back.new.self} c.give_back.ensures.faults c.give_back.ensures.made c.give_back.ensures.ended)
          NoStation unfit.1,
      λ told. absurd (only_unfit c.read_if_fit-outcome.result unfit.0 told),
    )
