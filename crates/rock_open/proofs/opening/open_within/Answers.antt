use Rattle.std.proofs.Common.{ap, arith, drop, length, map, refl, subst, sym, ◌++◌, ◌≡◌, ◌∙◌, ⊎_elim, take}
use Rattle.std.proofs.lemmas.List.{length-map}
use Rattle.rock_disk.specs.Cell.{shape}
use Rattle.rock_disk.specs.File.{bytes_of}
use Rattle.rock_disk.specs.Opened.{HasShape}
use Rattle.rock_disk.specs.declared.volume.OpenFault.TheVariants as opening
use Rattle.rock_disk.specs.Counts.{counts}
use Rattle.rock_open.specs.Opening.{FileSays, IsAnchors, ReadingEnds}
use Rattle.rock_open.proofs.Cells.{few_of, rebuilds, row_of, sure_of}
use Rattle.rock_open.proofs.Files.{filled, handed_back, of_error, on_ok, out_still, slots_when_opened}
use Rattle.rock_open.proofs.Refusals.{ended_around, has_slots, none_around, one_around, one_count, handed_up, ok_is_no_error, open_told, opened_refused, opened_says, unfailed_around}
use Rattle.rock_open.proofs.opening.open_within.Goals as goal

pub returns-in-Err-clause-small : goal.returns-in-Err-clause-small
returns-in-Err-clause-small g c t bytes is = open_told c.in-Err.fault (opening.Small bytes) c.of_open.result c.of_open.ensures ((c.in-Err.ensures.small t bytes).1 is)

pub kept_of-kept-requires-clause-slots : goal.kept_of-kept-requires-clause-slots
kept_of-kept-requires-clause-slots g c κs within = rw c.deref_mut.ensures.value (c.opened_slots_are_wide_and_few.ensures.slots _ _ _ _ c.requires.size c.in-Ok.ensures.shape)

pub store_of-requires-clause-slots : goal.store_of-requires-clause-slots
store_of-requires-clause-slots g c =
    let long : length c.kept_of-kept.new.cells ≡ length c.deref_mut.result.now = c.kept_of-kept.auto.cells in
    let whole = filled c.kept_of-kept.new.cells (drop (length c.kept_of-kept.new.cells) c.in-Ok.opened.cells.items) c.in-Ok.opened.cells.len (omega arith) in
    let same = ap (map g.V.C.Cell.state) whole ∙ (c.kept_of-kept.ensures.cells ∙ ap (map g.V.C.Cell.state) c.deref_mut.ensures.value) in
    few_of g.V.C.Cell.state _ _ same (c.opened_slots_are_wide_and_few.ensures.few _ _ _ _ c.in-Ok.ensures.shape)

pub store_of-requires-clause-row : goal.store_of-requires-clause-row
store_of-requires-clause-row g c =
    let long : length c.kept_of-kept.new.cells ≡ length c.deref_mut.result.now = c.kept_of-kept.auto.cells in
    let whole = filled c.kept_of-kept.new.cells (drop (length c.kept_of-kept.new.cells) c.in-Ok.opened.cells.items) c.in-Ok.opened.cells.len (omega arith) in
    let same = ap (map g.V.C.Cell.state) whole ∙ (c.kept_of-kept.ensures.cells ∙ ap (map g.V.C.Cell.state) c.deref_mut.ensures.value) in
    row_of g.V.C.Cell.state c.args.slot _ _ (ap (map shape) same ∙ c.in-Ok.ensures.shape.cell_shapes)

pub store_of-requires-clause-sure : goal.store_of-requires-clause-sure
store_of-requires-clause-sure g c =
    let long : length c.kept_of-kept.new.cells ≡ length c.deref_mut.result.now = c.kept_of-kept.auto.cells in
    let whole = filled c.kept_of-kept.new.cells (drop (length c.kept_of-kept.new.cells) c.in-Ok.opened.cells.items) c.in-Ok.opened.cells.len (omega arith) in
    let same = ap (map g.V.C.Cell.state) whole ∙ (c.kept_of-kept.ensures.cells ∙ ap (map g.V.C.Cell.state) c.deref_mut.ensures.value) in
    sure_of g.V.C.Cell.state g.V.C.Cell.tells c.args.slot _
    (λ told. let opened = (c.in-Ok.ensures.opened (g.met.V.Volume.cells_tell told)).1 in (bytes_of opened.was, same ∙ opened.cells_are))

pub store_of-requires-clause-kept : goal.store_of-requires-clause-kept
store_of-requires-clause-kept g c =
    let long : length c.kept_of-kept.new.cells ≡ length c.deref_mut.result.now = c.kept_of-kept.auto.cells in
    let whole = filled c.kept_of-kept.new.cells (drop (length c.kept_of-kept.new.cells) c.in-Ok.opened.cells.items) c.in-Ok.opened.cells.len (omega arith) in
    rebuilds g.V.C.Cell.state g.V.C.Cell.tells c.args.slot c.args.anchors _ _ c.kept_of-kept.result (ap (map g.V.C.Cell.state) whole ∙ c.kept_of-kept.ensures.cells) c.kept_of-kept.ensures.kept

pub returns-in-Ok-store_of-clause-opened : goal.returns-in-Ok-store_of-clause-opened
returns-in-Ok-store_of-clause-opened g c =
    let long : length c.kept_of-kept.new.cells ≡ length c.deref_mut.result.now = c.kept_of-kept.auto.cells in
    let whole = filled c.kept_of-kept.new.cells (drop (length c.kept_of-kept.new.cells) c.in-Ok.opened.cells.items) c.in-Ok.opened.cells.len (omega arith) in
    let same = ap (map g.V.C.Cell.state) whole ∙ (c.kept_of-kept.ensures.cells ∙ ap (map g.V.C.Cell.state) c.deref_mut.ensures.value) in record {
      bytes = c.in-Ok.opened.bytes;
      cells = take c.in-Ok.opened.cells.len (c.kept_of-kept.new.cells ++ drop (length c.kept_of-kept.new.cells) c.in-Ok.opened.cells.items);
      shape = subst (λ z. HasShape c.args.slot c.in-Ok.opened.bytes (g.V.C.Cell.state c.in-Ok.opened.header) z) (sym same) c.in-Ok.ensures.shape;
      fit = subst (λ n. IsAnchors c.args.anchors n) (sym (ap length whole ∙ long)) (on_ok (IsAnchors c.args.anchors (length c.deref_mut.result.now)) c.kept_of-kept.result c.in-Ok-store_of.ensures.ok c.kept_of-kept.ensures.fit);
      told = λ t. (c.in-Ok.ensures.opened t).0;
      out = λ t. out_still _ _ _ _ _ _ _ _ _ c.kept_of-kept.ensures.files same ((c.in-Ok.ensures.opened t).1);
      store = c.in-Ok-store_of.ensures.made;
    }

pub returns-in-Ok-store_of-clause-unfit : goal.returns-in-Ok-store_of-clause-unfit
returns-in-Ok-store_of-clause-unfit g c t slots has not =
    let mine = slots_when_opened g.V.C.Cell.state c.in-Ok.opened.cells.items c.in-Ok.ensures.shape (c.opened_slots_are_wide_and_few.ensures.count _ _ _ _ c.in-Ok.ensures.shape) ((c.in-Ok.ensures.opened t).1) in
    let count : length c.in-Ok.opened.cells.items ≡ slots = one_count (g.V.Volume.files c.args.volume.now) c.args.name.now c.args.slot _ slots mine has in
    let fits = on_ok (IsAnchors c.args.anchors (length c.deref_mut.result.now)) c.kept_of-kept.result c.in-Ok-store_of.ensures.ok c.kept_of-kept.ensures.fit in
    absurd (not (subst (λ n. IsAnchors c.args.anchors n) count (subst (λ cells. IsAnchors c.args.anchors (length cells)) c.deref_mut.ensures.value fits)))

pub returns-in-Ok-store_of-clause-ended : goal.returns-in-Ok-store_of-clause-ended
returns-in-Ok-store_of-clause-ended g c = ended_around _ _ _ _ _ _ _ _ _ _ _ _ (c.in-Ok.ensures.unfailed (λ w. cc)) c.in-Ok.ensures.made c.in-Ok.ensures.ended refl refl refl c.kept_of-kept.ensures.ended

pub returns-in-Ok-store_of-clause-one : goal.returns-in-Ok-store_of-clause-one
returns-in-Ok-store_of-clause-one g c = one_around _ _ _ _ _ _ _ _ _ _ _ _ (c.in-Ok.ensures.unfailed (λ w. cc)) c.in-Ok.ensures.made c.in-Ok.ensures.ended refl refl refl
    (on_ok _ c.kept_of-kept.result c.in-Ok-store_of.ensures.ok c.kept_of-kept.ensures.one)

pub returns-in-Err-store_of-clause-refused : goal.returns-in-Err-store_of-clause-refused
returns-in-Err-store_of-clause-refused g c =
    let slots = length c.deref_mut.result.now in let fault = c.in-Err-store_of.field-0.fault in
    let before = counts g.V.Volume.faults g.V.Volume.made g.V.Volume.ended c.args.volume.now in
    let after = counts g.V.Volume.faults g.V.Volume.made g.V.Volume.ended c.give_back.new.self in
    ⊎_elim
    (λ e. opened_refused _ _ _ _ _ _ _ _ _ _ _ _ (c.in-Ok.ensures.unfailed (λ w. cc)) c.in-Ok.ensures.made c.in-Ok.ensures.ended c.give_back.ensures.faults c.give_back.ensures.made c.give_back.ensures.ended
    c.args.slot c.args.anchors slots fault
    (has_slots c.in-Ok.opened.bytes c.args.slot _ c.in-Ok.ensures.shape.room (ap length c.deref_mut.ensures.value ∙ sym (length-map c.in-Ok.opened.cells.items g.V.C.Cell.state) ∙ c.opened_slots_are_wide_and_few.ensures.count _ _ _ _ c.in-Ok.ensures.shape)
    (c.slots_are_whole.ensures.none c.in-Ok.opened.bytes c.args.slot (let size = c.requires.size.from in omega arith)).0)
    (of_error _ c.kept_of-kept.result fault e c.kept_of-kept.ensures.refused))
    (λ e. subst (ReadingEnds c.args.slot c.args.anchors before after) (sym e.1) tt)
    c.in-Err-store_of.ensures.fault

pub returns-in-Err-store_of-clause-says : goal.returns-in-Err-store_of-clause-says
returns-in-Err-store_of-clause-says g c t =
    let fault = c.in-Err-store_of.field-0.fault in let files = g.V.Volume.files c.args.volume.now in
    let mine = slots_when_opened g.V.C.Cell.state c.in-Ok.opened.cells.items c.in-Ok.ensures.shape (c.opened_slots_are_wide_and_few.ensures.count _ _ _ _ c.in-Ok.ensures.shape) ((c.in-Ok.ensures.opened t).1) in
    ⊎_elim
    (λ e. opened_says files c.args.name.now c.args.slot c.args.anchors (length c.deref_mut.result.now) _ _ fault (rw c.deref_mut.ensures.value mine)
    (of_error _ c.kept_of-kept.result fault e c.kept_of-kept.ensures.refused))
    (λ e. subst (FileSays files c.args.name.now c.args.slot c.args.anchors) (sym e.1) tt)
    c.in-Err-store_of.ensures.fault

pub returns-in-Err-store_of-clause-unfit : goal.returns-in-Err-store_of-clause-unfit
returns-in-Err-store_of-clause-unfit g c t slots has not =
    let mine = slots_when_opened g.V.C.Cell.state c.in-Ok.opened.cells.items c.in-Ok.ensures.shape (c.opened_slots_are_wide_and_few.ensures.count _ _ _ _ c.in-Ok.ensures.shape) ((c.in-Ok.ensures.opened t).1) in
    let count : length c.in-Ok.opened.cells.items ≡ slots = one_count (g.V.Volume.files c.args.volume.now) c.args.name.now c.args.slot _ slots mine has in
    let unfit = c.kept_of-kept.ensures.unfit (λ fits. not (subst (λ n. IsAnchors c.args.anchors n) count (subst (λ cells. IsAnchors c.args.anchors (length cells)) c.deref_mut.ensures.value fits))) in (
      refl,
      none_around _ _ _ _ _ _ _ _ _ _ _ _ (c.in-Ok.ensures.unfailed (λ w. cc)) c.in-Ok.ensures.made c.in-Ok.ensures.ended c.give_back.ensures.faults c.give_back.ensures.made c.give_back.ensures.ended unfit.1,
    )

pub returns-in-Err-store_of-clause-kept : goal.returns-in-Err-store_of-clause-kept
returns-in-Err-store_of-clause-kept g c t =
    let long : length c.kept_of-kept.new.cells ≡ length c.deref_mut.result.now = c.kept_of-kept.auto.cells in
    let whole = filled c.kept_of-kept.new.cells (drop (length c.kept_of-kept.new.cells) c.in-Ok.opened.cells.items) c.in-Ok.opened.cells.len (omega arith) in
    let same = ap (map g.V.C.Cell.state) c.in-Err-store_of.ensures.cells
    ∙ (ap (map g.V.C.Cell.state) whole ∙ (c.kept_of-kept.ensures.cells ∙ ap (map g.V.C.Cell.state) c.deref_mut.ensures.value)) in
    c.opened_cells_may_be_given_back.ensures.kept _ _ _ _ _ _ _ _ ((c.in-Ok.ensures.opened t).1)
    (handed_back _ _ (g.V.Volume.files c.give_back.new.self) c.args.name.now _ _ _ c.kept_of-kept.ensures.files same (λ slots slot rest found. c.give_back.ensures.back slots slot rest t found))

pub returns-in-Ok-store_of-clause-unfailed : goal.returns-in-Ok-store_of-clause-unfailed
returns-in-Ok-store_of-clause-unfailed g c none = unfailed_around _ _ _ _ _ _ _ _ _ _ _ _ (c.in-Ok.ensures.unfailed (λ w. cc)) c.in-Ok.ensures.made c.in-Ok.ensures.ended refl refl refl
    (c.kept_of-kept.ensures.unfailed (ok_is_no_error c.kept_of-kept.result c.in-Ok-store_of.ensures.ok))

pub returns-in-Err-store_of-clause-unfailed : goal.returns-in-Err-store_of-clause-unfailed
returns-in-Err-store_of-clause-unfailed g c none = unfailed_around _ _ _ _ _ _ _ _ _ _ _ _ (c.in-Ok.ensures.unfailed (λ w. cc)) c.in-Ok.ensures.made c.in-Ok.ensures.ended
    c.give_back.ensures.faults c.give_back.ensures.made c.give_back.ensures.ended
    (c.kept_of-kept.ensures.unfailed (handed_up c.kept_of-kept.result c.in-Err-store_of.field-0.fault c.in-Err-store_of.ensures.fault none))
