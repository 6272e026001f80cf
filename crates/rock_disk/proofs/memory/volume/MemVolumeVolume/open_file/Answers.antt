use Rattle.std.proofs.Common.{ap, ◌∙◌}
use Rattle.rock_disk.specs.declared.volume.OpenFault.TheVariants as opening
use Rattle.rock_disk.specs.declared.memory.entry.Entry.{Entry}
use Rattle.rock_disk.proofs.Places.{same_at}
use Rattle.rock_disk.proofs.Openings.{room_at, opened_at}
use Rattle.rock_disk.proofs.Refusals.{passed_on, no_room, has_shape}
use Rattle.rock_disk.proofs.memory.volume.MemVolumeVolume.open_file.Goals as goal

pub returns-in_err-place-clause-short : goal.returns-in_err-place-clause-short
returns-in_err-place-clause-short c bytes w =
    let small = (passed_on c.in_err-place.field-0.0 (opening.Small bytes) c.from_residual.result c.from_residual.ensures.1 (c.in_err-place.ensures.small bytes)).0 w in
    small.short

pub returns-in_err-place-clause-small : goal.returns-in_err-place-clause-small
returns-in_err-place-clause-small c bytes =
    rw (← c.deref.ensures.value) (passed_on c.in_err-place.field-0.0 (opening.Small bytes) c.from_residual.result c.from_residual.ensures.1 (c.in_err-place.ensures.small bytes))

pub returns-in_err-place-clause-listed : goal.returns-in_err-place-clause-listed
returns-in_err-place-clause-listed c = (
  λ w. absurd ((passed_on c.in_err-place.field-0.0 opening.Failed c.from_residual.result c.from_residual.ensures.1 (c.in_err-place.ensures.failed, λ none. absurd none)).0 w),
  λ (listed, room). absurd (no_room c.in_err-place.field-0.0 _ c.args.name.now c.args.slot c.in_err-place.ensures.missing c.in_err-place.ensures.small c.in_err-place.ensures.failed c.in_err-place.ensures.memory (rw c.deref.ensures.value room)),
)

pub cut_file-requires-clause-room : goal.cut_file-requires-clause-room
cut_file-requires-clause-room c =
    room_at c.args.name.now c.args.self.now.entries.items c.deref.result.now c.in_ok-place.place c.index.result.now c.args.slot c.deref-2.result.now
    c.deref.ensures.value c.in_ok-place.ensures.place c.index.ensures (c.deref-2.ensures.value ∙ c.in_ok-bytes.ensures) c.in_ok-place.ensures.room

pub returns-clause-shape : goal.returns-clause-shape
returns-clause-shape c =
    let room =
    room_at c.args.name.now c.args.self.now.entries.items c.deref.result.now c.in_ok-place.place c.index.result.now c.args.slot c.deref-2.result.now
    c.deref.ensures.value c.in_ok-place.ensures.place c.index.ensures (c.deref-2.ensures.value ∙ c.in_ok-bytes.ensures) c.in_ok-place.ensures.room in
    has_shape c.args.slot c.deref-2.result.now _ _ _ (rw c.in_ok-opened.ensures.bytes room) c.in_ok-opened.ensures.bytes c.in_ok-opened.ensures.header c.in_ok-opened.ensures.cells

pub returns-clause-opened : goal.returns-clause-opened
returns-clause-opened c =
    opened_at c.args.name.now c.args.self.now.entries.items c.deref.result.now c.in_ok-place.place c.index.result.now
    (record { name = c.index_mut.result.now.name; file = c.in_ok-opened.field-0.away }) c.args.slot _ _ _ c.deref-2.result.now
    c.deref.ensures.value c.in_ok-place.ensures.place c.index.ensures
    (ap (λ (e : Entry). e.name) (same_at c.args.name.now c.args.self.now.entries.items c.deref.result.now c.in_ok-place.place c.index_mut.result.now c.index.result.now c.deref.ensures.value c.in_ok-place.ensures.place c.index_mut.ensures.value c.index.ensures))
    (c.deref-2.ensures.value ∙ c.in_ok-bytes.ensures)
    c.in_ok-opened.ensures.bytes c.in_ok-opened.ensures.header c.in_ok-opened.ensures.cells c.in_ok-opened.ensures.away
