use Rattle.std.proofs.Common.{◌≡◌, ◌+◌, ◌≤◌, length, take, sym, ap, ◌∙◌, arith}
use Rattle.rock_disk.specs.declared.volume.PeekFault.TheVariants as peeking
use Rattle.rock_disk.proofs.Places.{found_at}
use Rattle.rock_disk.proofs.Openings.{room_at}
use Rattle.rock_disk.proofs.Peeking.{front_long, no_header, passed, peeked}
use Rattle.rock_disk.proofs.memory.volume.MemVolumeVolume.peek.Goals as goal

pub returns-in_err-place-clause-short : goal.returns-in_err-place-clause-short
returns-in_err-place-clause-short c bytes w =
    let small = (passed c.in_err-place.field-0.0 (peeking.Small bytes) c.from_residual.result c.from_residual.ensures.1 (c.in_err-place.ensures.small bytes)).0 w in
    omega (arith, small.short)

pub returns-in_err-place-clause-small : goal.returns-in_err-place-clause-small
returns-in_err-place-clause-small c bytes =
    rw (← c.deref.ensures.value) (passed c.in_err-place.field-0.0 (peeking.Small bytes) c.from_residual.result c.from_residual.ensures.1 (c.in_err-place.ensures.small bytes))

pub returns-in_err-place-clause-listed : goal.returns-in_err-place-clause-listed
returns-in_err-place-clause-listed c = (
  λ w. absurd ((passed c.in_err-place.field-0.0 peeking.Failed c.from_residual.result c.from_residual.ensures.1 (c.in_err-place.ensures.failed, λ none. absurd none)).0 w),
  λ (listed, room). absurd (no_header c.in_err-place.field-0.0 _ c.args.name.now c.in_err-place.ensures.missing c.in_err-place.ensures.small c.in_err-place.ensures.failed c.in_err-place.ensures.memory (rw c.deref.ensures.value room)),
)

pub slice_bounds-copy_from_slice-end : goal.slice_bounds-copy_from_slice-end
slice_bounds-copy_from_slice-end c =
    let room =
    room_at c.args.name.now c.args.self.now.entries.items c.deref.result.now c.in_ok-place.place c.index.result.now 0 c.deref-2.result.now
    c.deref.ensures.value c.in_ok-place.ensures.place c.index.ensures (c.deref-2.ensures.value ∙ c.in_ok-bytes.ensures) c.in_ok-place.ensures.room in
    sym (front_long c.deref-2.result.now room)

pub copy_from_slice-requires : goal.copy_from_slice-requires
copy_from_slice-requires c =
    let room =
    room_at c.args.name.now c.args.self.now.entries.items c.deref.result.now c.in_ok-place.place c.index.result.now 0 c.deref-2.result.now
    c.deref.ensures.value c.in_ok-place.ensures.place c.index.ensures (c.deref-2.ensures.value ∙ c.in_ok-bytes.ensures) c.in_ok-place.ensures.room in
    c.requires.room ∙ sym (front_long c.deref-2.result.now room)

pub returns-clause-peeked : goal.returns-clause-peeked
returns-clause-peeked c =
    let whole = c.deref-2.ensures.value ∙ c.in_ok-bytes.ensures in
    let room =
    room_at c.args.name.now c.args.self.now.entries.items c.deref.result.now c.in_ok-place.place c.index.result.now 0 c.deref-2.result.now
    c.deref.ensures.value c.in_ok-place.ensures.place c.index.ensures whole c.in_ok-place.ensures.room in
    let long : c.len.result ≡ length c.deref-2.result.now = c.len.ensures ∙ (c.in_ok-bytes.bytes.ok.0 ∙ ap length (sym c.deref-2.ensures.value)) in
    peeked _ c.args.name.now _ c.len.result c.deref-2.result.now c.copy_from_slice.new.self
    (found_at c.args.name.now c.args.self.now.entries.items c.deref.result.now c.in_ok-place.place c.index.result.now c.deref.ensures.value c.in_ok-place.ensures.place c.index.ensures)
    whole long room c.copy_from_slice.ensures.after

pub returns-clause-long : goal.returns-clause-long
returns-clause-long c =
    let peeked = returns-clause-peeked c in
    peeked.long
