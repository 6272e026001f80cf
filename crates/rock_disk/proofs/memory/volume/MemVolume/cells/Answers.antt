use Rattle.std.proofs.Common.{map, ap, sym, ◌∙◌}
use Rattle.std.specs.Prelude.{option_map, option_copied}
use Rattle.rock_disk.specs.Memory.{cell_state, cells_in}
use Rattle.rock_disk.proofs.Places.{found_at, not_at}
use Rattle.rock_disk.proofs.memory.volume.MemVolume.cells.Goals as goal

pub returns-in_err-place : goal.returns-in_err-place
returns-in_err-place c =
    ap (λ r. option_map (map cell_state) (option_copied r)) c.from_residual.ensures
    ∙ sym (ap cells_in (not_at c.args.name.now c.args.self.now.entries.items c.deref.result.now c.deref.ensures.value c.in_err-place.ensures))

pub returns : goal.returns
returns c =
    c.cells.ensures
    ∙ sym (ap cells_in (found_at c.args.name.now c.args.self.now.entries.items c.deref.result.now c.in_ok-place.place c.index.result.now c.deref.ensures.value c.in_ok-place.ensures c.index.ensures))
