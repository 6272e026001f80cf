use Rattle.std.proofs.Common.{map, refl, ap, ◌∙◌}
use Rattle.rock_disk.specs.Memory.{cell_state, file_of, rest_of}
use Rattle.rock_disk.specs.File.File.{Home}
use Rattle.rock_disk.proofs.Places.{not_at}
use Rattle.rock_disk.proofs.Openings.{back_at}
use Rattle.rock_disk.proofs.memory.volume.MemVolumeVolume.give_back.Goals as goal

pub unreachable-requires : goal.unreachable-requires
unreachable-requires c =
    let none = not_at c.args.name.now c.args.self.now.entries.items c.deref.result.now c.deref.ensures.value c.in_default.ensures in
    let found = c.requires.found in
    cc

pub returns-clause-back : goal.returns-clause-back
returns-clause-back c slots slot rest found =
    back_at c.args.name.now c.args.self.now.entries.items c.deref.result.now c.in-Some.place c.index_mut-entry.result.now
    (record { name = c.index_mut-entry.result.now.name; file = c.with_cells.result }) _ _ slots slot rest
    c.deref.ensures.value c.in-Some.ensures c.index_mut-entry.ensures.value refl
    (c.with_cells.ensures ∙ ap (λ f. Home (cell_state c.args.header) (map cell_state c.args.cells.items) (rest_of (file_of f))) c.replace-file.ensures.value) found
