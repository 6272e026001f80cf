use Rattle.std.proofs.Common.{◌≡◌, ◌<◌, ◌≤◌, ◌^◌, length, subst, sym, ap, ◌∙◌, arith}
use Rattle.rebuild_model.specs.declared.image.FileImage.{FileImage}
use Rattle.crash_entries.proofs.Telling.{Tools}
use Rattle.life_runs.proofs.Along.{all_good, known, opened_there}
use Rattle.life_runs.proofs.laws.rebuilds_open_what_is_left.Goals as goal

pub returns-clause-same : goal.returns-clause-same
returns-clause-same c file o anchors passes steps lives from size new so leads begins keeps i life at left is r b kept rebuilt =
    let t : Tools = record {
      reads = c.images_are_read_as_built.ensures.header;
      small = c.keys_have_16_bytes.ensures.bytes;
      long = c.keys_have_16_bytes.ensures.length;
      size = c.written_meta_is_spelled.ensures.size;
      ends = c.pieces_make_the_content.ensures.last;
      placed = c.placed_pieces_are_an_entry.ensures;
      one = c.one_entry_at_a_slot.ensures;
    } in
    let sized : file.slot < 2 ^ 32 = (let z = size.to in omega arith) in
    let few : length file.slots ≤ 1048576 = subst (λ (f : FileImage). length f.slots ≤ 1048576) new.file (let z = so.file.few in omega arith) in
    let law = c.names_keep_what_bytes_keep.ensures.rebuilt in
    let k = known t law file o anchors passes size sized few steps lives from new so leads begins keeps i life at in
    let g = all_good t law file o anchors passes size sized few steps lives from new so leads begins keeps i life at in
    let many : length left ≡ length file.slots = (k.sound.left left is).many ∙ sym k.sound.slots ∙ ap (λ (f : FileImage). length f.slots) k.file_is in
    c.names_keep_what_bytes_keep.ensures.same file o anchors left r b size few many (g.left left is) kept rebuilt

pub returns-clause-opened : goal.returns-clause-opened
returns-clause-opened c file o anchors passes steps lives from size new so leads begins keeps i life rebuilds at =
    let t : Tools = record {
      reads = c.images_are_read_as_built.ensures.header;
      small = c.keys_have_16_bytes.ensures.bytes;
      long = c.keys_have_16_bytes.ensures.length;
      size = c.written_meta_is_spelled.ensures.size;
      ends = c.pieces_make_the_content.ensures.last;
      placed = c.placed_pieces_are_an_entry.ensures;
      one = c.one_entry_at_a_slot.ensures;
    } in
    let sized : file.slot < 2 ^ 32 = (let z = size.to in omega arith) in
    let few : length file.slots ≤ 1048576 = subst (λ (f : FileImage). length f.slots ≤ 1048576) new.file (let z = so.file.few in omega arith) in
    opened_there t c.names_keep_what_bytes_keep.ensures.rebuilt file o anchors passes size sized few steps lives from new so leads begins keeps i life rebuilds at
