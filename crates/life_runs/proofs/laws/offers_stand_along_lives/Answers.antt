use Rattle.std.proofs.Common.{◌≡◌, ◌+◌, ◌-◌, ◌<◌, ◌≤◌, ◌^◌, length, subst, ap, ◌∙◌, arith}
use lib.ListN.{get_elem?}
use Rattle.rebuild_model.specs.declared.image.FileImage.{FileImage}
use Rattle.crash_entries.proofs.Telling.{Tools}
use Rattle.life_runs.proofs.Along.{goes_since}
use Rattle.life_runs.proofs.laws.offers_stand_along_lives.Goals as goal

pub returns : goal.returns
returns c file o anchors passes steps lives from size new so leads begins keeps i j opened life since first at =
    let t : Tools = record {
      reads = c.images_are_read_as_built.ensures.header;
      small = c.keys_have_16_bytes.ensures.bytes;
      long = c.keys_have_16_bytes.ensures.length;
      size = c.written_meta_is_spelled.ensures.size;
      ends = c.pieces_make_the_content.ensures.last;
      placed = c.placed_pieces_are_an_entry.ensures;
      one = c.one_entry_at_a_slot.ensures;
    } in
    let sized : file.slot < 2 ^ 32 = (let z = size.to in omega arith) in
    let few : length file.slots ≤ 1048576 = subst (λ (f : FileImage). length f.slots ≤ 1048576) new.file (let z = so.file.few in omega arith) in
    let up = since.up_to in
    let d : i + (j - i) ≡ j = omega arith in
    (goes_since t c.names_keep_what_bytes_keep.ensures.rebuilt file o anchors passes size sized few steps lives from new so leads begins keeps i j (j - i) opened life since first (omega arith) (ap (get_elem? lives) d ∙ at)).offers
