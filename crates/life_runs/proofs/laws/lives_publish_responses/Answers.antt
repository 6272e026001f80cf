use Rattle.std.proofs.Common.{◌≡◌, ◌<◌, ◌≤◌, ◌^◌, ℕ, length, subst, sym, ap, ◌∙◌, arith}
use Rattle.rebuild_model.specs.declared.image.FileImage.{FileImage}
use Rattle.crash_entries.proofs.Telling.{Tools}
use Rattle.named_bytes.proofs.Images.{many_images}
use Rattle.core_lives.proofs.Leading.{all_sound}
use Rattle.core_runs.proofs.Answering.{closed_here}
use Rattle.core_runs.proofs.Spelled.{published_as}
use Rattle.core_table.specs.New.{IsNew}
use Rattle.life_runs.specs.Opening.{file_of, responses_of}
use Rattle.life_runs.proofs.Along.{all_good, known}
use Rattle.life_runs.proofs.laws.lives_publish_responses.Goals as goal

pub returns-clause-cells : goal.returns-clause-cells
returns-clause-cells c steps lives from leads begins so i life at o a place slot cell lt there is =
    published_as (file_of life.file o life.first) (responses_of o) life.core (all_sound steps lives from leads begins so i life at).sound a lt place slot cell there is

pub returns-clause-closed : goal.returns-clause-closed
returns-clause-closed c file o anchors passes steps lives from size new so leads begins keeps i life at images bytes a lt closed =
    let t : Tools = record {
      reads = c.images_are_read_as_built.ensures.header;
      small = c.keys_have_16_bytes.ensures.bytes;
      long = c.keys_have_16_bytes.ensures.length;
      size = c.written_meta_is_spelled.ensures.size;
      ends = c.pieces_make_the_content.ensures.last;
      placed = c.placed_pieces_are_an_entry.ensures;
      one = c.one_entry_at_a_slot.ensures;
    } in
    let sized : file.slot < 2 ^ 32 = (let z = size.to in omega arith) in
    let few : length file.slots ≤ 1048576 = subst (λ (f : FileImage). length f.slots ≤ 1048576) new.file (let z = so.file.few in omega arith) in
    let law = c.names_keep_what_bytes_keep.ensures.rebuilt in
    let k = known t law file o anchors passes size sized few steps lives from new so leads begins keeps i life at in
    let g = all_good t law file o anchors passes size sized few steps lives from new so leads begins keeps i life at in
    let many : length (file_of file o life.first).slots ≡ length file.slots = many_images file o 0 life.first ∙ k.sound.first.many ∙ sym k.sound.slots ∙ ap (λ (f : FileImage). length f.slots) k.file_is in
    let opened = subst (λ (n : ℕ). IsNew (file_of file o life.first) n anchors passes g.from) (sym many) g.goes.new in
    closed_here (file_of file o life.first) (responses_of o) anchors passes g.from opened g.goes.sound size (let z = few in omega arith) c.placed_pieces_are_an_entry.ensures
    life.core k.sound.sound g.goes.same g.goes.offers images bytes a lt closed
