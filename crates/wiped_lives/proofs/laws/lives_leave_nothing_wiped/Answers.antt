use Rattle.std.proofs.Common.{◌<◌, ◌≤◌, ◌^◌, length, subst, arith}
use Rattle.rebuild_model.specs.declared.image.FileImage.{FileImage}
use Rattle.crash_entries.proofs.Telling.{Tools}
use Rattle.core_lives.proofs.Known.{all_known, new_known}
use Rattle.wiped_lives.proofs.Along.{all_keep, new_keeps}
use Rattle.wiped_lives.proofs.Gone.{life_begun, life_new}
use Rattle.wiped_lives.proofs.laws.lives_leave_nothing_wiped.Goals as goal

pub returns-clause-begun : goal.returns-clause-begun
returns-clause-begun c file offers anchors passes steps lives from size new so leads first faithful i life at images left a version wiped
    seen e complete =
    let t : Tools = record {
      reads = c.images_are_read_as_built.ensures.header;
      small = c.keys_have_16_bytes.ensures.bytes;
      long = c.keys_have_16_bytes.ensures.length;
      size = c.written_meta_is_spelled.ensures.size;
      ends = c.pieces_make_the_content.ensures.last;
      placed = c.placed_pieces_are_an_entry.ensures;
      one = c.one_entry_at_a_slot.ensures;
    } in
    let sized : file.slot < 2 ^ 32 = (let z = size.to in omega arith) in
    let few : length file.slots ≤ 1048576 =
    subst (λ (f : FileImage). length f.slots ≤ 1048576) new.file (let z = so.file.few in omega arith) in
    let known =
    all_known t file offers anchors sized few steps lives from leads first
    (new_known t file offers anchors sized few passes from new so) faithful i life at in
    let wipes = all_keep steps lives from leads first so (new_keeps file anchors passes from new so) i life at in
    life_begun t file offers anchors sized few life known (faithful i life at) images left wipes a version wiped seen e complete

pub returns-clause-new : goal.returns-clause-new
returns-clause-new c file offers anchors passes steps lives from size new so leads first faithful i life at images left a version wiped
    seen above e complete =
    let t : Tools = record {
      reads = c.images_are_read_as_built.ensures.header;
      small = c.keys_have_16_bytes.ensures.bytes;
      long = c.keys_have_16_bytes.ensures.length;
      size = c.written_meta_is_spelled.ensures.size;
      ends = c.pieces_make_the_content.ensures.last;
      placed = c.placed_pieces_are_an_entry.ensures;
      one = c.one_entry_at_a_slot.ensures;
    } in
    let sized : file.slot < 2 ^ 32 = (let z = size.to in omega arith) in
    let few : length file.slots ≤ 1048576 =
    subst (λ (f : FileImage). length f.slots ≤ 1048576) new.file (let z = so.file.few in omega arith) in
    let known =
    all_known t file offers anchors sized few steps lives from leads first
    (new_known t file offers anchors sized few passes from new so) faithful i life at in
    let wipes = all_keep steps lives from leads first so (new_keeps file anchors passes from new so) i life at in
    life_new t file offers anchors sized few life known (faithful i life at) images left wipes a version wiped seen e complete above
