use Rattle.std.proofs.Common.{◌<◌, ◌≤◌, ◌^◌, length, subst, arith}
use Rattle.rebuild_model.specs.declared.image.FileImage.{FileImage}
use Rattle.crash_entries.proofs.Telling.{Tools}
use Rattle.core_lives.proofs.Known.{all_known, entries_left, new_known, new_stands, old_stands}
use Rattle.core_lives.proofs.laws.lives_leave_responses.Goals as goal

pub returns-clause-entries : goal.returns-clause-entries
returns-clause-entries c file offers anchors passes steps lives from size new so leads first faithful i life at images left e complete =
    let t : Tools = record {
      reads = c.images_are_read_as_built.ensures.header;
      small = c.keys_have_16_bytes.ensures.bytes;
      long = c.keys_have_16_bytes.ensures.length;
      size = c.written_meta_is_spelled.ensures.size;
      ends = c.pieces_make_the_content.ensures.last;
      placed = c.placed_pieces_are_an_entry.ensures;
      one = c.one_entry_at_a_slot.ensures;
    } in
    let sized : file.slot < 2 ^ 32 = (let z = size.to in omega arith) in
    let few : length file.slots ≤ 1048576 = subst (λ (f : FileImage). length f.slots ≤ 1048576) new.file (let z = so.file.few in omega arith) in
    let known = all_known t file offers anchors sized few steps lives from leads first (new_known t file offers anchors sized few passes from new so) faithful i life at in
    entries_left t file offers anchors sized few life known (faithful i life at) images left e complete

pub returns-clause-opened : goal.returns-clause-opened
returns-clause-opened c file offers anchors passes steps lives from size new so leads first faithful i life at e complete =
    let t : Tools = record {
      reads = c.images_are_read_as_built.ensures.header;
      small = c.keys_have_16_bytes.ensures.bytes;
      long = c.keys_have_16_bytes.ensures.length;
      size = c.written_meta_is_spelled.ensures.size;
      ends = c.pieces_make_the_content.ensures.last;
      placed = c.placed_pieces_are_an_entry.ensures;
      one = c.one_entry_at_a_slot.ensures;
    } in
    let sized : file.slot < 2 ^ 32 = (let z = size.to in omega arith) in
    let few : length file.slots ≤ 1048576 = subst (λ (f : FileImage). length f.slots ≤ 1048576) new.file (let z = so.file.few in omega arith) in
    (all_known t file offers anchors sized few steps lives from leads first (new_known t file offers anchors sized few passes from new so) faithful i life at).entries e complete

pub returns-clause-standing_new : goal.returns-clause-standing_new
returns-clause-standing_new c file offers anchors passes steps lives from size new so leads first faithful i life at images left a log lt of stands =
    let t : Tools = record {
      reads = c.images_are_read_as_built.ensures.header;
      small = c.keys_have_16_bytes.ensures.bytes;
      long = c.keys_have_16_bytes.ensures.length;
      size = c.written_meta_is_spelled.ensures.size;
      ends = c.pieces_make_the_content.ensures.last;
      placed = c.placed_pieces_are_an_entry.ensures;
      one = c.one_entry_at_a_slot.ensures;
    } in
    let sized : file.slot < 2 ^ 32 = (let z = size.to in omega arith) in
    let few : length file.slots ≤ 1048576 = subst (λ (f : FileImage). length f.slots ≤ 1048576) new.file (let z = so.file.few in omega arith) in
    let known = all_known t file offers anchors sized few steps lives from leads first (new_known t file offers anchors sized few passes from new so) faithful i life at in
    new_stands t file offers anchors sized few life known (faithful i life at) images left a lt log of stands

pub returns-clause-standing_old : goal.returns-clause-standing_old
returns-clause-standing_old c file offers anchors passes steps lives from size new so leads first faithful i life at images left a e lt stands =
    let t : Tools = record {
      reads = c.images_are_read_as_built.ensures.header;
      small = c.keys_have_16_bytes.ensures.bytes;
      long = c.keys_have_16_bytes.ensures.length;
      size = c.written_meta_is_spelled.ensures.size;
      ends = c.pieces_make_the_content.ensures.last;
      placed = c.placed_pieces_are_an_entry.ensures;
      one = c.one_entry_at_a_slot.ensures;
    } in
    let sized : file.slot < 2 ^ 32 = (let z = size.to in omega arith) in
    let few : length file.slots ≤ 1048576 = subst (λ (f : FileImage). length f.slots ≤ 1048576) new.file (let z = so.file.few in omega arith) in
    let known = all_known t file offers anchors sized few steps lives from leads first (new_known t file offers anchors sized few passes from new so) faithful i life at in
    old_stands t file offers anchors sized few life known (faithful i life at) images left a lt e stands
