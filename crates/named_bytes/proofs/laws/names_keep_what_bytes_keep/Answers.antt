use Rattle.std.proofs.Common.{subst, arith}
use Rattle.crash_entries.proofs.Telling.{Tools}
use Rattle.named_bytes.specs.Alike.{AreAlike}
use Rattle.named_bytes.proofs.Named.{to_bytes, to_names}
use Rattle.named_bytes.proofs.Rebuilds.{has_rebuilt}
use Rattle.named_bytes.proofs.laws.names_keep_what_bytes_keep.Goals as goal

pub returns-clause-entries : goal.returns-clause-entries
returns-clause-entries c file o anchors contents size few many ord e complete =
    let t : Tools = record {
      reads = c.images_are_read_as_built.ensures.header;
      small = c.keys_have_16_bytes.ensures.bytes;
      long = c.keys_have_16_bytes.ensures.length;
      size = c.written_meta_is_spelled.ensures.size;
      ends = c.pieces_make_the_content.ensures.last;
      placed = c.placed_pieces_are_an_entry.ensures;
      one = c.one_entry_at_a_slot.ensures;
    } in
    to_names t file o anchors contents (let z = size.to in omega arith) few many ord e complete

pub returns-clause-named : goal.returns-clause-named
returns-clause-named c file o anchors contents size few many ord f named_entry =
    let t : Tools = record {
      reads = c.images_are_read_as_built.ensures.header;
      small = c.keys_have_16_bytes.ensures.bytes;
      long = c.keys_have_16_bytes.ensures.length;
      size = c.written_meta_is_spelled.ensures.size;
      ends = c.pieces_make_the_content.ensures.last;
      placed = c.placed_pieces_are_an_entry.ensures;
      one = c.one_entry_at_a_slot.ensures;
    } in
    to_bytes t file o anchors contents (let z = size.to in omega arith) few many ord f named_entry

pub returns-clause-rebuilt : goal.returns-clause-rebuilt
returns-clause-rebuilt c file o anchors contents r size few many ord kept =
    let t : Tools = record {
      reads = c.images_are_read_as_built.ensures.header;
      small = c.keys_have_16_bytes.ensures.bytes;
      long = c.keys_have_16_bytes.ensures.length;
      size = c.written_meta_is_spelled.ensures.size;
      ends = c.pieces_make_the_content.ensures.last;
      placed = c.placed_pieces_are_an_entry.ensures;
      one = c.one_entry_at_a_slot.ensures;
    } in
    has_rebuilt t c.pieces_make_the_content.ensures.full file o anchors contents (let z = size.to in omega arith) few many ord r kept

pub returns-clause-same : goal.returns-clause-same
returns-clause-same c file o anchors contents r b size few many ord kept rebuilt =
    let x = returns-clause-rebuilt c file o anchors contents r size few many ord kept in
    subst (AreAlike r) (c.a_file_has_one_rebuild.ensures file.slot _ anchors x.0 b x.1 rebuilt) x.2
