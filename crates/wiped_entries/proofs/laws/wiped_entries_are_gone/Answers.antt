use Rattle.wiped_entries.proofs.Gone.{begun, new_gone}
use Rattle.wiped_entries.proofs.laws.wiped_entries_are_gone.Goals as goal

pub returns-clause-begun : goal.returns-clause-begun
returns-clause-begun g c slot o k b file s log images a version wiped e sized few is so st keeps ws left seen complete = begun
    (record {
      reads = c.images_are_read_as_built.ensures.header;
      small = c.keys_have_16_bytes.ensures.bytes;
      long = c.keys_have_16_bytes.ensures.length;
      size = c.written_meta_is_spelled.ensures.size;
      ends = c.pieces_make_the_content.ensures.last;
      placed = c.placed_pieces_are_an_entry.ensures;
      one = c.one_entry_at_a_slot.ensures;
    })
    slot o k b file s log sized few is so st keeps ws images left a version wiped seen e complete

pub returns-clause-new : goal.returns-clause-new
returns-clause-new g c slot o k b file s log images a version wiped e sized few is so st keeps ws left seen new complete = new_gone
    (record {
      reads = c.images_are_read_as_built.ensures.header;
      small = c.keys_have_16_bytes.ensures.bytes;
      long = c.keys_have_16_bytes.ensures.length;
      size = c.written_meta_is_spelled.ensures.size;
      ends = c.pieces_make_the_content.ensures.last;
      placed = c.placed_pieces_are_an_entry.ensures;
      one = c.one_entry_at_a_slot.ensures;
    })
    slot o k b file s log sized few is so st keeps ws images left a version wiped seen e complete new
