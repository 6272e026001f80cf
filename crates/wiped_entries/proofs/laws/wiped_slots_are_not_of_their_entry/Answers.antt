use Rattle.wiped_entries.proofs.Gone.{wiped_slot}
use Rattle.wiped_entries.proofs.laws.wiped_slots_are_not_of_their_entry.Goals as goal

pub returns : goal.returns
returns g c slot o k b file s log images a version wiped sized few is so st keeps ws left seen sane = wiped_slot
    (record {
      reads = c.images_are_read_as_built.ensures.header;
      small = c.keys_have_16_bytes.ensures.bytes;
      long = c.keys_have_16_bytes.ensures.length;
      size = c.written_meta_is_spelled.ensures.size;
      ends = c.pieces_make_the_content.ensures.last;
      placed = c.placed_pieces_are_an_entry.ensures;
      one = c.one_entry_at_a_slot.ensures;
    })
    slot o k b file s log sized few is so st keeps ws images left a version wiped seen sane
