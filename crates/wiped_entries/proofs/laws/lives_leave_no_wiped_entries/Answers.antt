use Rattle.wiped_entries.proofs.Lives.{life_begun, life_new}
use Rattle.wiped_entries.proofs.laws.lives_leave_no_wiped_entries.Goals as goal

pub returns-clause-begun : goal.returns-clause-begun
returns-clause-begun g c slot o before after l a version wiped e sized left seen complete = life_begun _
    (record {
      reads = c.images_are_read_as_built.ensures.header;
      small = c.keys_have_16_bytes.ensures.bytes;
      long = c.keys_have_16_bytes.ensures.length;
      size = c.written_meta_is_spelled.ensures.size;
      ends = c.pieces_make_the_content.ensures.last;
      placed = c.placed_pieces_are_an_entry.ensures;
      one = c.one_entry_at_a_slot.ensures;
    })
    slot o sized before after l left a version wiped seen e complete

pub returns-clause-new : goal.returns-clause-new
returns-clause-new g c slot o before after l a version wiped e sized left seen new complete = life_new _
    (record {
      reads = c.images_are_read_as_built.ensures.header;
      small = c.keys_have_16_bytes.ensures.bytes;
      long = c.keys_have_16_bytes.ensures.length;
      size = c.written_meta_is_spelled.ensures.size;
      ends = c.pieces_make_the_content.ensures.last;
      placed = c.placed_pieces_are_an_entry.ensures;
      one = c.one_entry_at_a_slot.ensures;
    })
    slot o sized before after l left a version wiped seen e complete new
