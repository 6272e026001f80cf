use Rattle.crashed_stores.proofs.Standing.{have_entry}
use Rattle.crashed_stores.proofs.laws.closed_entries_win.Goals as goal

pub returns : goal.returns
returns g c slot anchors many origin cells store passes views left a told sized few over closed under stage = have_entry g.C.Cell.tells told g.C.Cell.state g.O.Origin.offers slot anchors many origin cells store passes over views left closed
    (record {
      reads = c.images_are_read_as_built.ensures.header;
      small = c.keys_have_16_bytes.ensures.bytes;
      long = c.keys_have_16_bytes.ensures.length;
      size = c.written_meta_is_spelled.ensures.size;
      ends = c.pieces_make_the_content.ensures.last;
      placed = c.placed_pieces_are_an_entry.ensures;
      one = c.one_entry_at_a_slot.ensures;
    })
    sized few a under stage
