use Rattle.crashed_stores.proofs.Closed.{closed_responses}
use Rattle.crashed_stores.proofs.laws.closed_cells_leave_responses.Goals as goal

pub returns : goal.returns
returns g c slot anchors many origin cells store passes views closed images e told sized few over at_end left complete = closed_responses g.C.Cell.tells told g.C.Cell.state g.O.Origin.offers slot anchors many origin cells store passes over views closed at_end
    (record {
      reads = c.images_are_read_as_built.ensures.header;
      small = c.keys_have_16_bytes.ensures.bytes;
      long = c.keys_have_16_bytes.ensures.length;
      size = c.written_meta_is_spelled.ensures.size;
      ends = c.pieces_make_the_content.ensures.last;
      placed = c.placed_pieces_are_an_entry.ensures;
      one = c.one_entry_at_a_slot.ensures;
    })
    sized few images left e complete
