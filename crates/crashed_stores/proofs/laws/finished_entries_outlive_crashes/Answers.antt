use Rattle.crashed_stores.proofs.Finished.{finished_kept}
use Rattle.crashed_stores.proofs.laws.finished_entries_outlive_crashes.Goals as goal

pub returns : goal.returns
returns g c slot anchors many origin cells store passes s images entry v told sized few over rule left known seen version_is some_slot = finished_kept g.C.Cell.tells told g.C.Cell.state g.O.Origin.offers slot anchors many origin cells store passes over s rule entry v
    (record {
      reads = c.images_are_read_as_built.ensures.header;
      small = c.keys_have_16_bytes.ensures.bytes;
      long = c.keys_have_16_bytes.ensures.length;
      size = c.written_meta_is_spelled.ensures.size;
      ends = c.pieces_make_the_content.ensures.last;
      placed = c.placed_pieces_are_an_entry.ensures;
      one = c.one_entry_at_a_slot.ensures;
    })
    sized few images left known seen version_is some_slot
