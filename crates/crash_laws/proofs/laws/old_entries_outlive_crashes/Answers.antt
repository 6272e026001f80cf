use Rattle.crash_laws.proofs.Standing.{old_kept}
use Rattle.crash_laws.proofs.laws.old_entries_outlive_crashes.Goals as goal

pub returns : goal.returns
returns g c slot o k b file s log images a e sized few is so cells links keeps settled left lt st = old_kept
    (record {
      reads = c.images_are_read_as_built.ensures.header;
      small = c.keys_have_16_bytes.ensures.bytes;
      long = c.keys_have_16_bytes.ensures.length;
      size = c.written_meta_is_spelled.ensures.size;
      ends = c.pieces_make_the_content.ensures.last;
      placed = c.placed_pieces_are_an_entry.ensures;
      one = c.one_entry_at_a_slot.ensures;
    })
    slot o k b file s log sized few is so cells links keeps settled images left a lt e st
