use Rattle.core_model.specs.declared.view.Sight.TheVariants.{Wiped}
use Rattle.crashed_stores.proofs.Gone.{closed_gone, wiped_gone}
use Rattle.crashed_stores.proofs.laws.wiped_entries_do_not_come_back.Goals as goal

pub returns-clause-running : goal.returns-clause-running
returns-clause-running g c slot anchors many origin cells store passes s images v a version wiped told sized few over rule left has seen = wiped_gone g.C.Cell.tells told g.C.Cell.state g.O.Origin.offers slot anchors many origin cells store passes over s rule
    (record {
      reads = c.images_are_read_as_built.ensures.header;
      small = c.keys_have_16_bytes.ensures.bytes;
      long = c.keys_have_16_bytes.ensures.length;
      size = c.written_meta_is_spelled.ensures.size;
      ends = c.pieces_make_the_content.ensures.last;
      placed = c.placed_pieces_are_an_entry.ensures;
      one = c.one_entry_at_a_slot.ensures;
    })
    sized few images left a version wiped (seen (Wiped a version wiped) has)

pub returns-clause-closed : goal.returns-clause-closed
returns-clause-closed g c slot anchors many origin cells store passes views left images v j a version wiped told sized few over closed after at has = closed_gone g.C.Cell.tells told g.C.Cell.state g.O.Origin.offers slot anchors many origin cells store passes over views left closed
    (record {
      reads = c.images_are_read_as_built.ensures.header;
      small = c.keys_have_16_bytes.ensures.bytes;
      long = c.keys_have_16_bytes.ensures.length;
      size = c.written_meta_is_spelled.ensures.size;
      ends = c.pieces_make_the_content.ensures.last;
      placed = c.placed_pieces_are_an_entry.ensures;
      one = c.one_entry_at_a_slot.ensures;
    })
    sized few images after v j a version wiped at has
