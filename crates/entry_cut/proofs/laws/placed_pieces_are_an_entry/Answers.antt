use Rattle.std.proofs.Common.{◌<◌, arith}
use Rattle.entry_cut.proofs.Entries.{entry_stands}
use Rattle.entry_cut.proofs.laws.placed_pieces_are_an_entry.Goals as goal

pub returns : goal.returns
returns c cut images chain may few stand =
    let room : 40 < cut.slot = omega (arith, may.short) in
    entry_stands cut images chain (record { header = c.images_are_read_as_built.ensures.header; payload = c.images_are_read_as_built.ensures.payload })
    (record { size = c.written_meta_is_spelled.ensures.size; spelled = c.written_meta_is_spelled.ensures.spelled })
    (record {
      full = λ k. c.pieces_make_the_content.ensures.full _ cut.slot k room;
      last = λ k. c.pieces_make_the_content.ensures.last _ cut.slot k room;
      joined = λ k. c.pieces_make_the_content.ensures.joined _ _ k;
      room = room;
    })
    (c.keys_have_16_bytes.ensures.bytes cut.url) (c.keys_have_16_bytes.ensures.length cut.url) may few stand
