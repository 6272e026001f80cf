use Rattle.std.proofs.Common.{arith}
use Rattle.std.proofs.lemmas.Grind.{common_steps}
use Rattle.closed_counts.proofs.Reading.{is_word, stage_is}
use Rattle.closed_counts.proofs.chains.is_closed.Goals as goal

pub word_of-requires : goal.word_of-requires
word_of-requires g c = let r = c.requires.words in
    is_word r.2 c.args.anchor c.anchor_index.result c.word.result c.requires.there c.anchor_index.ensures c.word.ensures

pub returns : goal.returns
returns g c k s w =
    let e = stage_is w c.args.anchor c.anchor_index.result c.word.result c.word_of.result
    c.anchor_index.ensures c.word.ensures c.word_of.ensures.number c.word_of.ensures.in_range in
    grind (arith, common_steps)
