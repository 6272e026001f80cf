use Rattle.std.proofs.Common.{arith, lit<, sym, ◌∙◌}
use Rattle.test_forwarding.proofs.playing.forward_offer.Goals as goal

pub forward_within-answer-requires : goal.forward_within-answer-requires
forward_within-answer-requires g c = record {
  begins = record {
    own = c.requires.ready.ready.own;
    below = lit< tt;
    free = c.requires.ready.free;
    inner_free = c.requires.ready.ready.inner_free;
    from = c.requires.offered.from;
    url_is = c.requires.offered.url_is;
    good = c.requires.offered.good;
    needed = c.requires.offered.needed;
    name = c.requires.goes;
  };
  body_is = c.requires.offered.body_is ∙ sym (c.new-fetcher.ensures.body c.args.url.now c.args.offer ∙ c.in-Ok.ensures);
  enough = let a = c.slot_size.ensures in let b = c.if-slot_size-gt512.false in omega (arith, a, b);
  some = lit< tt;
}
