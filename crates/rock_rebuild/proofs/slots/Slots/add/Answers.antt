use Rattle.std.proofs.Common.{◌++◌, ◌∷◌, [], subst, sym}
use Rattle.rock_rebuild.specs.Kept.{AreHeaders, AreHeads}
use Rattle.rock_rebuild.proofs.Reading.{headers_more, heads_more, greatest_more}
use Rattle.rock_rebuild.proofs.slots.Slots.add.Goals as goal

pub returns-clause-read : goal.returns-clause-read
returns-clause-read c images count read =
    let a = c.args in
    record {
      headers = subst (AreHeaders a.slots a.slot (images ++ a.image.now ∷ [])) (sym c.in_ok-push.ensures)
          (headers_more a.slots a.slot images a.image.now a.self.now.table c.sane_header-header.result read.headers c.sane_header-header.ensures);
      heads = subst (AreHeads a.slots a.slot (images ++ a.image.now ∷ []) c.keep_url.new.urls.items) (sym c.in_ok-push-2.ensures.items)
          (heads_more a.slots a.slot a.number images a.image.now a.self.now.heads.items c.in_ok-head.head a.self.now.urls.items _ c.keep_url.new.urls.items count (c.in_ok-head.ensures.grows.1) read.heads
          (c.in_ok-head.ensures.tells a.slots a.slot a.number a.image.now c.meta_at-meta.ensures));
      greatest = greatest_more a.slots a.slot images a.image.now c.sane_header-header.result a.self.now.greatest c.greater_of-self.result read.greatest c.sane_header-header.ensures c.greater_of-self.ensures;
    }
