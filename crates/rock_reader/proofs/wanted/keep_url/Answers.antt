use Rattle.std.proofs.Common.{List, ap, arith, length, ◌∙◌, ℕ}
use Rattle.rock_reader.specs.Wanted.{kept_of}
use Rattle.rock_reader.proofs.Desks.{held_there, kept_there}
use Rattle.rock_reader.proofs.wanted.keep_url.Goals as goal

pub returns : goal.returns
returns g c = record {
  seat = c.set_draft.ensures.seat;
  tabs = c.set_draft.ensures.tabs;
  left = c.set_draft.ensures.left;
  hand = c.set_draft.ensures.hand;
  cells = c.set_draft.ensures.cells;
  bytes = c.put_front-held.new.buffer;
  draft = record c.draft-draft.result { held = c.put_front-held.result };
  desks = c.set_draft.ensures.desks;
  kept = kept_there c.args.pass.now.desks c.set_draft.new.self.desks c.args.tab c.put_front-held.new.buffer (record c.draft-draft.result { held = c.put_front-held.result })
      (let n = c.args.pass.now.nine_desks in let b = c.requires.below in omega arith) (c.put_front-held.ensures.length ∙ ap length c.buffer_mut.ensures.value) c.set_draft.ensures.desks
      ∙ c.put_front-held.ensures.front ∙ ap (λ (bytes : List ℕ). kept_of (length bytes) c.args.url.now) c.buffer_mut.ensures.value;
  within = let e = held_there c.args.pass.now.desks c.set_draft.new.self.desks c.args.tab c.put_front-held.new.buffer (record c.draft-draft.result { held = c.put_front-held.result })
      (let n = c.args.pass.now.nine_desks in let b = c.requires.below in omega arith) c.set_draft.ensures.desks in let w = c.put_front-held.ensures.within in let l = ap length c.buffer_mut.ensures.value in omega (arith, e);
}
