-- Buffers that a pass lends, and what it is when the borrow ends.
use Rattle.std.specs.Prelude.{List, ℕ}
use Rattle.std.specs.Borrow.{Array, Fml, Lends, MutBor, RattleType, u8}
use mathlib.Core.Path.{◌∙◌}
use Rattle.store_rule.specs.declared.store.Pass.{Pass}
use Rattle.store_rule.specs.contracts.store.Pass.{the_row as pass_row}
use Rattle.tab_states.specs.Desks.{as_many, with_buffer_at}

-- the pass with these bytes in the buffer of a tab, and all else as it was
abbrev pub with_bytes : {C : Type 0} → Pass C → ℕ → List ℕ → Pass C
with_bytes p tab bytes = record {
  seat = p.seat;
  tabs = p.tabs;
  left = p.left;
  desks = with_buffer_at p.desks tab bytes;
  pages = p.pages;
  hand = p.hand;
  cells = p.cells;
  one = p.one;
  nine = p.nine;
  nine_left = p.nine_left;
  nine_desks = as_many p.desks tab bytes ∙ p.nine_desks;
  at_hand = p.at_hand;
}

-- When the borrow r ends, the pass has in the buffer of that tab what was left behind r.
abbrev pub LendsTab : (C : RattleType) → MutBor (Pass C.Denot) → ℕ → MutBor (List ℕ) → Fml
LendsTab C p tab r = Lends (pass_row C) (Array u8 0) p r (with_bytes p.now tab)
