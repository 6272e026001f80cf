use Rattle.std.specs.Prelude.{◌+◌, ◌<◌, ◌≡◌, ◌≤◌, All, length, vec_len, ℕ}
use Rattle.page_pool.specs.Seats.{IsSeatOf, key, view}
use Rattle.tab_states.specs.Desks.{page_at}
use Rattle.tab_states.specs.Hands.{TakesInOrder, held_count}
use Rattle.tab_states.specs.declared.desks.Desk.{Desk}
use Rattle.tab_states.proofs.hands.new_desks.Given as goal

abbrev pub invariant-loop-tab : goal.invariant-loop-tab
invariant-loop-tab l = record {
  to : l.tab ≤ 9;
  own : IsSeatOf l.pool l.seat;
  order : TakesInOrder (view l.seat);
  took : held_count (view l.seat) ≡ held_count (view l.fn.seat) + l.tab;
  count : vec_len l.desks ≡ l.tab;
  buffers : All (λ (d : Desk). length d.page.bytes.items ≡ (key l.pool).size) l.desks.items;
  pages : (tab : ℕ) → tab < l.tab → page_at l.desks.items tab ≡ held_count (view l.fn.seat) + tab;
}
