use Rattle.std.specs.Prelude.{◌*◌, ◌≡◌, ◌≤◌, vec_len}
use Rattle.page_pool.specs.Seats.{IsSeatOf, key, view}
use Rattle.tab_states.specs.Hands.{AreAllHands, TakesInOrder, held_count}
use Rattle.tab_states.proofs.hands.all_hands.Given as goal

abbrev pub invariant-loop-pass : goal.invariant-loop-pass
invariant-loop-pass l = record {
  to : l.pass ≤ l.passes;
  own : IsSeatOf l.pool l.seat;
  order : TakesInOrder (view l.seat);
  took : held_count (view l.seat) ≡ 9 * l.pass;
  count : vec_len l.all ≡ l.pass;
  hands : AreAllHands (key l.pool).size l.all.items;
}
