use Rattle.std.proofs.Common.{arith, subst, sym, ◌∙◌}
use Rattle.page_pool.specs.Seats.{key}
use Rattle.tab_states.specs.Hands.{AreHands}
use Rattle.tab_states.proofs.TakingPages.{hands_end}
use Rattle.tab_states.proofs.hands.all_hands.Goals as goal

pub loop-pass-preserved : goal.loop-pass-preserved
loop-pass-preserved c = let i = c.loop-pass.invariant in let e = c.in_ok-new_hands.ensures in let p = c.in_ok-push.ensures in let size = (key c.args.pool.now).size in let count = i.count in let took = i.took in record {
  to = omega (arith, c.loop-pass-test.true);
  own = e.own;
  order = e.order;
  took = let more = e.took in omega (arith, more, took);
  count = let q = p.len in omega arith;
  hands = hands_end size _ _ c.in_ok-new_hands.field-0 c.loop-pass.pass p.items (sym c.loop-pass.all.ok.0 ∙ count) i.hands (subst (λ z. AreHands size z c.in_ok-new_hands.field-0) took e.hands);
}
