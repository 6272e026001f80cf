use Rattle.std.proofs.Common.{All, arith, length, subst, sym, ◌∙◌, ◌≡◌}
use Rattle.std.proofs.lemmas.List.Elements.{All-push}
use Rattle.page_pool.specs.Seats.{key}
use Rattle.tab_states.specs.declared.desks.Desk.{Desk}
use Rattle.tab_states.proofs.TakingPages.{pages_end}
use Rattle.tab_states.proofs.hands.new_desks.Goals as goal

pub loop-tab-preserved : goal.loop-tab-preserved
loop-tab-preserved c = let i = c.loop-tab.invariant in let e = c.new_desk.ensures in let p = c.in_ok-push.ensures in let size = (key c.args.pool.now).size in let count = i.count in let took = i.took in record {
  to = omega (arith, c.loop-tab-test.true);
  own = e.own;
  order = e.order;
  took = let more = e.took in omega (arith, more, took);
  count = let q = p.len in omega arith;
  buffers = subst (All (λ (d : Desk). length d.page.bytes.items ≡ size)) (sym p.items) (All-push (λ (d : Desk). length d.page.bytes.items ≡ size) _ c.new_desk.result i.buffers e.size);
  pages = pages_end _ _ c.new_desk.result _ c.loop-tab.tab p.items (sym c.loop-tab.desks.ok.0 ∙ count) i.pages (e.page ∙ took);
}
