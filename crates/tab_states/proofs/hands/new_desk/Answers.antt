use Rattle.std.proofs.Common.{arith, refl, subst, sym}
use Rattle.std.specs.Prelude.{IsErr}
use Rattle.page_pool.specs.Seats.{key, view}
use Rattle.tab_states.proofs.TakingPages.{next_is_free, stays_in_order, takes_next}
use Rattle.tab_states.proofs.hands.new_desk.Goals as goal

pub unreachable-requires : goal.unreachable-requires
unreachable-requires c = let r = c.requires in
    next_is_free (view c.args.seat.now) r.order ((c.take.ensures.lone r.order.alone).0 (subst (λ z. IsErr z) (sym c.in_default.is) refl) _ r.some)

pub returns-clause-page : goal.returns-clause-page
returns-clause-page c = let r = c.requires in let e = c.in-Ok.ensures in let within = e.page.within in
    takes_next (view c.args.seat.now) r.order _ e.free
    (λ m lt. c.lone_seats_hold_what_is_taken.ensures (key c.args.pool.now) m _ r.order.alone r.own.quiet (omega (arith, lt, within)) (e.below m lt))

pub returns-clause-order : goal.returns-clause-order
returns-clause-order c = stays_in_order (view c.args.seat.now) c.requires.order _ _ (returns-clause-page c) c.in-Ok.ensures.took
