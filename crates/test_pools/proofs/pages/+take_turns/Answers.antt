use Rattle.std.proofs.Common.{Contains, subst, ℕ}
use Rattle.page_pool.specs.Seats.{view}
use Rattle.test_pools.proofs.Held.{has_taken, kept_giving, kept_taking}
use Rattle.test_pools.proofs.pages.+take_turns.Goals as goal

pub returns-in_default-take-clause-first : goal.returns-in_default-take-clause-first
returns-in_default-take-clause-first t c m h = kept_taking _ m _ _ c.in-Ok.ensures.took h

pub give-requires-clause-took : goal.give-requires-clause-took
give-requires-clause-took t c = c.take_turns-are_right.ensures.first _ (has_taken _ _ _ c.in-Ok.ensures.took)

pub give-requires-2-clause-took : goal.give-requires-2-clause-took
give-requires-2-clause-took t c = c.take_turns-are_right.ensures.second _ (has_taken _ _ _ c.in-Ok-take.ensures.took)

pub returns-then-are_next-clause-first : goal.returns-then-are_next-clause-first
returns-then-are_next-clause-first t c m h = kept_giving _ m _ _ c.give.ensures.gave
    (λ e. c.in-Ok.ensures.free (subst (λ (k : ℕ). Contains (view c.args.a.now).held k) e h))
    (c.take_turns-are_right.ensures.first m (kept_taking _ m _ _ c.in-Ok.ensures.took h))

pub returns-then-are_next-clause-second : goal.returns-then-are_next-clause-second
returns-then-are_next-clause-second t c m h = kept_giving _ m _ _ c.give-2.ensures.gave
    (λ e. c.in-Ok-take.ensures.free (subst (λ (k : ℕ). Contains (view c.args.b.now).held k) e h))
    (c.take_turns-are_right.ensures.second m (kept_taking _ m _ _ c.in-Ok-take.ensures.took h))

pub returns-else-are_next-clause-first : goal.returns-else-are_next-clause-first
returns-else-are_next-clause-first t c m h = kept_giving _ m _ _ c.give.ensures.gave
    (λ e. c.in-Ok.ensures.free (subst (λ (k : ℕ). Contains (view c.args.a.now).held k) e h))
    (c.take_turns-are_right.ensures.first m (kept_taking _ m _ _ c.in-Ok.ensures.took h))

pub returns-else-are_next-clause-second : goal.returns-else-are_next-clause-second
returns-else-are_next-clause-second t c m h = kept_giving _ m _ _ c.give-2.ensures.gave
    (λ e. c.in-Ok-take.ensures.free (subst (λ (k : ℕ). Contains (view c.args.b.now).held k) e h))
    (c.take_turns-are_right.ensures.second m (kept_taking _ m _ _ c.in-Ok-take.ensures.took h))
