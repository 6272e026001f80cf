use Rattle.std.proofs.Common.{Contains, subst, ◌≡◌}
use Rattle.page_pool.specs.Seats.{view}
use Rattle.page_pool.specs.declared.page.Page.{Page}
use Rattle.test_pools.proofs.Held.{has_taken, kept_taking}
use Rattle.test_pools.proofs.pages.takes_again.Goals as goal
use Rattle.test_pools.proofs.pages.takes_again.Goals.{else-gives_first, then-gives_first}

-- both pages are held still, and one of them is given back
pub give-requires-clause-took : goal.give-requires-clause-took
give-requires-clause-took c =
    let first : Contains (view c.taken-third.new.seat).held c.in-Ok.first.number = c.taken-third.ensures.kept c.in-Ok.first.number (kept_taking c.in-Ok-take.second.number c.in-Ok.first.number _ _ c.in-Ok-take.ensures.took (has_taken c.in-Ok.first.number _ _ c.in-Ok.ensures.took)) in
    let second : Contains (view c.taken-third.new.seat).held c.in-Ok-take.second.number = c.taken-third.ensures.kept c.in-Ok-take.second.number (has_taken c.in-Ok-take.second.number _ _ c.in-Ok-take.ensures.took) in
    elim c.if-gives_first.branch [
      | then-gives_first w ↦ let e : c.in-Ok.first ≡ c.if-gives_first.given = cc in subst (λ (p : Page). Contains (view c.taken-third.new.seat).held p.number) e first
      | else-gives_first w ↦ let e : c.in-Ok-take.second ≡ c.if-gives_first.given = cc in subst (λ (p : Page). Contains (view c.taken-third.new.seat).held p.number) e second
    ]
