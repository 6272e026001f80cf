use Rattle.std.proofs.Common.{Contains}
use Rattle.std.specs.Prelude.{IfSome}
use Rattle.page_pool.specs.Ruled.{IsPage}
use Rattle.page_pool.specs.Seats.{IsSeatOf, key, view}
use Rattle.test_pools.proofs.pages.is_as_tabled.Given as goal

abbrev pub invariant-loop-turn : goal.invariant-loop-turn
invariant-loop-turn l =
    IsSeatOf l.pool l.a.seat
    × IfSome l.a.page (λ page. Contains (view l.a.seat).held page.number × IsPage (key l.pool) page.number page)
    × IsSeatOf l.pool l.b.seat
    × IfSome l.b.page (λ page. Contains (view l.b.seat).held page.number × IsPage (key l.pool) page.number page)
