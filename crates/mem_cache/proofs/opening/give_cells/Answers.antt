use Rattle.std.proofs.Common.{Contains, ap, subst, sym, ◌∙◌}
use Rattle.page_pool.specs.declared.page.Page.{Page}
use Rattle.page_pool.specs.Ruled.{IsPage}
use Rattle.page_pool.specs.Seats.{key, view}
use Rattle.page_pool.specs.Views.{after_give}
use Rattle.mem_cache.proofs.Taken.{last_given, last_is_held, last_is_page}
use Rattle.mem_cache.proofs.opening.give_cells.Goals as goal

pub give-requires-clause-took : goal.give-requires-clause-took
give-requires-clause-took g c = let i = c.loop-cell.invariant.taken in
    subst (λ (p : Page). Contains (view c.loop-cell.seat).held p.number) (sym c.into_page.ensures)
    (last_is_held (key c.args.pool.now) i.0 c.pop.new.self.items c.loop-cell.cells.items c.in-Some.cell c.in-Some.ensures.items (view c.loop-cell.seat) i.1)

pub give-requires-clause-page : goal.give-requires-clause-page
give-requires-clause-page g c = let i = c.loop-cell.invariant.taken in
    subst (λ (p : Page). IsPage (key c.args.pool.now) p.number p) (sym c.into_page.ensures)
    (last_is_page (key c.args.pool.now) i.0 c.pop.new.self.items c.loop-cell.cells.items c.in-Some.cell c.in-Some.ensures.items (view c.loop-cell.seat) i.1)

pub loop-cell-preserved : goal.loop-cell-preserved
loop-cell-preserved g c =
    let i = c.loop-cell.invariant in
    let about = key c.args.pool.now in
    let v = view c.loop-cell.seat in
    let w = view c.give.new.seat in
    let gave = c.give.ensures.gave ∙ ap (λ (p : Page). after_give p.number v) c.into_page.ensures in
    record {
      own = c.give.ensures.own;
      taken = (i.taken.0, last_given about i.taken.0 c.pop.new.self.items c.loop-cell.cells.items c.in-Some.cell c.in-Some.ensures.items v i.taken.1 w gave);
      same = λ before h. last_given about before c.pop.new.self.items c.loop-cell.cells.items c.in-Some.cell c.in-Some.ensures.items v (i.same before h) w gave;
    }
