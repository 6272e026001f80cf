use Rattle.std.proofs.Common.{ap}
use Rattle.mem_cache.proofs.Zeros.{row_wide}
use Rattle.mem_cache.proofs.closing.close_mem.Goals as goal

pub returns-clause-pages : goal.returns-clause-pages
returns-clause-pages g c = let e = c.close_store.ensures in
    record { many = e.many; wide = row_wide c.args.store.table.shared.key.slot c.close_store.result.items (λ j x at. ap (λ p. p.1) (e.row j x at)) }
