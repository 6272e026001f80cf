use Rattle.std.proofs.Common.{arith, ◌++◌, ◌∷◌, []}
use Rattle.std.proofs.lemmas.Result.{err_from_is_err_and}
use Rattle.swap_meta.specs.Seen.{item_of}
use Rattle.swap_meta.proofs.Walk.{next_shorter, item_more, seen_in_order, add_fails}
use Rattle.swap_meta.proofs.items.read_items.Goals as goal

pub returns-in_err-seen-clause-refused : goal.returns-in_err-seen-clause-refused
returns-in_err-seen-clause-refused c =
    let p = err_from_is_err_and c.from_residual.result c.from_residual.ensures.1 in
    let s = c.loop-rest.invariant.seen in
    let front = c.in-Some.front in
    rw (p.1, p.2) (add_fails c.args.inside.now c.loop-rest.rest.now front.rest.now s.0 (item_of front.kind front.value.now) c.in_err-seen.field-0.0
    (seen_in_order s.0 c.loop-rest.seen s.2) s.1 c.in-Some.ensures.found (c.in_err-seen.ensures.err s.0 s.2))

pub loop-rest-preserved : goal.loop-rest-preserved
loop-rest-preserved c =
    let s = c.loop-rest.invariant.seen in
    let front = c.in-Some.front in
    let i = item_of front.kind front.value.now in
    record {
      within = omega (arith, next_shorter c.loop-rest.rest.now front.rest.now i c.in-Some.ensures.found, c.loop-rest.invariant.within);
      seen = (s.0 ++ i ∷ [], item_more c.args.inside.now c.loop-rest.rest.now front.rest.now s.0 i s.1 c.in-Some.ensures.found, c.in_ok-seen.ensures.ok s.0 s.2);
    }
