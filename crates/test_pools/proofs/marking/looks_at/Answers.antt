use Rattle.std.proofs.Common.{None, sym, subst, arith, Contains, replicate}
use Rattle.std.proofs.lemmas.List.{get_or-set_same}
use Rattle.marks.specs.Seats.{view}
use Rattle.test_pools.proofs.marking.looks_at.Goals as goal

pub set-requires-clause-may : goal.set-requires-clause-may
set-requires-clause-may c =
    let count = c.in_ok-marks.ensures.count in
    let ok = c.in_ok-marks.seats.ok in
    let dealt = c.in_ok-marks.ensures.dealt 0 c.remove-first.result (omega arith) in
    let lt = c.requires in
    (lt, subst (λ s. Contains (view s).held (c.args.mark, None)) (sym c.remove-first.ensures.value) (dealt.may c.args.mark lt (get_or-set_same (replicate 64 0) c.args.mark 1 0 lt)))
