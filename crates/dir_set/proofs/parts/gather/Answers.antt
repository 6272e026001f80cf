use Rattle.std.proofs.Common.{List, arith, get_or, length, refl, set, subst, sym, ◌+◌, ◌<◌, ◌∙◌}
use Rattle.std.proofs.lemmas.Option.{slice_get-get_or, slice_get_read}
use Rattle.store_rule.specs.declared.store.Pass.{Pass}
use Rattle.dir_set.specs.declared.dirs.DirPass.{DirPass}
use Rattle.dir_set.proofs.Dealing.{Gathering, gathered_all, gathered_one, gathered_row, same_below}
use Rattle.dir_set.proofs.parts.gather.Goals as goal

pub loop-worker-preserved : goal.loop-worker-preserved
loop-worker-preserved g c =
    let h = c.loop-worker.invariant.gathering in
    let k = c.loop-worker.worker in
    let a = get_or c.loop-worker.workers k c.index-workers-worker.result in
    let b : DirPass g.row.C.Denot = record { passes = c.remove.new.self; hand = a.hand; tab_dirs = a.tab_dirs } in
    let lt : k < length c.loop-worker.workers = omega (arith, h.many, c.loop-worker-test.true, c.loop-worker.auto.worker-end) in
    let at = slice_get-get_or c.loop-worker.workers k c.index-workers-worker.result lt in
    let less = c.remove.ensures.len in
    record {
      gathering = subst (λ (xs : List (Pass g.row.C.Denot)). Gathering c.args.dir c.args.workers.now (set c.loop-worker.workers k b) xs (k + 1)) (sym c.push_reserved.ensures.items)
          (gathered_one c.args.dir c.args.workers.now c.loop-worker.workers c.loop-worker.room.items k h a b c.remove.result at
          (slice_get_read a.passes.items (length a.passes.items) c.args.dir c.remove.result refl (let there = c.requires.there k a (sym (h.still k (omega arith)) ∙ at) in omega (arith, there, a.passes.ok.0)) c.remove.ensures.value)
          (record { many = less; below = same_below a.passes.items c.remove.new.self.items c.args.dir (let there = c.requires.there k a (sym (h.still k (omega arith)) ∙ at) in (omega (arith, there, a.passes.ok.0), omega (arith, there, c.remove.new.self.ok.0, less))) c.remove.ensures.by_index.0 }));
      kept = c.push_reserved.ensures.capacity ∙ c.loop-worker.invariant.kept;
    }

pub returns-clause-passes : goal.returns-clause-passes
returns-clause-passes g c = let h = c.loop-worker.invariant.gathering in
    gathered_row c.args.dir c.args.workers.now c.loop-worker.workers c.loop-worker.room.items c.loop-worker.worker h
    (omega (arith, h.many, c.loop-worker-test.false, c.loop-worker.auto.worker-end)) (omega (arith, h.many, c.loop-worker.auto.worker-end))

pub returns-clause-left : goal.returns-clause-left
returns-clause-left g c = let h = c.loop-worker.invariant.gathering in
    gathered_all c.args.dir c.args.workers.now c.loop-worker.workers c.loop-worker.room.items c.loop-worker.worker h
    (omega (arith, h.many, c.loop-worker-test.false, c.loop-worker.auto.worker-end)) (omega (arith, h.many, c.loop-worker.auto.worker-end))
