use Rattle.std.proofs.Common.{arith, get_or, length, refl, set, subst, ◌<◌, ◌≡◌, ◌∙◌, ℕ}
use Rattle.std.proofs.lemmas.Option.{slice_get-get_or}
use Rattle.dir_set.specs.declared.dirs.DirPass.{DirPass}
use Rattle.dir_set.proofs.Dealing.{Dealing, dealt_all, dealt_one}
use Rattle.dir_set.proofs.parts.deal.Goals as goal

pub loop-pass-preserved : goal.loop-pass-preserved
loop-pass-preserved g c =
    let h = c.loop-pass.invariant.dealing in
    let k = c.len-worker.result in
    let a = get_or c.loop-pass.workers k c.index-workers-worker.result in
    let b : DirPass g.row.C.Denot = record { passes = c.push_reserved.new.self; hand = a.hand; tab_dirs = a.tab_dirs } in
    let left = c.loop-pass.passes.ok.0 in let rest = c.pop.new.self.ok.0 in
    let is : k ≡ length c.pop.new.self.items = omega (arith, c.len-worker.ensures, rest) in
    let same : k ≡ c.pop.new.self.len = omega (arith, is, rest) in
    let lt : k < length c.loop-pass.workers = omega (arith, h.many, h.within, c.requires.many, c.args.passes.now.ok.0, c.in-Some.ensures.len, same) in
    record {
      dealing = subst (λ (n : ℕ). Dealing c.args.workers.now (set c.loop-pass.workers k b) c.args.passes.now.items c.pop.new.self.items n) same
          (dealt_one c.args.workers.now c.loop-pass.workers c.args.passes.now.items c.loop-pass.passes.items c.pop.new.self.items c.loop-pass.passes.len k h c.in-Some.pass c.in-Some.ensures.items is a b
          (slice_get-get_or c.loop-pass.workers k c.index-workers-worker.result lt)
          (record {
            items = c.push_reserved.ensures.items;
            room = c.push_reserved.ensures.capacity;
            hand = refl;
            tabs = refl;
          }));
      kept = c.pop.ensures.capacity ∙ c.loop-pass.invariant.kept;
    }

pub returns-clause-dealt : goal.returns-clause-dealt
returns-clause-dealt g c = dealt_all c.args.workers.now c.loop-pass.workers c.args.passes.now.items c.loop-pass.passes.items c.loop-pass.passes.len c.loop-pass.invariant.dealing c.in_default.ensures.cases.0
