use Rattle.std.proofs.Common.{arith, subst, sym, ◌<◌, ℕ}
use Rattle.dir_set.proofs.OneFile.{at_dir, hits, hits_own, only_dir}
use Rattle.dir_set.specs.Dirs.{dir_count, dir_of}
use Rattle.dir_set.proofs.writing.dir_abort.Goals as goal

pub index-requires : goal.index-requires
index-requires g c =
    let lt : c.index_of-dir.result < dir_count c.args.dirs.now = subst (λ (n : ℕ). n < dir_count c.args.dirs.now) (sym c.index_of-dir.ensures) (c.requires.pass.tabs c.args.tab c.requires.tab) in
    omega (arith, c.args.dirs.now.stores.ok.0, c.args.pass.now.passes.ok.0, c.requires.pass.many)

pub index_mut-requires : goal.index_mut-requires
index_mut-requires g c =
    let lt : c.index_of-dir.result < dir_count c.args.dirs.now = subst (λ (n : ℕ). n < dir_count c.args.dirs.now) (sym c.index_of-dir.ensures) (c.requires.pass.tabs c.args.tab c.requires.tab) in
    omega (arith, c.args.dirs.now.stores.ok.0, c.args.pass.now.passes.ok.0, c.requires.pass.many)

pub abort-requires : goal.abort-requires
abort-requires g c =
    let lt : c.index_of-dir.result < dir_count c.args.dirs.now = subst (λ (n : ℕ). n < dir_count c.args.dirs.now) (sym c.index_of-dir.ensures) (c.requires.pass.tabs c.args.tab c.requires.tab) in
    let h = hits g.C.Cell.tells g.C.Cell.state g.O.Origin.offers c.args.dirs.now c.args.pass.now c.requires.pass c.index_of-dir.result (dir_of c.args.pass.now c.args.tab) c.index.result.now c.index_mut.result.now c.index_mut.result.now c.index_of-dir.ensures lt c.index.ensures c.index_mut.ensures.value in
    c.requires.may c.index.result.now c.index_mut.result.now h.store h.pass.was

pub returns-clause-halts : goal.returns-clause-halts
returns-clause-halts g c =
    let lt : c.index_of-dir.result < dir_count c.args.dirs.now = subst (λ (n : ℕ). n < dir_count c.args.dirs.now) (sym c.index_of-dir.ensures) (c.requires.pass.tabs c.args.tab c.requires.tab) in
    let h = hits g.C.Cell.tells g.C.Cell.state g.O.Origin.offers c.args.dirs.now c.args.pass.now c.requires.pass c.index_of-dir.result (dir_of c.args.pass.now c.args.tab) c.index.result.now c.index_mut.result.now c.abort.new.pass c.index_of-dir.ensures lt c.index.ensures c.index_mut.ensures.value in
    at_dir h _ c.abort.ensures.halts

pub returns-clause-others : goal.returns-clause-others
returns-clause-others g c =
    let lt : c.index_of-dir.result < dir_count c.args.dirs.now = subst (λ (n : ℕ). n < dir_count c.args.dirs.now) (sym c.index_of-dir.ensures) (c.requires.pass.tabs c.args.tab c.requires.tab) in
    let h = hits g.C.Cell.tells g.C.Cell.state g.O.Origin.offers c.args.dirs.now c.args.pass.now c.requires.pass c.index_of-dir.result (dir_of c.args.pass.now c.args.tab) c.index.result.now c.index_mut.result.now c.abort.new.pass c.index_of-dir.ensures lt c.index.ensures c.index_mut.ensures.value in
    at_dir h _ c.abort.ensures.others

pub returns-clause-quiet : goal.returns-clause-quiet
returns-clause-quiet g c =
    let lt : c.index_of-dir.result < dir_count c.args.dirs.now = subst (λ (n : ℕ). n < dir_count c.args.dirs.now) (sym c.index_of-dir.ensures) (c.requires.pass.tabs c.args.tab c.requires.tab) in
    let h = hits g.C.Cell.tells g.C.Cell.state g.O.Origin.offers c.args.dirs.now c.args.pass.now c.requires.pass c.index_of-dir.result (dir_of c.args.pass.now c.args.tab) c.index.result.now c.index_mut.result.now c.abort.new.pass c.index_of-dir.ensures lt c.index.ensures c.index_mut.ensures.value in
    at_dir h _ c.abort.ensures.quiet

pub returns-clause-only : goal.returns-clause-only
returns-clause-only g c =
    let lt : c.index_of-dir.result < dir_count c.args.dirs.now = subst (λ (n : ℕ). n < dir_count c.args.dirs.now) (sym c.index_of-dir.ensures) (c.requires.pass.tabs c.args.tab c.requires.tab) in
    let h = hits g.C.Cell.tells g.C.Cell.state g.O.Origin.offers c.args.dirs.now c.args.pass.now c.requires.pass c.index_of-dir.result (dir_of c.args.pass.now c.args.tab) c.index.result.now c.index_mut.result.now c.abort.new.pass c.index_of-dir.ensures lt c.index.ensures c.index_mut.ensures.value in
    only_dir h

pub returns-clause-own : goal.returns-clause-own
returns-clause-own g c =
    let lt : c.index_of-dir.result < dir_count c.args.dirs.now = subst (λ (n : ℕ). n < dir_count c.args.dirs.now) (sym c.index_of-dir.ensures) (c.requires.pass.tabs c.args.tab c.requires.tab) in
    let h = hits g.C.Cell.tells g.C.Cell.state g.O.Origin.offers c.args.dirs.now c.args.pass.now c.requires.pass c.index_of-dir.result (dir_of c.args.pass.now c.args.tab) c.index.result.now c.index_mut.result.now c.abort.new.pass c.index_of-dir.ensures lt c.index.ensures c.index_mut.ensures.value in
    hits_own g.C.Cell.tells g.C.Cell.state g.O.Origin.offers c.args.dirs.now c.args.pass.now c.requires.pass _ (dir_of c.args.pass.now c.args.tab) c.index.result.now c.index_mut.result.now c.abort.new.pass h c.abort.ensures.others.own
