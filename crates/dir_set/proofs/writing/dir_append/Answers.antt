use Rattle.std.proofs.Common.{arith, subst, sym, ◌<◌, ◌≡◌, ℕ}
use Rattle.rock_io.specs.Faults.{Rose}
use Rattle.dir_set.proofs.OneFile.{at_dir, at_item, hits, hits_own, only_dir, only_item, puts}
use Rattle.dir_set.specs.Dirs.{dir_count, dir_of}
use Rattle.dir_set.proofs.writing.dir_append.Goals as goal

pub index-requires : goal.index-requires
index-requires g c =
    let lt : c.index_of-dir.result < dir_count c.args.dirs.now = subst (λ (n : ℕ). n < dir_count c.args.dirs.now) (sym c.index_of-dir.ensures) (c.requires.pass.tabs c.args.tab c.requires.tab) in
    omega (arith, c.args.dirs.now.stores.ok.0, c.args.pass.now.passes.ok.0, c.requires.pass.many)

pub index_mut-requires : goal.index_mut-requires
index_mut-requires g c =
    let lt : c.index_of-dir.result < dir_count c.args.dirs.now = subst (λ (n : ℕ). n < dir_count c.args.dirs.now) (sym c.index_of-dir.ensures) (c.requires.pass.tabs c.args.tab c.requires.tab) in
    omega (arith, c.args.dirs.now.stores.ok.0, c.args.pass.now.passes.ok.0, c.requires.pass.many)

pub bounds-stations-dir : goal.bounds-stations-dir
bounds-stations-dir g c =
    let lt : c.index_of-dir.result < dir_count c.args.dirs.now = subst (λ (n : ℕ). n < dir_count c.args.dirs.now) (sym c.index_of-dir.ensures) (c.requires.pass.tabs c.args.tab c.requires.tab) in
    omega (arith, c.requires.stations)

pub append-requires : goal.append-requires
append-requires g c =
    let lt : c.index_of-dir.result < dir_count c.args.dirs.now = subst (λ (n : ℕ). n < dir_count c.args.dirs.now) (sym c.index_of-dir.ensures) (c.requires.pass.tabs c.args.tab c.requires.tab) in
    let h = hits g.C.Cell.tells g.C.Cell.state g.O.Origin.offers c.args.dirs.now c.args.pass.now c.requires.pass c.index_of-dir.result (dir_of c.args.pass.now c.args.tab) c.index.result.now c.index_mut.result.now c.index_mut.result.now c.index_of-dir.ensures lt c.index.ensures c.index_mut.ensures.value in
    c.requires.may c.index.result.now c.index_mut.result.now h.store h.pass.was

pub returns-clause-ok : goal.returns-clause-ok
returns-clause-ok g c =
    let lt : c.index_of-dir.result < dir_count c.args.dirs.now = subst (λ (n : ℕ). n < dir_count c.args.dirs.now) (sym c.index_of-dir.ensures) (c.requires.pass.tabs c.args.tab c.requires.tab) in
    let h = hits g.C.Cell.tells g.C.Cell.state g.O.Origin.offers c.args.dirs.now c.args.pass.now c.requires.pass c.index_of-dir.result (dir_of c.args.pass.now c.args.tab) c.index.result.now c.index_mut.result.now c.append.new.pass c.index_of-dir.ensures lt c.index.ensures c.index_mut.ensures.value in
    at_dir h _ c.append.ensures.ok

pub returns-clause-durable : goal.returns-clause-durable
returns-clause-durable g c =
    let lt : c.index_of-dir.result < dir_count c.args.dirs.now = subst (λ (n : ℕ). n < dir_count c.args.dirs.now) (sym c.index_of-dir.ensures) (c.requires.pass.tabs c.args.tab c.requires.tab) in
    let h = hits g.C.Cell.tells g.C.Cell.state g.O.Origin.offers c.args.dirs.now c.args.pass.now c.requires.pass c.index_of-dir.result (dir_of c.args.pass.now c.args.tab) c.index.result.now c.index_mut.result.now c.append.new.pass c.index_of-dir.ensures lt c.index.ensures c.index_mut.ensures.value in
    at_dir h _ c.append.ensures.durable

pub returns-clause-err : goal.returns-clause-err
returns-clause-err g c =
    let lt : c.index_of-dir.result < dir_count c.args.dirs.now = subst (λ (n : ℕ). n < dir_count c.args.dirs.now) (sym c.index_of-dir.ensures) (c.requires.pass.tabs c.args.tab c.requires.tab) in
    let h = hits g.C.Cell.tells g.C.Cell.state g.O.Origin.offers c.args.dirs.now c.args.pass.now c.requires.pass c.index_of-dir.result (dir_of c.args.pass.now c.args.tab) c.index.result.now c.index_mut.result.now c.append.new.pass c.index_of-dir.ensures lt c.index.ensures c.index_mut.ensures.value in
    at_dir h _ c.append.ensures.err

pub returns-clause-others : goal.returns-clause-others
returns-clause-others g c =
    let lt : c.index_of-dir.result < dir_count c.args.dirs.now = subst (λ (n : ℕ). n < dir_count c.args.dirs.now) (sym c.index_of-dir.ensures) (c.requires.pass.tabs c.args.tab c.requires.tab) in
    let h = hits g.C.Cell.tells g.C.Cell.state g.O.Origin.offers c.args.dirs.now c.args.pass.now c.requires.pass c.index_of-dir.result (dir_of c.args.pass.now c.args.tab) c.index.result.now c.index_mut.result.now c.append.new.pass c.index_of-dir.ensures lt c.index.ensures c.index_mut.ensures.value in
    at_dir h _ c.append.ensures.others

pub returns-clause-quiet : goal.returns-clause-quiet
returns-clause-quiet g c =
    let lt : c.index_of-dir.result < dir_count c.args.dirs.now = subst (λ (n : ℕ). n < dir_count c.args.dirs.now) (sym c.index_of-dir.ensures) (c.requires.pass.tabs c.args.tab c.requires.tab) in
    let h = hits g.C.Cell.tells g.C.Cell.state g.O.Origin.offers c.args.dirs.now c.args.pass.now c.requires.pass c.index_of-dir.result (dir_of c.args.pass.now c.args.tab) c.index.result.now c.index_mut.result.now c.append.new.pass c.index_of-dir.ensures lt c.index.ensures c.index_mut.ensures.value in
    at_dir h _ c.append.ensures.quiet

pub returns-clause-only : goal.returns-clause-only
returns-clause-only g c =
    let lt : c.index_of-dir.result < dir_count c.args.dirs.now = subst (λ (n : ℕ). n < dir_count c.args.dirs.now) (sym c.index_of-dir.ensures) (c.requires.pass.tabs c.args.tab c.requires.tab) in
    let h = hits g.C.Cell.tells g.C.Cell.state g.O.Origin.offers c.args.dirs.now c.args.pass.now c.requires.pass c.index_of-dir.result (dir_of c.args.pass.now c.args.tab) c.index.result.now c.index_mut.result.now c.append.new.pass c.index_of-dir.ensures lt c.index.ensures c.index_mut.ensures.value in
    only_dir h

pub returns-clause-own : goal.returns-clause-own
returns-clause-own g c =
    let lt : c.index_of-dir.result < dir_count c.args.dirs.now = subst (λ (n : ℕ). n < dir_count c.args.dirs.now) (sym c.index_of-dir.ensures) (c.requires.pass.tabs c.args.tab c.requires.tab) in
    let h = hits g.C.Cell.tells g.C.Cell.state g.O.Origin.offers c.args.dirs.now c.args.pass.now c.requires.pass c.index_of-dir.result (dir_of c.args.pass.now c.args.tab) c.index.result.now c.index_mut.result.now c.append.new.pass c.index_of-dir.ensures lt c.index.ensures c.index_mut.ensures.value in
    hits_own g.C.Cell.tells g.C.Cell.state g.O.Origin.offers c.args.dirs.now c.args.pass.now c.requires.pass _ (dir_of c.args.pass.now c.args.tab) c.index.result.now c.index_mut.result.now c.append.new.pass h c.append.ensures.others.own

pub returns-clause-unfailed : goal.returns-clause-unfailed
returns-clause-unfailed g c is =
    let lt : c.index_of-dir.result < dir_count c.args.dirs.now = subst (λ (n : ℕ). n < dir_count c.args.dirs.now) (sym c.index_of-dir.ensures) (c.requires.pass.tabs c.args.tab c.requires.tab) in
    let t = puts c.args.stations.now c.index_of-dir.result (dir_of c.args.pass.now c.args.tab) c.index-stations-dir.result c.append.new.station c.index_of-dir.ensures (omega (arith, c.requires.stations)) c.index-stations-dir.is in
    at_item t (λ x y. g.St.Station.faults y ≡ g.St.Station.faults x)
    (subst (λ (x : g.row.St.Denot). g.St.Station.faults c.append.new.station ≡ g.St.Station.faults x) (sym c.index-stations-dir.is) (c.append.ensures.unfailed is))

pub returns-clause-failed : goal.returns-clause-failed
returns-clause-failed g c is =
    let lt : c.index_of-dir.result < dir_count c.args.dirs.now = subst (λ (n : ℕ). n < dir_count c.args.dirs.now) (sym c.index_of-dir.ensures) (c.requires.pass.tabs c.args.tab c.requires.tab) in
    let t = puts c.args.stations.now c.index_of-dir.result (dir_of c.args.pass.now c.args.tab) c.index-stations-dir.result c.append.new.station c.index_of-dir.ensures (omega (arith, c.requires.stations)) c.index-stations-dir.is in
    at_item t (λ x y. Rose (g.St.Station.faults x) (g.St.Station.faults y))
    (subst (λ (x : g.row.St.Denot). Rose (g.St.Station.faults x) (g.St.Station.faults c.append.new.station)) (sym c.index-stations-dir.is) (c.append.ensures.failed is))

pub returns-clause-stations : goal.returns-clause-stations
returns-clause-stations g c =
    let lt : c.index_of-dir.result < dir_count c.args.dirs.now = subst (λ (n : ℕ). n < dir_count c.args.dirs.now) (sym c.index_of-dir.ensures) (c.requires.pass.tabs c.args.tab c.requires.tab) in
    let t = puts c.args.stations.now c.index_of-dir.result (dir_of c.args.pass.now c.args.tab) c.index-stations-dir.result c.append.new.station c.index_of-dir.ensures (omega (arith, c.requires.stations)) c.index-stations-dir.is in
    only_item t
