use Rattle.std.proofs.Common.{refl}
use Rattle.dir_set.proofs.OneFile.{at_dir, hits, hits_own, only_dir}
use Rattle.dir_set.proofs.opening.open_in.Goals as goal

pub open_entry-requires : goal.open_entry-requires
open_entry-requires g c =
    let h = hits g.C.Cell.tells g.C.Cell.state g.O.Origin.offers c.args.dirs.now c.args.pass.now c.requires.pass c.args.dir c.args.dir c.index.result.now c.index_mut.result.now c.index_mut.result.now refl c.requires.there c.index.ensures c.index_mut.ensures.value in
    c.requires.may c.index.result.now c.index_mut.result.now h.store h.pass.was

pub returns-in-Ok-clause-ok : goal.returns-in-Ok-clause-ok
returns-in-Ok-clause-ok g c =
    let h = hits g.C.Cell.tells g.C.Cell.state g.O.Origin.offers c.args.dirs.now c.args.pass.now c.requires.pass c.args.dir c.args.dir c.index.result.now c.index_mut.result.now c.open_entry.new.pass refl c.requires.there c.index.ensures c.index_mut.ensures.value in
    at_dir h _ (record { opened = c.in-Ok.ensures.ok; reads = c.in-Ok.ensures.reads; follows = c.open_entry.ensures.others; quiet = c.open_entry.ensures.quiet })

pub returns-in-Err-clause-err : goal.returns-in-Err-clause-err
returns-in-Err-clause-err g c =
    let h = hits g.C.Cell.tells g.C.Cell.state g.O.Origin.offers c.args.dirs.now c.args.pass.now c.requires.pass c.args.dir c.args.dir c.index.result.now c.index_mut.result.now c.open_entry.new.pass refl c.requires.there c.index.ensures c.index_mut.ensures.value in
    at_dir h _ (record { refused = c.in-Err.ensures.err; free = c.in-Err.ensures.free; follows = c.in-Err.ensures.refused; quiet = c.open_entry.ensures.quiet })

pub returns-in-Ok-clause-only : goal.returns-in-Ok-clause-only
returns-in-Ok-clause-only g c =
    let h = hits g.C.Cell.tells g.C.Cell.state g.O.Origin.offers c.args.dirs.now c.args.pass.now c.requires.pass c.args.dir c.args.dir c.index.result.now c.index_mut.result.now c.open_entry.new.pass refl c.requires.there c.index.ensures c.index_mut.ensures.value in
    only_dir h

pub returns-in-Ok-clause-own : goal.returns-in-Ok-clause-own
returns-in-Ok-clause-own g c =
    let h = hits g.C.Cell.tells g.C.Cell.state g.O.Origin.offers c.args.dirs.now c.args.pass.now c.requires.pass c.args.dir c.args.dir c.index.result.now c.index_mut.result.now c.open_entry.new.pass refl c.requires.there c.index.ensures c.index_mut.ensures.value in
    hits_own g.C.Cell.tells g.C.Cell.state g.O.Origin.offers c.args.dirs.now c.args.pass.now c.requires.pass _ c.args.dir c.index.result.now c.index_mut.result.now c.open_entry.new.pass h c.open_entry.ensures.others.own

pub returns-in-Err-clause-only : goal.returns-in-Err-clause-only
returns-in-Err-clause-only g c =
    let h = hits g.C.Cell.tells g.C.Cell.state g.O.Origin.offers c.args.dirs.now c.args.pass.now c.requires.pass c.args.dir c.args.dir c.index.result.now c.index_mut.result.now c.open_entry.new.pass refl c.requires.there c.index.ensures c.index_mut.ensures.value in
    only_dir h

pub returns-in-Err-clause-own : goal.returns-in-Err-clause-own
returns-in-Err-clause-own g c =
    let h = hits g.C.Cell.tells g.C.Cell.state g.O.Origin.offers c.args.dirs.now c.args.pass.now c.requires.pass c.args.dir c.args.dir c.index.result.now c.index_mut.result.now c.open_entry.new.pass refl c.requires.there c.index.ensures c.index_mut.ensures.value in
    hits_own g.C.Cell.tells g.C.Cell.state g.O.Origin.offers c.args.dirs.now c.args.pass.now c.requires.pass _ c.args.dir c.index.result.now c.index_mut.result.now c.open_entry.new.pass h c.open_entry.ensures.others.own
