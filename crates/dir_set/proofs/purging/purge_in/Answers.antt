use Rattle.std.proofs.Common.{arith, refl}
use Rattle.dir_set.proofs.OneFile.{at_dir, hits, hits_own, only_dir}
use Rattle.dir_set.proofs.Said.{answer_beside, says_cause, says_left}
use Rattle.dir_set.proofs.purging.purge_in.Goals as goal

pub purge-requires : goal.purge-requires
purge-requires g c =
    let h = hits g.C.Cell.tells g.C.Cell.state g.O.Origin.offers c.args.dirs.now c.args.pass.now c.requires.pass c.args.dir c.args.dir c.index.result.now c.index_mut.result.now c.index_mut.result.now refl c.requires.there c.index.ensures c.index_mut.ensures.value in
    c.requires.may c.index.result.now c.index_mut.result.now h.store h.pass.was

pub returns-in-Ok-clause-says : goal.returns-in-Ok-clause-says
returns-in-Ok-clause-says g c =
    let h = hits g.C.Cell.tells g.C.Cell.state g.O.Origin.offers c.args.dirs.now c.args.pass.now c.requires.pass c.args.dir c.args.dir c.index.result.now c.index_mut.result.now c.purge.new.pass refl c.requires.there c.index.ensures c.index_mut.ensures.value in
    at_dir h _ (says_left g.C.Cell.tells g.C.Cell.state g.O.Origin.offers c.args.url.now c.index.result.now c.index_mut.result.now c.purge.new.pass c.args.left.now c.args.causes.now c.args.dir c.in-Ok.epoch
    (omega (arith, c.args.dirs.now.few, c.args.dirs.now.stores.ok.0, c.requires.there, c.requires.room.0)) c.requires.none.1
    (record { purged = c.in-Ok.ensures.ok; free = c.purge.ensures.free; follows = c.purge.ensures.others }))

pub returns-in-Err-clause-says : goal.returns-in-Err-clause-says
returns-in-Err-clause-says g c =
    let h = hits g.C.Cell.tells g.C.Cell.state g.O.Origin.offers c.args.dirs.now c.args.pass.now c.requires.pass c.args.dir c.args.dir c.index.result.now c.index_mut.result.now c.purge.new.pass refl c.requires.there c.index.ensures c.index_mut.ensures.value in
    at_dir h _ (says_cause g.C.Cell.tells g.C.Cell.state g.O.Origin.offers c.args.url.now c.index.result.now c.index_mut.result.now c.purge.new.pass c.args.left.now c.args.causes.now c.args.dir c.in-Err.cause
    (omega (arith, c.args.dirs.now.few, c.args.dirs.now.stores.ok.0, c.requires.there, c.requires.room.1)) c.requires.none.0
    (record { refused = c.in-Err.ensures.err; free = c.purge.ensures.free; follows = c.purge.ensures.others; quiet = c.in-Err.ensures.quiet }))

pub returns-in-Ok-clause-beside : goal.returns-in-Ok-clause-beside
returns-in-Ok-clause-beside g c d ne = (answer_beside c.args.left.now c.args.dir _ d ne, refl)

pub returns-in-Err-clause-beside : goal.returns-in-Err-clause-beside
returns-in-Err-clause-beside g c d ne = (refl, answer_beside c.args.causes.now c.args.dir _ d ne)

pub returns-in-Ok-clause-only : goal.returns-in-Ok-clause-only
returns-in-Ok-clause-only g c =
    let h = hits g.C.Cell.tells g.C.Cell.state g.O.Origin.offers c.args.dirs.now c.args.pass.now c.requires.pass c.args.dir c.args.dir c.index.result.now c.index_mut.result.now c.purge.new.pass refl c.requires.there c.index.ensures c.index_mut.ensures.value in
    only_dir h

pub returns-in-Ok-clause-own : goal.returns-in-Ok-clause-own
returns-in-Ok-clause-own g c =
    let h = hits g.C.Cell.tells g.C.Cell.state g.O.Origin.offers c.args.dirs.now c.args.pass.now c.requires.pass c.args.dir c.args.dir c.index.result.now c.index_mut.result.now c.purge.new.pass refl c.requires.there c.index.ensures c.index_mut.ensures.value in
    hits_own g.C.Cell.tells g.C.Cell.state g.O.Origin.offers c.args.dirs.now c.args.pass.now c.requires.pass _ c.args.dir c.index.result.now c.index_mut.result.now c.purge.new.pass h c.purge.ensures.others.own

pub returns-in-Err-clause-only : goal.returns-in-Err-clause-only
returns-in-Err-clause-only g c =
    let h = hits g.C.Cell.tells g.C.Cell.state g.O.Origin.offers c.args.dirs.now c.args.pass.now c.requires.pass c.args.dir c.args.dir c.index.result.now c.index_mut.result.now c.purge.new.pass refl c.requires.there c.index.ensures c.index_mut.ensures.value in
    only_dir h

pub returns-in-Err-clause-own : goal.returns-in-Err-clause-own
returns-in-Err-clause-own g c =
    let h = hits g.C.Cell.tells g.C.Cell.state g.O.Origin.offers c.args.dirs.now c.args.pass.now c.requires.pass c.args.dir c.args.dir c.index.result.now c.index_mut.result.now c.purge.new.pass refl c.requires.there c.index.ensures c.index_mut.ensures.value in
    hits_own g.C.Cell.tells g.C.Cell.state g.O.Origin.offers c.args.dirs.now c.args.pass.now c.requires.pass _ c.args.dir c.index.result.now c.index_mut.result.now c.purge.new.pass h c.purge.ensures.others.own
