use Rattle.std.proofs.Common.{ap, refl, subst, sym, ℕ}
use Rattle.std.specs.Prelude.{Err}
use Rattle.dir_set.proofs.OneFile.{at_dir, hits, hits_own, only_dir}
use Rattle.rock_writer.specs.Beginning.{MayBegin}
use Rattle.dir_set.proofs.Begins.{begun_by}
use Rattle.dir_set.proofs.beginning.begin_in.Goals as goal

pub begin-requires : goal.begin-requires
begin-requires g c =
    let h = hits g.C.Cell.tells g.C.Cell.state g.O.Origin.offers c.args.dirs.now c.args.pass.now c.requires.pass c.args.dir c.args.dir c.index-store.result.now c.index_mut.result.now c.index_mut.result.now refl c.requires.there c.index-store.ensures c.index_mut.ensures.value in
    subst (λ (n : ℕ). MayBegin g.C.Cell.tells g.C.Cell.state g.O.Origin.offers c.index-store.result.now c.index_mut.result.now c.args.tab n c.args.url.now) (sym c.offer_of-offer.ensures)
    (c.requires.may c.index-store.result.now c.index_mut.result.now h.store h.pass.was)

pub returns-in-Ok-clause-ok : goal.returns-in-Ok-clause-ok
returns-in-Ok-clause-ok g c =
    let h = hits g.C.Cell.tells g.C.Cell.state g.O.Origin.offers c.args.dirs.now c.args.pass.now c.requires.pass c.args.dir c.args.dir c.index-store.result.now c.index_mut.result.now c.begin.new.pass refl c.requires.there c.index-store.ensures c.index_mut.ensures.value in
    at_dir h _ (begun_by g.C.Cell.tells g.C.Cell.state g.O.Origin.offers c.args.tab c.args.line c.args.url.now c.args.durable c.index-store.result.now c.index_mut.result.now c.begin.new.pass c.offer_of-offer.result c.in-Ok.version
    c.offer_of-offer.ensures c.in-Ok.ensures.ok c.in-Ok.ensures.durable c.begin.ensures.hand c.begin.ensures.others c.begin.ensures.quiet)

pub returns-in-Err-clause-err : goal.returns-in-Err-clause-err
returns-in-Err-clause-err g c =
    let h = hits g.C.Cell.tells g.C.Cell.state g.O.Origin.offers c.args.dirs.now c.args.pass.now c.requires.pass c.args.dir c.args.dir c.index-store.result.now c.index_mut.result.now c.begin.new.pass refl c.requires.there c.index-store.ensures c.index_mut.ensures.value in
    let short = c.requires.short c.index-store.result.now h.store in
    at_dir h _ (record {
      short = λ is. short (c.in-Err.ensures.long.0 (ap Err is));
      not_taken = c.in-Err.ensures.err;
      free = c.in-Err.ensures.tabs;
      desks = c.in-Err.ensures.desks;
      hand = c.begin.ensures.hand;
      follows = c.begin.ensures.others;
      quiet = c.begin.ensures.quiet;
    })

pub returns-in-Ok-clause-only : goal.returns-in-Ok-clause-only
returns-in-Ok-clause-only g c =
    let h = hits g.C.Cell.tells g.C.Cell.state g.O.Origin.offers c.args.dirs.now c.args.pass.now c.requires.pass c.args.dir c.args.dir c.index-store.result.now c.index_mut.result.now c.begin.new.pass refl c.requires.there c.index-store.ensures c.index_mut.ensures.value in
    only_dir h

pub returns-in-Ok-clause-own : goal.returns-in-Ok-clause-own
returns-in-Ok-clause-own g c =
    let h = hits g.C.Cell.tells g.C.Cell.state g.O.Origin.offers c.args.dirs.now c.args.pass.now c.requires.pass c.args.dir c.args.dir c.index-store.result.now c.index_mut.result.now c.begin.new.pass refl c.requires.there c.index-store.ensures c.index_mut.ensures.value in
    hits_own g.C.Cell.tells g.C.Cell.state g.O.Origin.offers c.args.dirs.now c.args.pass.now c.requires.pass _ c.args.dir c.index-store.result.now c.index_mut.result.now c.begin.new.pass h c.begin.ensures.others.own

pub returns-in-Err-clause-only : goal.returns-in-Err-clause-only
returns-in-Err-clause-only g c =
    let h = hits g.C.Cell.tells g.C.Cell.state g.O.Origin.offers c.args.dirs.now c.args.pass.now c.requires.pass c.args.dir c.args.dir c.index-store.result.now c.index_mut.result.now c.begin.new.pass refl c.requires.there c.index-store.ensures c.index_mut.ensures.value in
    only_dir h

pub returns-in-Err-clause-own : goal.returns-in-Err-clause-own
returns-in-Err-clause-own g c =
    let h = hits g.C.Cell.tells g.C.Cell.state g.O.Origin.offers c.args.dirs.now c.args.pass.now c.requires.pass c.args.dir c.args.dir c.index-store.result.now c.index_mut.result.now c.begin.new.pass refl c.requires.there c.index-store.ensures c.index_mut.ensures.value in
    hits_own g.C.Cell.tells g.C.Cell.state g.O.Origin.offers c.args.dirs.now c.args.pass.now c.requires.pass _ c.args.dir c.index-store.result.now c.index_mut.result.now c.begin.new.pass h c.begin.ensures.others.own
