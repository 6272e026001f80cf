use Rattle.std.proofs.Common.{arith, refl, subst, sym, ◌<◌}
use Rattle.std.proofs.lemmas.Option.{slice_get_within}
use Rattle.std.specs.Prelude.{IfSome, Option}
use Rattle.dir_set.proofs.OneFile.{at_dir, hits, hits_own, only_dir}
use Rattle.dir_set.specs.Dirs.{dir_count}
use Rattle.dir_set.specs.Notes.{LearnedIn}
use Rattle.store_rule.specs.Passes.{IsNoteOf}
use Rattle.store_rule.specs.declared.store.Note.{Note}
use Rattle.dir_set.proofs.notes.learn_of.Goals as goal

pub learn-requires-clause-pass : goal.learn-requires-clause-pass
learn-requires-clause-pass g c =
    let lt : c.args.dir < dir_count c.args.dirs.now = omega (arith, c.args.dirs.now.stores.ok.0) in
    let h = hits g.C.Cell.tells g.C.Cell.state g.O.Origin.offers c.args.dirs.now c.args.pass.now c.requires.pass c.args.dir c.args.dir c.index.result.now c.index_mut.result.now c.index_mut.result.now refl lt c.index.ensures c.index_mut.ensures.value in
    c.requires.pass.own c.args.dir c.index.result.now c.index_mut.result.now h.store h.pass.was

pub learn-requires-clause-note : goal.learn-requires-clause-note
learn-requires-clause-note g c =
    let lt : c.args.dir < dir_count c.args.dirs.now = omega (arith, c.args.dirs.now.stores.ok.0) in
    let h = hits g.C.Cell.tells g.C.Cell.state g.O.Origin.offers c.args.dirs.now c.args.pass.now c.requires.pass c.args.dir c.args.dir c.index.result.now c.index_mut.result.now c.index_mut.result.now refl lt c.index.ensures c.index_mut.ensures.value in
    subst (λ (o : Option (Note _)). IfSome o (IsNoteOf c.index.result.now)) c.in-Some.is (c.requires.note c.index.result.now h.store)

pub returns-in-Some-clause-learns : goal.returns-in-Some-clause-learns
returns-in-Some-clause-learns g c =
    let lt : c.args.dir < dir_count c.args.dirs.now = omega (arith, c.args.dirs.now.stores.ok.0) in
    let h = hits g.C.Cell.tells g.C.Cell.state g.O.Origin.offers c.args.dirs.now c.args.pass.now c.requires.pass c.args.dir c.args.dir c.index.result.now c.index_mut.result.now c.learn.new.pass refl lt c.index.ensures c.index_mut.ensures.value in
    at_dir h (λ s p q. IfSome c.args.note (LearnedIn g.C.Cell.tells g.C.Cell.state g.O.Origin.offers s p q))
    (subst (λ (o : Option (Note _)). IfSome o (LearnedIn g.C.Cell.tells g.C.Cell.state g.O.Origin.offers c.index.result.now c.index_mut.result.now c.learn.new.pass)) (sym c.in-Some.is)
    (record { keeps = c.learn.ensures.0; view_is = c.learn.ensures.1 }))

pub returns-in-Some-clause-only : goal.returns-in-Some-clause-only
returns-in-Some-clause-only g c =
    let lt : c.args.dir < dir_count c.args.dirs.now = omega (arith, c.args.dirs.now.stores.ok.0) in
    let h = hits g.C.Cell.tells g.C.Cell.state g.O.Origin.offers c.args.dirs.now c.args.pass.now c.requires.pass c.args.dir c.args.dir c.index.result.now c.index_mut.result.now c.learn.new.pass refl lt c.index.ensures c.index_mut.ensures.value in
    only_dir h

pub returns-in-Some-clause-own : goal.returns-in-Some-clause-own
returns-in-Some-clause-own g c =
    let lt : c.args.dir < dir_count c.args.dirs.now = omega (arith, c.args.dirs.now.stores.ok.0) in
    let h = hits g.C.Cell.tells g.C.Cell.state g.O.Origin.offers c.args.dirs.now c.args.pass.now c.requires.pass c.args.dir c.args.dir c.index.result.now c.index_mut.result.now c.learn.new.pass refl lt c.index.ensures c.index_mut.ensures.value in
    hits_own g.C.Cell.tells g.C.Cell.state g.O.Origin.offers c.args.dirs.now c.args.pass.now c.requires.pass _ c.args.dir c.index.result.now c.index_mut.result.now c.learn.new.pass h c.learn.ensures.0.own

pub returns-else-dir-len-clause-learns : goal.returns-else-dir-len-clause-learns
returns-else-dir-len-clause-learns g c s p q es ep eq =
    absurd (let lt = slice_get_within c.args.dirs.now.stores.items c.args.dir s es in omega (arith, c.args.dirs.now.stores.ok.0))
