use Rattle.std.proofs.Common.{arith, refl, ◌<◌}
use Rattle.std.proofs.lemmas.Option.{slice_get_within}
use Rattle.dir_set.proofs.OneFile.{at_dir, hits, hits_own, only_dir}
use Rattle.dir_set.specs.Dirs.{dir_count}
use Rattle.dir_set.proofs.notes.note_of.Goals as goal

pub note-requires : goal.note-requires
note-requires g c =
    let lt : c.args.dir < dir_count c.args.dirs.now = omega (arith, c.args.dirs.now.stores.ok.0) in
    let h = hits g.C.Cell.tells g.C.Cell.state g.O.Origin.offers c.args.dirs.now c.args.pass.now c.requires.pass c.args.dir c.args.dir c.index.result.now c.index_mut.result.now c.index_mut.result.now refl lt c.index.ensures c.index_mut.ensures.value in
    c.requires.pass.own c.args.dir c.index.result.now c.index_mut.result.now h.store h.pass.was

pub returns-then-dir-len-clause-noted : goal.returns-then-dir-len-clause-noted
returns-then-dir-len-clause-noted g c =
    let lt : c.args.dir < dir_count c.args.dirs.now = omega (arith, c.args.dirs.now.stores.ok.0) in
    let h = hits g.C.Cell.tells g.C.Cell.state g.O.Origin.offers c.args.dirs.now c.args.pass.now c.requires.pass c.args.dir c.args.dir c.index.result.now c.index_mut.result.now c.note.new.pass refl lt c.index.ensures c.index_mut.ensures.value in
    at_dir h _ (record { copy = c.note.result; copy_is = refl; keeps = c.note.ensures.pass.0; view_is = c.note.ensures.pass.1; own = c.note.ensures.note.0; seen = c.note.ensures.note.1 })

pub returns-then-dir-len-clause-only : goal.returns-then-dir-len-clause-only
returns-then-dir-len-clause-only g c =
    let lt : c.args.dir < dir_count c.args.dirs.now = omega (arith, c.args.dirs.now.stores.ok.0) in
    let h = hits g.C.Cell.tells g.C.Cell.state g.O.Origin.offers c.args.dirs.now c.args.pass.now c.requires.pass c.args.dir c.args.dir c.index.result.now c.index_mut.result.now c.note.new.pass refl lt c.index.ensures c.index_mut.ensures.value in
    only_dir h

pub returns-then-dir-len-clause-own : goal.returns-then-dir-len-clause-own
returns-then-dir-len-clause-own g c =
    let lt : c.args.dir < dir_count c.args.dirs.now = omega (arith, c.args.dirs.now.stores.ok.0) in
    let h = hits g.C.Cell.tells g.C.Cell.state g.O.Origin.offers c.args.dirs.now c.args.pass.now c.requires.pass c.args.dir c.args.dir c.index.result.now c.index_mut.result.now c.note.new.pass refl lt c.index.ensures c.index_mut.ensures.value in
    hits_own g.C.Cell.tells g.C.Cell.state g.O.Origin.offers c.args.dirs.now c.args.pass.now c.requires.pass _ c.args.dir c.index.result.now c.index_mut.result.now c.note.new.pass h c.note.ensures.pass.0.own

pub returns-else-dir-len-clause-noted : goal.returns-else-dir-len-clause-noted
returns-else-dir-len-clause-noted g c s p q es ep eq =
    absurd (let lt = slice_get_within c.args.dirs.now.stores.items c.args.dir s es in omega (arith, c.args.dirs.now.stores.ok.0))
