use Rattle.std.proofs.Common.{arith, subst, sym}
use Rattle.rock_disk.specs.File.{IsNotAway}
use Rattle.std.proofs.lemmas.Option.{slice_get_within}
use Rattle.dir_set.proofs.OneFile.{there_is}
use Rattle.dir_set.proofs.files.close_dirs.Goals as goal

pub returns-clause-home : goal.returns-clause-home
returns-clause-home g c t d name en =
    let lt = slice_get_within c.args.names.now d name en in
    let s = there_is c.args.dirs.stores.items d (let m = c.requires.files.0 in omega (arith, lt, m)) in
    let h = there_is c.args.homes.items d (let m = c.requires.files.1 in omega (arith, lt, m, c.args.homes.ok.0)) in
    let may = c.requires.may d name s.0 h.0 en s.1 h.1 in
    let closed = c.close_parts.ensures.closed d name s.0 h.0 en s.1 h.1 in
    subst IsNotAway (sym (closed.back t _ _ (may.may.away t).0 (may.may.away t).1)) tt
