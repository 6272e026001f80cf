use Rattle.std.proofs.Common.{arith, ◌≤◌, ℕ}
use Rattle.std.proofs.lemmas.Option.{slice_get_within}
use Rattle.store_rule.specs.declared.store.Pass.{Pass}
use Rattle.store_rule.specs.declared.store.Store.{Store}
use Rattle.dir_set.proofs.OneFile.{there_is}
use Rattle.dir_set.proofs.Range.{all_dirs, eight_dirs}
use Rattle.dir_set.specs.Dirs.{answer_at, dir_count}
use Rattle.dir_set.specs.Notes.{NotedIn, notes_of}
use Rattle.dir_set.proofs.notes.dir_note.Goals as goal

pub returns-clause-notes : goal.returns-clause-notes
returns-clause-notes g c =
    let few : dir_count c.args.dirs.now ≤ 8 = omega (arith, c.args.dirs.now.few, c.args.dirs.now.stores.ok.0) in
    let R = λ (d : ℕ) (s : Store g.row.C.Denot g.row.O.Denot) (p q : Pass g.row.C.Denot). NotedIn g.C.Cell.tells g.C.Cell.state g.O.Origin.offers s p q (answer_at (notes_of (record {
      first = c.note_of-first.result;
      second = c.note_of-second.result;
      third = c.note_of-third.result;
      fourth = c.note_of-fourth.result;
      fifth = c.note_of-fifth.result;
      sixth = c.note_of-sixth.result;
      seventh = c.note_of-seventh.result;
      eighth = c.note_of-eighth.result;
    })) d) in
    all_dirs c.args.dirs.now c.args.pass.now c.note_of-eighth.new.pass 0 8 R
    (eight_dirs c.args.dirs.now R c.args.pass.now c.note_of-first.new.pass c.note_of-second.new.pass c.note_of-third.new.pass c.note_of-fourth.new.pass
    c.note_of-fifth.new.pass c.note_of-sixth.new.pass c.note_of-seventh.new.pass c.note_of-eighth.new.pass
    (c.note_of-first.ensures.only, c.note_of-first.ensures.noted) (c.note_of-second.ensures.only, c.note_of-second.ensures.noted)
    (c.note_of-third.ensures.only, c.note_of-third.ensures.noted) (c.note_of-fourth.ensures.only, c.note_of-fourth.ensures.noted)
    (c.note_of-fifth.ensures.only, c.note_of-fifth.ensures.noted) (c.note_of-sixth.ensures.only, c.note_of-sixth.ensures.noted)
    (c.note_of-seventh.ensures.only, c.note_of-seventh.ensures.noted) (c.note_of-eighth.ensures.only, c.note_of-eighth.ensures.noted)) few

pub returns-clause-note : goal.returns-clause-note
returns-clause-note g c d s es =
    let lt = slice_get_within c.args.dirs.now.stores.items d s es in
    let x = there_is c.args.pass.now.passes.items d (omega (arith, lt, c.requires.pass.many)) in
    let y = there_is c.note_of-eighth.new.pass.passes.items d (omega (arith, lt, c.note_of-eighth.ensures.own.many)) in
    let n = returns-clause-notes g c d s x.0 y.0 es x.1 y.1 in
    (n.copy, n.copy_is, n.own)
