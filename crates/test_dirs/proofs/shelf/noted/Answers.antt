use Rattle.std.proofs.Common.{ℕ}
use Rattle.dir_set.specs.Dirs.{answer_at}
use Rattle.dir_set.specs.Notes.{notes_of}
use Rattle.test_dirs.specs.Offered.{offers_in}
use Rattle.test_dirs.proofs.Reading.{learned_ready, noted_ready}
use Rattle.test_dirs.proofs.shelf.noted.Goals as goal

pub returns : goal.returns
returns g c = record {
  ready = learned_ready g.C.Cell.tells g.C.Cell.state g.O.Origin.offers 3 (offers_in c.args.first.now c.args.second.now c.args.body.now) c.dir_note-note.result c.args.dirs.now c.dir_note-note.new.pass c.dir_learn.new.pass c.dir_note-note.ensures.note
      (noted_ready g.C.Cell.tells g.C.Cell.state g.O.Origin.offers 3 (offers_in c.args.first.now c.args.second.now c.args.body.now) (λ (d : ℕ). answer_at (notes_of c.dir_note-note.result) d) c.args.dirs.now c.args.pass.now c.dir_note-note.new.pass c.requires.ready c.dir_note-note.ensures.own c.dir_note-note.ensures.notes)
      c.dir_learn.ensures.own c.dir_learn.ensures.learns;
}
