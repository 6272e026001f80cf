use Rattle.std.proofs.Common.{◌+◌, ◌++◌, ◌∷◌, [], sym, subst, arith}
use Rattle.worker_pool.specs.Knowing.{Holds, Ready, Served}
use Rattle.marks.specs.Seats.{view}
use Rattle.worker_pool.proofs.Going.{ready_next, served_kept}
use Rattle.worker_pool.specs.Courses.{Stopped}
use Rattle.worker_pool.proofs.Stopping.{stopped_first}
use Rattle.worker_pool.proofs.worker.Worker.serve.Goals as goal

pub answered-answer-requires-clause-may : goal.answered-answer-requires-clause-may
answered-answer-requires-clause-may g c κs out m e =
    let here = c.requires.marks.set c.args.place m c.args.line.now c.requires.at e in
    (here.0, c.requires.ready.may c.args.place m c.args.line.now c.requires.at (omega arith) c.requires.mine e)

pub returns-clause-ready : goal.returns-clause-ready
returns-clause-ready g c =
    let done = c.answered-answer.ensures in
    let same = c.keep.ensures.same in
    subst (λ seat. Ready g.H.Shelf c.args.marks.now c.args.lines.now c.args.self.now.number (c.args.place + 1) c.keep.new.self.shelf seat) (sym same.2)
    (subst (λ shelf. Ready g.H.Shelf c.args.marks.now c.args.lines.now c.args.self.now.number (c.args.place + 1) shelf c.answered-answer.new.seat) (sym same.1)
    (ready_next g.H.Shelf c.args.marks.now c.args.lines.now c.args.self.now.number c.args.place c.args.line.now c.args.self.now.shelf c.answered-answer.new.shelf c.args.self.now.seat c.answered-answer.new.seat
    c.requires.marks c.requires.at done.own done.kept (subst (λ l. Holds (l ++ c.args.line.now ∷ []) (view c.args.self.now.seat) (view c.answered-answer.new.seat)) c.split_at.ensures.front done.holds) c.requires.ready))

pub returns-clause-served : goal.returns-clause-served
returns-clause-served g c start before going =
    let done = c.answered-answer.ensures in
    let same = c.keep.ensures.same in
    subst (λ seat. Served g.H.Shelf c.args.lines.now c.args.self.now.number start (c.args.place + 1) c.keep.new.self.shelf c.keep.new.self.answers.items (view seat)) (sym same.2)
    (subst (λ shelf. Served g.H.Shelf c.args.lines.now c.args.self.now.number start (c.args.place + 1) shelf c.keep.new.self.answers.items (view c.answered-answer.new.seat)) (sym same.1)
    (served_kept g.H.Shelf c.args.lines.now c.args.self.now.number start c.args.place c.args.line.now c.args.self.now.shelf c.answered-answer.new.shelf c.split_at.result.0.now c.args.self.now.answers.items c.keep.new.self.answers.items c.answered-answer.result
    (view c.args.self.now.seat) (view c.answered-answer.new.seat) c.requires.at c.requires.mine done.extends c.split_at.ensures.front done.answered (c.keep.ensures.kept going) before))

pub returns-clause-stopped : goal.returns-clause-stopped
returns-clause-stopped g c start before halts =
    let done = c.answered-answer.ensures in
    let same = c.keep.ensures.same in
    subst (λ shelf. Stopped g.H.Shelf c.args.lines.now c.args.self.now.number (c.args.place + 1) start shelf) (sym same.1)
    (stopped_first g.H.Shelf c.args.lines.now c.args.self.now.number start c.args.place c.args.line.now c.args.self.now.shelf c.answered-answer.new.shelf c.split_at.result.0.now c.args.self.now.answers.items c.answered-answer.result
    (view c.args.self.now.seat) (view c.answered-answer.new.seat) c.requires.at c.requires.mine c.split_at.ensures.front done.answered done.wanted done.kept before)
