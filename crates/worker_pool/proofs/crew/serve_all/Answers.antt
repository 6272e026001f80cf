use Rattle.std.proofs.Common.{◌-◌, length}
use Rattle.worker_pool.proofs.Backwards.{from_reversed, ended_backwards}
use Rattle.worker_pool.proofs.crew.serve_all.Goals as goal

pub serve_backwards-requires-clause-begin : goal.serve_backwards-requires-clause-begin
serve_backwards-requires-clause-begin g c κs within w x at =
    let workers = c.args.workers.now in
    c.requires.begin (length workers - 1 - w) x (from_reversed workers c.reverse.new.self w x c.reverse.ensures.after at)

pub returns : goal.returns
returns g c = ended_backwards g.H.Shelf c.args.marks.now c.args.lines.now c.args.workers.now c.reverse.new.self c.serve_backwards.new.workers c.reverse-2.new.self
    c.reverse.ensures.after c.reverse-2.ensures.after c.serve_backwards.ensures
