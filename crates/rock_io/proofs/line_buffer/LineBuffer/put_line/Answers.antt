use Rattle.std.proofs.Common.{List, [], rules, subst, sym, ℕ}
use Rattle.rock_io.specs.LineBuffer.{Stops, held_of}
use Rattle.rock_io.proofs.Gathering.{at_err, stops_behind}
use Rattle.rock_io.proofs.line_buffer.LineBuffer.put_line.Goals as goal

pub returns-then-line-self-clause-prefix : goal.returns-then-line-self-clause-prefix
returns-then-line-self-clause-prefix g c = at_err c.write_all.result (λ t. let held = held_of c.make_room.new.self in
    stops_behind [] c.args.line.now (g.K.Sink.taken c.args.out.now) (held_of c.args.self.now) (g.K.Sink.taken c.make_room.new.out) held (g.K.Sink.taken c.write_all.new.out) (c.in_ok-make_room.ensures.all t)
    (subst (λ (z : List ℕ). Stops c.args.line.now (g.K.Sink.taken c.make_room.new.out) z (g.K.Sink.taken c.write_all.new.out)) (sym (c.in_ok-make_room.ensures.held (search rules))) (c.write_all.ensures.prefix t)))
