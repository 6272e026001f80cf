use Rattle.rock_io.specs.LineBuffer.{held_of}
use Rattle.rock_io.proofs.Gathering.{written_first}
use Rattle.answer_text.proofs.print.print_answers.Goals as goal

pub returns-clause-prefix : goal.returns-clause-prefix
returns-clause-prefix g c t =
    written_first _ (g.K.Sink.taken c.args.out.now) _ (g.K.Sink.taken c.print_all.new.out) (held_of c.print_all.new.buffer) (g.K.Sink.taken c.write_to.new.out) c.in-Ok.ensures.held (c.in_ok-print_all.ensures.all t) (c.write_to.ensures.prefix t)
