use Rattle.std.proofs.Common.{List, ap, subst, ◌++◌, ◌∙◌, ℕ}
use Rattle.rock_io.specs.Sink.{TakesPrefix}
use Rattle.rock_io.proofs.Gathering.{at_err}
use Rattle.file_commands.specs.Migrate.{migrated_line}
use Rattle.file_commands.proofs.migrate.print_slots.Goals as goal

pub returns-clause-prefix : goal.returns-clause-prefix
returns-clause-prefix g c = at_err c.write_to.result (λ t.
    subst (λ (text : List ℕ). TakesPrefix (g.K.Sink.taken c.args.out.now) (g.K.Sink.taken c.write_to.new.out) text)
    (c.put_slots.ensures.held ∙ ap (λ (held : List ℕ). held ++ migrated_line c.args.slots) c.requires.empty) (c.write_to.ensures.prefix t))
