use Rattle.std.proofs.Common.{map, ◌≡◌}
use Rattle.bench_command.specs.Answers.{answers_in}
use Rattle.bench_command.proofs.answers.all_answers.Given as goal

abbrev pub invariant-workers : goal.invariant-workers
invariant-workers l = l.all.items ≡ answers_in (map (λ each. each.items) l.yielded)
