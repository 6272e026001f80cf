use Rattle.std.proofs.Common.{map, ◌++◌, ◌≡◌}
use Rattle.bench_command.proofs.answers.add_answers.Given as goal

abbrev pub invariant-answers : goal.invariant-answers
invariant-answers l = l.all.items ≡ l.fn.all.items ++ map (λ numbered. numbered.1) l.yielded
