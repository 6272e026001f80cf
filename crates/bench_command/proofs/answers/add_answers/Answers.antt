use Rattle.std.proofs.Common.{List, map, ap, sym, ◌++◌, ◌∙◌, ℕ}
use Rattle.std.proofs.lemmas.List.{map-id}
use Rattle.std.proofs.lemmas.Iterator.Adapters.{YieldsList-from_vec}
use Rattle.std.proofs.lemmas.Iterator.Consumers.{YieldsList-end}
use Rattle.script_text.specs.declared.answer.Answer.{Answer}
use Rattle.bench_command.proofs.answers.add_answers.Goals as goal

pub returns : goal.returns
returns c =
    let gives = c.into_iter-numbered-iterator.ensures.into_iter_gives in
    let all = YieldsList-end (YieldsList-from_vec c.args.answers.items gives.0 (gives.1 ∙ c.args.answers.ok.0)) c.answers.yielded c.answers.numbered-iterator c.answers.yielded_by c.next.result c.next.new.self c.in-None.is c.next.ensures.steps in
    let same = sym (map-id c.answers.yielded) ∙ all.0 in
    c.answers.invariant ∙ ap (λ (xs : List (ℕ × Answer)). c.args.all.now.items ++ map (λ (numbered : ℕ × Answer). numbered.1) xs) same
