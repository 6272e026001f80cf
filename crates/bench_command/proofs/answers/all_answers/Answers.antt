use Rattle.std.proofs.Common.{List, Vec, Global, map, ap, sym, ◌++◌, ◌∷◌, [], ◌∙◌, ◌≡◌, ℕ}
use Rattle.std.proofs.lemmas.Grind.{flat_map-append}
use Rattle.std.proofs.lemmas.List.{append-nil, map-append, map-id}
use Rattle.std.proofs.lemmas.Iterator.Adapters.{YieldsList-from_vec}
use Rattle.std.proofs.lemmas.Iterator.Consumers.{YieldsList-end}
use Rattle.script_text.specs.declared.answer.Answer.{Answer}
use Rattle.bench_command.specs.Answers.{answers_in}
use Rattle.bench_command.proofs.answers.all_answers.Goals as goal

-- one worker more
one_more : (workers : List (List (ℕ × Answer))) (last : List (ℕ × Answer)) → answers_in (workers ++ last ∷ []) ≡ answers_in workers ++ map (λ (numbered : ℕ × Answer). numbered.1) last
one_more workers last =
    flat_map-append (λ (answers : List (ℕ × Answer)). map (λ (numbered : ℕ × Answer). numbered.1) answers) workers (last ∷ [])
    ∙ ap (λ (xs : List Answer). answers_in workers ++ xs) (append-nil (map (λ (numbered : ℕ × Answer). numbered.1) last))

pub workers-preserved : goal.workers-preserved
workers-preserved c =
    c.in_ok-add_answers.ensures ∙ ap (λ (xs : List Answer). xs ++ map (λ (numbered : ℕ × Answer). numbered.1) c.in-Some.answers.items) c.workers.invariant
    ∙ sym (one_more (map (λ (each : Vec (ℕ × Answer) Global). each.items) c.workers.yielded) c.in-Some.answers.items)
    ∙ ap answers_in (sym (map-append (λ (each : Vec (ℕ × Answer) Global). each.items) c.workers.yielded (c.in-Some.answers ∷ [])))

pub returns : goal.returns
returns c =
    let gives = c.into_iter-answers-iterator.ensures.into_iter_gives in
    let all = YieldsList-end (YieldsList-from_vec c.args.workers.items gives.0 (gives.1 ∙ c.args.workers.ok.0)) c.workers.yielded c.workers.answers-iterator c.workers.yielded_by c.next.result c.next.new.self c.in-None.is c.next.ensures.steps in
    let same = sym (map-id c.workers.yielded) ∙ all.0 in
    c.workers.invariant ∙ ap (λ (xs : List (Vec (ℕ × Answer) Global)). answers_in (map (λ (each : Vec (ℕ × Answer) Global). each.items) xs)) same
