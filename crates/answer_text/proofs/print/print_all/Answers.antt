use Rattle.std.proofs.Common.{ap, append_assoc, arith, map, length, rules, subst, sym, ◌++◌, ◌∷◌, ◌≡◌, ◌∙◌}
use Rattle.rock_io.specs.LineBuffer.{Puts, Stops, held_of}
use Rattle.answer_text.specs.Text.{text_from, text_of_worker}
use Rattle.rock_io.proofs.Gathering.{at_err, put_next, put_short}
use Rattle.answer_text.proofs.Printing.{ok_not_err}
use Rattle.answer_text.proofs.print.print_all.Goals as goal

pub returns-in_err-print_worker-clause-prefix : goal.returns-in_err-print_worker-clause-prefix
returns-in_err-print_worker-clause-prefix g c = let i = c.workers.invariant.0 in
    let split : c.workers.left.now ≡ c.in-Some.first.now ∷ c.in-Some.rest.now = search rules in
    let whole = i.1 ∙ ap (λ l. i.0 ++ text_from c.workers.worker (map (λ each. each.items) l)) split in at_err c.from_residual.result (λ t.
    put_short _ i.0 _ _ (g.K.Sink.taken c.args.out.now) (held_of c.args.buffer.now) (g.K.Sink.taken c.workers.out) (held_of c.workers.buffer) whole (i.2 t) _
    (subst (λ l. Stops (text_of_worker c.workers.worker l) (g.K.Sink.taken c.workers.out) (held_of c.workers.buffer) (g.K.Sink.taken c.print_worker.new.out)) c.deref.ensures.value (c.in_err-print_worker.ensures.prefix t)))

pub workers-preserved : goal.workers-preserved
workers-preserved g c = let i = c.workers.invariant.0 in
    let split : c.workers.left.now ≡ c.in-Some.first.now ∷ c.in-Some.rest.now = search rules in
    let whole = i.1 ∙ ap (λ l. i.0 ++ text_from c.workers.worker (map (λ each. each.items) l)) split in (
      (
        i.0 ++ text_of_worker c.workers.worker c.in-Some.first.now.items,
        whole ∙ sym (append_assoc i.0 _ _),
        λ t. put_next _ i.0 _ _ (g.K.Sink.taken c.args.out.now) (held_of c.args.buffer.now) (g.K.Sink.taken c.workers.out) (held_of c.workers.buffer) whole (i.2 t) _ _
            (subst (λ l. Puts (text_of_worker c.workers.worker l) (g.K.Sink.taken c.workers.out) (held_of c.workers.buffer) (g.K.Sink.taken c.print_worker.new.out) (held_of c.print_worker.new.buffer)) c.deref.ensures.value (c.in_ok-print_worker.ensures.all t)),
      ),
      c.in_ok-print_worker.ensures.unfailed (ok_not_err _ _) ∙ c.workers.invariant.1,
      omega (arith, ap length split, c.workers.invariant.2),
    )
