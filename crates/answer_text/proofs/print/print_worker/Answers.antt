use Rattle.std.proofs.Common.{List, ap, append_assoc, rules, subst, sym, ◌++◌, ◌∷◌, ◌≡◌, ◌∙◌, ℕ}
use Rattle.answer_text.specs.Lines.{line_of}
use Rattle.script_text.specs.declared.answer.Answer.{Answer}
use Rattle.rock_io.specs.LineBuffer.{Puts, Stops, held_of}
use Rattle.answer_text.specs.Text.{text_of_worker}
use Rattle.rock_io.proofs.Gathering.{put_next, put_short, stops_here}
use Rattle.answer_text.proofs.Printing.{from_err, from_ok}
use Rattle.answer_text.proofs.print.print_worker.Goals as goal

pub returns-in_default-answer_line-clause-prefix : goal.returns-in_default-answer_line-clause-prefix
returns-in_default-answer_line-clause-prefix g c = let i = c.answers.invariant.0 in λ t.
    subst (λ (z : List ℕ). Stops z (g.K.Sink.taken c.args.out.now) (held_of c.args.buffer.now) (g.K.Sink.taken c.answers.out)) (sym i.1) (stops_here i.0 (text_of_worker c.args.worker c.answers.left.now) (g.K.Sink.taken c.args.out.now) (held_of c.args.buffer.now) (g.K.Sink.taken c.answers.out) (held_of c.answers.buffer) (i.2 t))

pub returns-then-is_err-clause-prefix : goal.returns-then-is_err-clause-prefix
returns-then-is_err-clause-prefix g c = let i = c.answers.invariant.0 in
    let split : c.answers.left.now ≡ c.in-Some.field-0-0.now ∷ c.in-Some.rest.now = search rules in
    let line : c.as_slice.result.now ≡ line_of c.args.worker c.in-Some.field-0-0.now.0 c.in-Some.field-0-0.now.1 = c.as_slice.ensures ∙ c.in-Ok.ensures.line in λ t.
    put_short _ i.0 _ (text_of_worker c.args.worker c.in-Some.rest.now) (g.K.Sink.taken c.args.out.now) (held_of c.args.buffer.now) (g.K.Sink.taken c.answers.out) (held_of c.answers.buffer) (i.1 ∙ ap (λ (l : List (ℕ × Answer)). i.0 ++ text_of_worker c.args.worker l) split) (i.2 t) _
    (subst (λ (z : List ℕ). Stops z (g.K.Sink.taken c.answers.out) (held_of c.answers.buffer) (g.K.Sink.taken c.put_line.new.out)) line (from_err c.put_line.result (sym c.is_err.ensures.value ∙ c.if-is_err.true) c.put_line.ensures.prefix t))

pub answers-preserved : goal.answers-preserved
answers-preserved g c = let i = c.answers.invariant.0 in
    let split : c.answers.left.now ≡ c.in-Some.field-0-0.now ∷ c.in-Some.rest.now = search rules in
    let line : c.as_slice.result.now ≡ line_of c.args.worker c.in-Some.field-0-0.now.0 c.in-Some.field-0-0.now.1 = c.as_slice.ensures ∙ c.in-Ok.ensures.line in
    let whole = i.1 ∙ ap (λ (l : List (ℕ × Answer)). i.0 ++ text_of_worker c.args.worker l) split in
    let ok = sym c.is_err.ensures.value ∙ c.if-is_err.false in (
      (
        i.0 ++ line_of c.args.worker c.in-Some.field-0-0.now.0 c.in-Some.field-0-0.now.1,
        whole ∙ sym (append_assoc i.0 _ _),
        λ t. put_next _ i.0 _ (text_of_worker c.args.worker c.in-Some.rest.now) (g.K.Sink.taken c.args.out.now) (held_of c.args.buffer.now) (g.K.Sink.taken c.answers.out) (held_of c.answers.buffer) whole (i.2 t) _ _
            (subst (λ (z : List ℕ). Puts z (g.K.Sink.taken c.answers.out) (held_of c.answers.buffer) (g.K.Sink.taken c.put_line.new.out) (held_of c.put_line.new.self)) line (from_ok c.put_line.result ok c.put_line.ensures.all t)),
      ),
      from_ok c.put_line.result ok c.put_line.ensures.unfailed ∙ c.answers.invariant.1,
    )
