use Rattle.std.proofs.Common.{rules, ◌≡◌, ◌∷◌, ◌++◌, ap, ◌∙◌}
use Rattle.std.proofs.lemmas.List.Elements.{All-rest}
use Rattle.plain_model.specs.Serving.{answers, after, lines_for}
use Rattle.plain_store.specs.Servable.{IsServable}
use Rattle.plain_store.proofs.serving.serve_all.Goals as goal

pub lines-preserved : goal.lines-preserved
lines-preserved c =
    let split : c.lines.left.now ≡ c.in-Some.line.now ∷ c.in-Some.rest.now = search rules in
    record {
      servable = All-rest (λ line. IsServable line.request) c.in-Some.line.now c.in-Some.rest.now c.lines.left.now split c.lines.invariant.servable;
      answers = c.lines.invariant.answers
          ∙ ap (λ lines. c.lines.given ++ answers c.args.setting.now c.args.script.now (lines_for c.args.worker lines) c.lines.store) split
          ∙ c.in_ok-serve_next.ensures.answers c.in-Some.rest.now;
      after = c.lines.invariant.after
          ∙ ap (λ lines. after c.args.setting.now c.args.script.now (lines_for c.args.worker lines) c.lines.store) split
          ∙ c.in_ok-serve_next.ensures.after c.in-Some.rest.now;
    }
