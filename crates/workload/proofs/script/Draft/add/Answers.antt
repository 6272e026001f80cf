use Rattle.std.proofs.Common.{◌≡◌, ℕ, ◌+◌, List, [], ◌∷◌, ◌++◌, length, Vec, Global, refl, arith, ap, ◌∙◌}
use Rattle.script_text.specs.declared.line.Line.{Line}
use Rattle.workload.specs.Requests.{request_of}
use Rattle.workload.proofs.Drafts.{draft_more, line_with}
use Rattle.workload.proofs.script.Draft.add.Goals as goal

pub returns-clause-drafted : goal.returns-clause-drafted
returns-clause-drafted c = λ seed turns is.
    let kept : c.draw-third.new.self.lines ≡ c.args.self.now.lines = c.draw-third.ensures.lines ∙ c.draw-second.ensures.lines ∙ c.draw-first.ensures.lines in
    let number : c.len.result + 1 ≡ length c.args.self.now.lines.items + 1 = omega arith in
    let asked : c.in_ok-request.request ≡ request_of c.args.share.now.urls c.draw-first.result c.draw-second.result c.draw-third.result =
    c.in_ok-request.ensures ∙ ap (λ (urls : List ℕ). request_of urls c.draw-first.result c.draw-second.result c.draw-third.result) c.as_slice.ensures in
    let lines : c.push.new.self.items ≡ c.args.self.now.lines.items ++ line_with c.args.share.now.worker (c.len.result + 1) c.in_ok-request.request ∷ [] =
    c.in_ok-push.ensures.items
    ∙ ap (λ (v : Vec Line Global). v.items ++ line_with c.args.share.now.worker (c.len.result + 1) c.in_ok-request.request ∷ []) kept in
    draft_more seed c.args.self.now _ turns c.args.share.now (c.len.result + 1) c.draw-first.new.self.last c.draw-second.new.self.last c.draw-third.new.self.last
    c.draw-first.result c.draw-second.result c.draw-third.result c.in_ok-request.request is
    (record {
      first = c.draw-first.ensures.last;
      second = c.draw-second.ensures.last;
      third = c.draw-third.ensures.last;
      first_half = c.draw-first.ensures.value;
      second_half = c.draw-second.ensures.value;
      third_half = c.draw-third.ensures.value;
    })
    number asked refl lines
