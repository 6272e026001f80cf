use Rattle.std.proofs.Common.{List, ap, length, sym, ◌∙◌, ℕ}
use Rattle.std.specs.Prelude.{sum_by}
use Rattle.script_text.specs.declared.answer.Answer.{Answer}
use Rattle.run_rules.proofs.Counts.{as_many_answers}
use Rattle.run_rules.proofs.Lists.{at_place}
use Rattle.run_rules.proofs.Opened.{as_many}
use Rattle.run_rules.proofs.laws.each_line_has_one_answer.Goals as goal

pub returns : goal.returns
returns g c tells files left name slot anchors workers script answers before after within h =
    let played = h.served.played in
    ap (sum_by (λ (mine : List (ℕ × Answer)). length mine)) (sym played.answers_are)
    ∙ as_many_answers workers played.accounts script
    (as_many tells g.C.Cell.tells g.C.Cell.state g.St.Station.faults files left name slot anchors workers script answers before after h)
    within
    (λ w a at. (played.each w a (at_place played.accounts w a at)).each)
