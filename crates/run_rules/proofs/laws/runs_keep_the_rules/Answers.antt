use Rattle.rock_run.specs.Offered.{offers_of}
use Rattle.store_rule.specs.Passes.{basis}
use Rattle.run_rules.proofs.LastWords.{words_are}
use Rattle.run_rules.proofs.Opened.{Laws, explained, has_played}
use Rattle.run_rules.proofs.laws.runs_keep_the_rules.Goals as goal

pub returns : goal.returns
returns g c tells files left name slot anchors workers script answers before after small h =
    let laws : Laws tells g.C.Cell.tells g.C.Cell.state g.St.Station.faults files left name slot anchors workers script answers before after
    h = record {
      past = c.opened_stores_have_runs.ensures.past slot anchors workers script h.closed.opened.cells h.closed.store h.closed.passes small
          h.closed.opened.store;
      opening = c.opened_stores_have_runs.ensures.opening slot anchors workers script h.closed.opened.cells h.closed.store h.closed.passes
          h.closed.opened.store;
      one = λ slot images anchors anchor e f won other. c.one_winner_at_an_anchor.ensures.one slot images anchors anchor e f won other;
      closes = λ past told. c.crews_are_closed.ensures h.closed.store script g.C.Cell.tells past h.served.played.accounts h.closed.cells
          (λ t. told)
          (has_played tells g.C.Cell.tells g.C.Cell.state g.St.Station.faults files left name slot anchors workers script answers before
          after h);
      keeps = λ r crew closed serves courses. c.closed_crews_keep_the_rules.ensures r script crew closed serves courses;
      counts = λ a steps. c.faults_are_counted.ensures.rose a steps;
    } in (
      explained tells g.C.Cell.tells g.C.Cell.state g.St.Station.faults files left name slot anchors workers script answers before after h
          laws,
      words_are tells g.C.Cell.tells g.C.Cell.state g.St.Station.faults files left name slot anchors workers script answers before after h
          laws
          (λ a lt. c.idle_stores_are_settled.ensures (basis g.C.Cell.tells g.C.Cell.state offers_of h.closed.store).setting
          h.closed.closed.gathered.state a h.closed.closed.gathered.rule.sound.anchors lt h.closed.closed.free),
    )
