use Rattle.std.proofs.Common.{arith, ◌<◌}
use Rattle.core_model.specs.State.{word}
use Rattle.run_rules.specs.Runs.{IsExplained}
use Rattle.run_rules.proofs.Files.{keys, old_winners, responses}
use Rattle.run_rules.proofs.served.finished_runs_were_served.Goals as goal

pub returns : goal.returns
returns g c tells files left name slot anchors workers script answers before after sized order ran =
    let explained = c.runs_keep_the_rules.ensures tells files left name slot anchors workers script answers before after
    (let most = sized.to in omega (arith, most)) ran in
    let e : IsExplained tells files name slot anchors workers script answers before after = explained.0 in
    let some : 0 < anchors = let from = ran.closed.opened.fit.from in omega (arith, from) in
    record {
      explained = e;
      responses = λ told. responses e.run slot anchors e.images script e.crew e.rules e.serves e.anchors_are some
          (old_winners e.run slot anchors e.images e.began) (e.tells_are told);
      keys = keys e.run slot anchors e.images script e.crew e.rules e.serves e.anchors_are some
          (old_winners e.run slot anchors e.images e.began);
      last = word ran.closed.closed.gathered.state;
      last_words = explained.1;
      left = λ told. c.runs_leave_standing.ensures tells files left name slot anchors workers script answers before after sized order ran
          told;
      plain = λ alone told none. c.lone_runs_are_answered_plainly.ensures tells files left name slot anchors workers script answers before
          after sized order ran alone told none;
      private = λ told. c.private_lines_are_answered_plainly.ensures tells files left name slot anchors workers script answers before after
          sized order ran told;
    }
