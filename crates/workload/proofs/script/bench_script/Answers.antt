use Rattle.std.proofs.Common.{◌≡◌, true, refl, ◌∙◌}
use Rattle.std.proofs.lemmas.List.Elements.{All-same}
use Rattle.workload.specs.Shares.{has_url, shares_of}
use Rattle.workload.specs.Script.{turns_of}
use Rattle.workload.proofs.Turns.{shares_have_urls}
use Rattle.workload.proofs.Rounds.{no_draft, round_more, round_fits}
use Rattle.workload.proofs.script.bench_script.Goals as goal

pub rounds-init : goal.rounds-init
rounds-init c = no_draft c.args.seed c.args.workers _ refl c.new.ensures.items

pub add_round-requires-clause-urls : goal.add_round-requires-clause-urls
add_round-requires-clause-urls c =
    All-same (λ share. has_url share ≡ true) c.deref.result.now (shares_of c.args.workers) (c.deref.ensures.value ∙ c.in_ok-shares.ensures) (shares_have_urls c.args.workers)

pub add_round-requires-clause-few : goal.add_round-requires-clause-few
add_round-requires-clause-few c =
    round_fits c.args.seed c.args.workers c.args.count c.rounds.round c.rounds.draft c.deref.result.now c.requires.few c.requires.short c.rounds-test.true
    (c.deref.ensures.value ∙ c.in_ok-shares.ensures) c.rounds.invariant

pub rounds-preserved : goal.rounds-preserved
rounds-preserved c =
    round_more c.args.seed c.args.workers c.rounds.round _ c.deref.result.now (c.deref.ensures.value ∙ c.in_ok-shares.ensures)
    (c.in_ok-add_round.ensures c.args.seed (turns_of c.args.workers c.rounds.round) c.rounds.invariant)
