use Rattle.std.proofs.Common.{◌≡◌, None, arith, inl, inr, refl, subst}
use Rattle.std.specs.Prelude.{List, MatchOption, Option, ℕ}
use Rattle.rock_status.specs.declared.status.Status.TheVariants as status
use Rattle.rock_commands.specs.Command.{IsCommand}
use Rattle.rock_commands.specs.CommandLine.{IsCommandLine}
use Rattle.rock_commands.specs.declared.command.Command.{Command}
use Rattle.rock_commands.proofs.Carried.{bench_of, check_of, create_of, is_line, list_of, migrate_of, never_usage, run_of, script_of}
use Rattle.rock_commands.proofs.Carried.{sink_failed, source_failed, stations_of}
use Rattle.rock_commands.proofs.ReportFacts.{none_ended}
use Rattle.rock_commands.proofs.top_call.rock.Goals as goal

-- words that were not read are no command line
not_read : {words : List (List ℕ)} {o : Option Command} → o ≡ None → MatchOption o (IsCommandLine words → ⊥) (IsCommand words)
    → IsCommandLine words → ⊥
not_read {words = words} is read = subst (λ r. MatchOption r (IsCommandLine words → ⊥) (IsCommand words)) is read

no_sink : status.Usage ≡ status.SinkFault → ⊥
no_sink e = cc

no_source : status.Usage ≡ status.SourceFault → ⊥
no_source e = cc

pub returns-in_default-clause-usage : goal.returns-in_default-clause-usage
returns-in_default-clause-usage g c = (λ is. not_read c.in_default.is c.parse.ensures, λ none. refl)

pub returns-in_default-clause-untouched : goal.returns-in_default-clause-untouched
returns-in_default-clause-untouched g c is = refl

pub returns-in_default-clause-list : goal.returns-in_default-clause-list
returns-in_default-clause-list g c name given asked = absurd (not_read c.in_default.is c.parse.ensures (inl (name, given, asked)))

pub returns-in_default-clause-check : goal.returns-in_default-clause-check
returns-in_default-clause-check g c name given anchors asked = absurd
    (not_read c.in_default.is c.parse.ensures (inr (inl (name, given, anchors, asked))))

pub returns-in_default-clause-create : goal.returns-in_default-clause-create
returns-in_default-clause-create g c name slot slots asked = absurd
    (not_read c.in_default.is c.parse.ensures (inr (inr (inl (name, slot, slots, asked)))))

pub returns-in_default-clause-run : goal.returns-in_default-clause-run
returns-in_default-clause-run g c name given anchors workers asked =
    absurd (not_read c.in_default.is c.parse.ensures (inr (inr (inr (inl (name, given, anchors, workers, asked))))))

pub returns-in_default-clause-bench : goal.returns-in_default-clause-bench
returns-in_default-clause-bench g c name seed workers count asked =
    absurd (not_read c.in_default.is c.parse.ensures (inr (inr (inr (inr (inl (name, seed, workers, count, asked)))))))

pub returns-in_default-clause-migrate : goal.returns-in_default-clause-migrate
returns-in_default-clause-migrate g c name slot asked = absurd (not_read c.in_default.is c.parse.ensures
    (inr (inr (inr (inr (inr (name, slot, asked)))))))

pub returns-in_default-clause-stations : goal.returns-in_default-clause-stations
returns-in_default-clause-stations g c run bench = record {
  ended = inl (record { made = refl; ended = refl });
  unfailed = λ none. none_ended (record { made = refl; ended = refl }) refl;
}

pub returns-in_default-clause-script : goal.returns-in_default-clause-script
returns-in_default-clause-script g c run = record { left = refl; faults = refl }

pub returns-in_default-clause-faults : goal.returns-in_default-clause-faults
returns-in_default-clause-faults g c = record {
  faults = omega arith;
  sink_faults = omega arith;
  source_faults = omega arith;
  volume_unfailed = λ none. refl;
  sink_unfailed = λ none. refl;
  source_unfailed = λ none. refl;
  sink_failed = λ is. absurd (no_sink is);
  source_failed = λ is. absurd (no_source is);
}

pub returns-clause-usage : goal.returns-clause-usage
returns-clause-usage g c = (
  λ is. absurd (never_usage c.in-Some.command c.carry_out.ensures.carried is),
  λ none. absurd (none (is_line c.args.words.now c.in-Some.command c.in-Some.ensures)),
)

pub returns-clause-untouched : goal.returns-clause-untouched
returns-clause-untouched g c is = absurd (never_usage c.in-Some.command c.carry_out.ensures.carried is)

pub returns-clause-list : goal.returns-clause-list
returns-clause-list g c = list_of c.args.words.now c.in-Some.command c.in-Some.ensures c.carry_out.ensures.carried

pub returns-clause-check : goal.returns-clause-check
returns-clause-check g c = check_of c.args.words.now c.in-Some.command c.in-Some.ensures c.carry_out.ensures.carried

pub returns-clause-create : goal.returns-clause-create
returns-clause-create g c = create_of c.args.words.now c.in-Some.command c.in-Some.ensures c.carry_out.ensures.carried

pub returns-clause-migrate : goal.returns-clause-migrate
returns-clause-migrate g c = migrate_of c.args.words.now c.in-Some.command c.in-Some.ensures c.carry_out.ensures.carried

pub returns-clause-run : goal.returns-clause-run
returns-clause-run g c = run_of c.args.words.now c.in-Some.command c.in-Some.ensures c.carry_out.ensures.carried

pub returns-clause-bench : goal.returns-clause-bench
returns-clause-bench g c = bench_of c.args.words.now c.in-Some.command c.in-Some.ensures c.carry_out.ensures.carried

pub returns-clause-stations : goal.returns-clause-stations
returns-clause-stations g c = stations_of c.args.words.now c.in-Some.command c.in-Some.ensures c.carry_out.ensures.carried

pub returns-clause-script : goal.returns-clause-script
returns-clause-script g c = script_of c.args.words.now c.in-Some.command c.in-Some.ensures c.carry_out.ensures.carried

pub returns-clause-faults : goal.returns-clause-faults
returns-clause-faults g c = record {
  faults = c.carry_out.ensures.faults;
  sink_faults = c.carry_out.ensures.sink_faults;
  source_faults = c.carry_out.ensures.source_faults;
  volume_unfailed = c.carry_out.ensures.volume_unfailed;
  sink_unfailed = c.carry_out.ensures.sink_unfailed;
  source_unfailed = c.carry_out.ensures.source_unfailed;
  sink_failed = sink_failed c.in-Some.command c.carry_out.ensures.carried;
  source_failed = source_failed c.in-Some.command c.carry_out.ensures.carried;
}
