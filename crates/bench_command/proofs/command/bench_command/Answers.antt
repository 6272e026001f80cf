use Rattle.std.proofs.Common.{arith, inl, inr, refl, subst, ◌∙◌, ◌≡◌}
use Rattle.rock_disk.specs.Counts.{Counts, counts}
use Rattle.rock_run.specs.Device.{RunEnded, RunFailed, RunUnfailed}
use Rattle.rock_status.specs.declared.status.Status.{Status}
use Rattle.rock_status.specs.declared.status.Status.TheVariants as status
use Rattle.workload.specs.Script.{bench_lines}
use Rattle.bench_command.specs.Ends.{RunEnds}
use Rattle.bench_command.specs.Leaves.{RunLeaves}
use Rattle.bench_command.specs.Prints.{IsLineOfRun}
use Rattle.bench_command.proofs.Made.{done_or_memory, leaves_of_run, made_home, made_slots, run_made_ends, same_counts, says_of_run}
use Rattle.bench_command.proofs.Alone.{BenchLaws, all_renamed}
use Rattle.bench_command.proofs.Plain.{images_zeros, line_of_all, many, sized}
use Rattle.bench_command.proofs.Printed.{told_so}
use Rattle.bench_command.proofs.Refused.{few, unmade_complete, unmade_ends, unmade_leaves, unmade_prints, unmade_says}
use Rattle.bench_command.proofs.Stations.{header_kept, run_kept}
use Rattle.bench_command.proofs.command.bench_command.Goals as goal

done_no_fault : {result : Status} → result ≡ status.Done → result ≡ status.DeviceFault → ⊥
done_no_fault is failed = cc

pub run_bench-requires-clause-home : goal.run_bench-requires-clause-home
run_bench-requires-clause-home g c κs within t = made_home _ _ _ c.args.target.now.workers (c.in-Done.ensures.leaves t)

pub returns-in-Done-clause-ends : goal.returns-in-Done-clause-ends
returns-in-Done-clause-ends g c =
    let none = c.create_file.ensures.unfailed (done_no_fault c.in-Done.is) in
    let station = c.create_file.ensures.done c.in-Done.is in
    let same = same_counts none.faults station.made station.ended in
    run_made_ends c.args.target.now.workers c.args.target.now.count (g.K.Sink.faults c.args.out.now) (g.K.Sink.faults c.run_bench.new.out) (counts g.V.Volume.faults g.V.Volume.made g.V.Volume.ended c.args.volume.now) _ c.run_bench.result
    (record { passes = c.is_workers.ensures.0 c.if-not-is_workers.false; rounds = c.is_rounds.ensures.0 c.if-not-is_rounds.false })
    (subst (λ (before : Counts). RunEnds c.args.target.now.workers (g.K.Sink.faults c.args.out.now) (g.K.Sink.faults c.run_bench.new.out) before (counts g.V.Volume.faults g.V.Volume.made g.V.Volume.ended c.run_bench.new.volume) c.run_bench.result) same c.run_bench.ensures.ends)

pub returns-in-Done-clause-says : goal.returns-in-Done-clause-says
returns-in-Done-clause-says g c t =
    says_of_run _ _ _ _ _ _ _ c.run_bench.result (c.in-Done.ensures.says t) c.run_bench.ensures.ends
    (c.run_bench.ensures.says t (made_slots c.cutting_keeps_the_bytes.ensures c.geometries_are_read_as_written.ensures.whole _ _ _ c.args.target.now.workers (c.is_workers.ensures.0 c.if-not-is_workers.false) (c.in-Done.ensures.leaves t)))

pub returns-in-Done-clause-complete : goal.returns-in-Done-clause-complete
returns-in-Done-clause-complete g c t may sink device =
    let none = c.create_file.ensures.unfailed (done_no_fault c.in-Done.is) in
    let station = c.create_file.ensures.done c.in-Done.is in
    let same = same_counts none.faults station.made station.ended in
    done_or_memory _ _ _ _ _ c.run_bench.result sink
    (λ failed. device (inr (subst (λ (before : Counts). RunFailed before (counts g.V.Volume.faults g.V.Volume.made g.V.Volume.ended c.run_bench.new.volume)) same failed)))
    c.run_bench.ensures.ends (c.run_bench.ensures.says t (made_slots c.cutting_keeps_the_bytes.ensures c.geometries_are_read_as_written.ensures.whole _ _ _ c.args.target.now.workers may.numbers.passes (c.in-Done.ensures.leaves t)))

pub returns-in-Done-clause-prints : goal.returns-in-Done-clause-prints
returns-in-Done-clause-prints g c told =
    let t = c.args.target.now in
    let none = c.create_file.ensures.unfailed (done_no_fault c.in-Done.is) in
    let station = c.create_file.ensures.done c.in-Done.is in
    let same = same_counts none.faults station.made station.ended in
    told_so _ _ _ _ c.run_bench.result (λ text is.
    let line = subst (λ (before : Counts). IsLineOfRun g.V.Volume.tells (g.V.Volume.files c.create_file.new.volume) (g.V.Volume.files c.run_bench.new.volume) t.name.now t.seed t.workers t.count before (counts g.V.Volume.faults g.V.Volume.made g.V.Volume.ended c.run_bench.new.volume) text) same is in
    record {
      middle = g.V.Volume.files c.create_file.new.volume;
      made = c.in-Done.ensures.leaves;
      line = line;
      plain = λ tells none.
          let made = c.in-Done.ensures.leaves tells in
          let passes = c.is_workers.ensures.0 c.if-not-is_workers.false in
          let few = passes.to in
          let rounds = c.is_rounds.ensures.0 c.if-not-is_rounds.false in
          let private = line.run.served.private tells in
          let zeros = images_zeros c.cutting_keeps_the_bytes.ensures c.geometries_are_read_as_written.ensures.whole _ _ t.name.now t.workers made private.images private.file in
          let slots = many c.cutting_keeps_the_bytes.ensures c.geometries_are_read_as_written.ensures.whole _ _ t.name.now t.workers made few private.images private.file in
          let laws : BenchLaws t.seed t.workers t.count = record {
            private = λ l among. c.bench_lines_are_private.ensures.each t.seed t.workers t.count l few among;
            renamed = λ worker rename given same answered. c.bench_lines_are_private.ensures.alone t.seed t.workers t.count worker rename given few same answered;
            fit = c.bench_lines_fit.ensures.fit t.seed t.workers t.count few rounds;
            new = λ images p zeros opened. c.unwritten_slots_open_fresh_stores.ensures _ images _ p zeros opened;
            unwritten = λ images zeros fits. c.scripts_fit_into_unwritten_files.ensures _ _ images _ sized zeros fits;
          } in
          line.is ∙ line_of_all t.seed t.workers t.count line.run.answers (λ answered alike. c.summaries_tell_no_versions.ensures.plain t.seed t.workers t.count answered alike)
          (all_renamed t.seed t.workers t.count laws g.V.Volume.tells (g.V.Volume.files c.create_file.new.volume) _ t.name.now line.run.answers _ _ line.run.served.explained _ private zeros slots none);
    }) (c.run_bench.ensures.prints told)

pub returns-in-Done-clause-leaves : goal.returns-in-Done-clause-leaves
returns-in-Done-clause-leaves g c =
    let t = c.args.target.now in
    let none = c.create_file.ensures.unfailed (done_no_fault c.in-Done.is) in
    let station = c.create_file.ensures.done c.in-Done.is in
    let same = same_counts none.faults station.made station.ended in
    leaves_of_run g.V.Volume.tells (g.V.Volume.files c.args.volume.now) (g.V.Volume.files c.create_file.new.volume) (g.V.Volume.files c.run_bench.new.volume) t.name.now t.workers _ c.in-Done.ensures.leaves
    (counts g.V.Volume.faults g.V.Volume.made g.V.Volume.ended c.args.volume.now) _ _ _ c.run_bench.result
    (subst (λ (before : Counts). RunEnds t.workers (g.K.Sink.faults c.args.out.now) (g.K.Sink.faults c.run_bench.new.out) before (counts g.V.Volume.faults g.V.Volume.made g.V.Volume.ended c.run_bench.new.volume) c.run_bench.result) same c.run_bench.ensures.ends)
    (subst (λ (before : Counts). RunLeaves g.V.Volume.tells (g.V.Volume.files c.create_file.new.volume) (g.V.Volume.files c.run_bench.new.volume) t.name.now t.workers (bench_lines t.seed t.workers t.count) before (counts g.V.Volume.faults g.V.Volume.made g.V.Volume.ended c.run_bench.new.volume) c.run_bench.result) same c.run_bench.ensures.leaves)

pub returns-in-Done-clause-back : goal.returns-in-Done-clause-back
returns-in-Done-clause-back g c t home = c.run_bench.ensures.back t (c.create_file.ensures.back t home)

pub returns-in-Done-clause-ended : goal.returns-in-Done-clause-ended
returns-in-Done-clause-ended g c =
    let none = c.create_file.ensures.unfailed (done_no_fault c.in-Done.is) in
    let station = c.create_file.ensures.done c.in-Done.is in
    let same = same_counts none.faults station.made station.ended in
    inr (subst (λ (before : Counts). RunEnded before (counts g.V.Volume.faults g.V.Volume.made g.V.Volume.ended c.run_bench.new.volume)) same c.run_bench.ensures.ended)

pub returns-in-Done-clause-device_unfailed : goal.returns-in-Done-clause-device_unfailed
returns-in-Done-clause-device_unfailed g c not =
    let none = c.create_file.ensures.unfailed (done_no_fault c.in-Done.is) in
    let station = c.create_file.ensures.done c.in-Done.is in
    let same = same_counts none.faults station.made station.ended in
    run_kept (counts g.V.Volume.faults g.V.Volume.made g.V.Volume.ended c.args.volume.now) _
    (subst (λ (before : Counts). RunEnded before (counts g.V.Volume.faults g.V.Volume.made g.V.Volume.ended c.run_bench.new.volume)) same c.run_bench.ensures.ended)
    (subst (λ (before : Counts). RunUnfailed before (counts g.V.Volume.faults g.V.Volume.made g.V.Volume.ended c.run_bench.new.volume)) same (c.run_bench.ensures.device_unfailed not))

pub returns-in_default : goal.returns-in_default
returns-in_default g c =
    let t = c.args.target.now in
    let passes = c.is_workers.ensures.0 c.if-not-is_workers.false in
    let rounds = c.is_rounds.ensures.0 c.if-not-is_rounds.false in
    let not = c.in_default.not-Done in
    let made = c.create_file.ensures in
    let all = unmade_ends t.workers t.count (g.K.Sink.faults c.args.out.now) (g.K.Sink.faults c.args.out.now) (counts g.V.Volume.faults g.V.Volume.made g.V.Volume.ended c.args.volume.now) (counts g.V.Volume.faults g.V.Volume.made g.V.Volume.ended c.create_file.new.volume) c.create_file.result (record { passes = passes; rounds = rounds }) not made.none made.ends in
    record {
      ends = all;
      says = λ told. unmade_says t.workers _ _ (g.V.Volume.files c.args.volume.now) t.name.now c.create_file.result passes (λ free there. free (made.exists told (record { size = sized; count = few t.workers passes }) there)) made.ends (made.says told);
      refused = record {
        passes = λ bad. absurd (bad passes);
        rounds = λ good bad. absurd (bad rounds);
        exists = λ told numbers there. made.exists told (record { size = sized; count = few t.workers passes }) there;
      };
      complete = λ told may sink device.
          unmade_complete t.workers t.count (g.K.Sink.faults c.args.out.now) (g.K.Sink.faults c.args.out.now) (counts g.V.Volume.faults g.V.Volume.made g.V.Volume.ended c.args.volume.now) (counts g.V.Volume.faults g.V.Volume.made g.V.Volume.ended c.create_file.new.volume) (g.V.Volume.files c.args.volume.now) t.name.now c.create_file.result may.free not device all made.ends (made.says told) may.numbers;
      prints = λ told. unmade_prints t.workers _ _ _ (g.K.Sink.taken c.args.out.now) c.create_file.result not made.ends;
      leaves = unmade_leaves g.V.Volume.tells (g.V.Volume.files c.args.volume.now) (g.V.Volume.files c.create_file.new.volume) t.name.now t.workers _ _ _ _ _ c.create_file.result passes not made.says made.ends made.leaves;
      back = λ told home. made.back told home;
      ended = inl made.ended;
      faults = made.faults;
      sink_faults = omega arith;
      sink_unfailed = λ other. refl;
      device_unfailed = λ other. header_kept (counts g.V.Volume.faults g.V.Volume.made g.V.Volume.ended c.args.volume.now) (counts g.V.Volume.faults g.V.Volume.made g.V.Volume.ended c.create_file.new.volume) made.ended (made.unfailed other);
    }
