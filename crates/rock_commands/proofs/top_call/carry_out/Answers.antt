use Rattle.std.proofs.Common.{Some, refl}
use Rattle.rock_disk.specs.Counts.{counts}
use Rattle.file_commands.specs.Listing.{Lists}
use Rattle.file_commands.specs.Report.{AnyCount, IsAnchors}
use Rattle.file_commands.specs.Summary.{Sums}
use Rattle.rock_commands.proofs.Carried.{carried_as}
use Rattle.rock_commands.proofs.CreateFacts.{complete_create}
use Rattle.rock_commands.proofs.ReportFacts.{complete, home_when_kept, report_does}
use Rattle.rock_commands.proofs.RunFacts.{plain_bench, run_does}
use Rattle.rock_commands.proofs.top_call.carry_out.Goals as goal

pub returns-in-List-clause-carried : goal.returns-in-List-clause-carried
returns-in-List-clause-carried g c =
    let said = c.print_report.ensures in
    carried_as c.in-List.is (record {
      does = report_does AnyCount Lists _ _ _ _ _ _ (record {
        ends = said.ends;
        says = said.says;
        refused = said.refused;
        prints = said.prints;
        kept = said.kept;
      }) said.early c.kept_files_have_their_bytes.ensures.bytes;
      stations = record { ended = said.ended; unfailed = said.device_unfailed };
      script = record { left = refl; faults = refl };
    })

pub returns-in-Check-clause-carried : goal.returns-in-Check-clause-carried
returns-in-Check-clause-carried g c =
    let said = c.print_report-in-Check.ensures in
    carried_as c.in-Check.is (record {
      does = report_does (IsAnchors c.in-Check.anchors) (Sums c.in-Check.anchors) _ _ _ _ _ _ (record {
        ends = said.ends;
        says = said.says;
        refused = said.refused;
        prints = said.prints;
        kept = said.kept;
      }) said.early c.kept_files_have_their_bytes.ensures.bytes;
      stations = record { ended = said.ended; unfailed = said.device_unfailed };
      script = record { left = refl; faults = refl };
    })

pub returns-in-Create-clause-carried : goal.returns-in-Create-clause-carried
returns-in-Create-clause-carried g c =
    let said = c.create_file.ensures in
    carried_as c.in-Create.is (record {
      does = record {
        ends = said.ends;
        says = said.says;
        refused = record { size = said.size; count = said.count; exists = said.exists };
        complete = λ t may none. complete_create (g.V.Volume.files c.args.volume.now) c.in-Create.target.name.now c.in-Create.target.slot
            c.in-Create.target.slots (counts g.V.Volume.faults g.V.Volume.made g.V.Volume.ended c.args.volume.now)
            (counts g.V.Volume.faults g.V.Volume.made g.V.Volume.ended c.create_file.new.volume) c.create_file.result said.ends
            (said.says t) may none;
        untouched = (refl, refl);
        leaves = said.leaves;
        whole = said.whole;
        stations = record { done = said.done; none = said.none };
      };
      stations = record { ended = said.ended; unfailed = said.unfailed };
      script = record { left = refl; faults = refl };
    })

pub returns-in-Run-clause-carried : goal.returns-in-Run-clause-carried
returns-in-Run-clause-carried g c =
    let said = c.run_command.ensures in
    carried_as c.in-Run.is (record {
      does = run_does _ _ _ _ _ _ _ _ (record {
        ends = said.ends;
        says = said.says;
        refused = said.refused;
        prints = said.prints;
        leaves = said.kept;
      }) said.complete said.ended said.script_taken said.device_unfailed;
      stations = tt;
      script = tt;
    })

pub returns-in-Bench-clause-carried : goal.returns-in-Bench-clause-carried
returns-in-Bench-clause-carried g c =
    let said = c.bench_command.ensures in
    carried_as c.in-Bench.is (record {
      does = record {
        ends = said.ends;
        says = said.says;
        refused = said.refused;
        complete = said.complete;
        prints = said.prints;
        leaves = said.leaves;
        plain = λ t k. plain_bench g.V.Volume.tells (g.V.Volume.files c.args.volume.now) (g.V.Volume.files c.bench_command.new.volume)
            c.in-Bench.target.name.now c.in-Bench.target.seed c.in-Bench.target.workers c.in-Bench.target.count
            (counts g.V.Volume.faults g.V.Volume.made g.V.Volume.ended c.args.volume.now)
            (counts g.V.Volume.faults g.V.Volume.made g.V.Volume.ended c.bench_command.new.volume)
            (g.K.Sink.taken c.args.out.now) (g.K.Sink.taken c.bench_command.new.out) c.bench_command.result (said.prints k) t;
        stations = said.ended;
        unfailed = said.device_unfailed;
      };
      stations = tt;
      script = record { left = refl; faults = refl };
    })

pub returns-in-Migrate-clause-carried : goal.returns-in-Migrate-clause-carried
returns-in-Migrate-clause-carried g c =
    let said = c.migrate_file.ensures in
    carried_as c.in-Migrate.is (record {
      does = record {
        ends = said.ends;
        says = said.says;
        refused = said.refused;
        complete = λ t may none. complete AnyCount (g.V.Volume.files c.args.volume.now) c.in-Migrate.target.name.now
            (Some c.in-Migrate.target.slot) _ _ _ _ c.migrate_file.result said.ends (said.says t) may none;
        prints = said.prints;
        leaves = said.leaves;
        marked = said.marked;
      };
      stations = record { ended = said.ended; unfailed = said.device_unfailed };
      script = record { left = refl; faults = refl };
    })

pub returns-in-List-clause-back : goal.returns-in-List-clause-back
returns-in-List-clause-back g c t =
    home_when_kept c.kept_files_have_their_bytes.ensures.home c.in-List.target.name.now c.in-List.target.slot
    (g.V.Volume.files c.args.volume.now) (g.V.Volume.files c.print_report.new.volume) (c.print_report.ensures.kept t)
    (c.requires.home t)

pub returns-in-Check-clause-back : goal.returns-in-Check-clause-back
returns-in-Check-clause-back g c t =
    home_when_kept c.kept_files_have_their_bytes.ensures.home c.in-Check.target.name.now c.in-Check.target.slot
    (g.V.Volume.files c.args.volume.now) (g.V.Volume.files c.print_report-in-Check.new.volume) (c.print_report-in-Check.ensures.kept t)
    (c.requires.home t)

pub returns-in-Create-clause-back : goal.returns-in-Create-clause-back
returns-in-Create-clause-back g c t = c.create_file.ensures.back t (c.requires.home t)

pub returns-in-Bench-clause-back : goal.returns-in-Bench-clause-back
returns-in-Bench-clause-back g c t = c.bench_command.ensures.back t (c.requires.home t)

pub returns-in-Migrate-clause-back : goal.returns-in-Migrate-clause-back
returns-in-Migrate-clause-back g c t = c.migrate_file.ensures.back t (c.requires.home t)
