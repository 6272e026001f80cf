use Rattle.std.proofs.Common.{subst, ◌≡◌}
use Rattle.std.specs.Prelude.{IfErr, IsTrue, OnOk, List, ℕ}
use Rattle.rock_disk.specs.Cell.{settled}
use Rattle.rock_disk.specs.declared.volume.OpenFault.TheVariants as opening
use Rattle.rock_status.specs.declared.status.Status.{Status}
use Rattle.file_commands.specs.Recording.{HeaderLeft, RecordLeaves}
use Rattle.file_commands.specs.Report.{AnyCount}
use Rattle.file_commands.proofs.Printing.{on_ok}
use Rattle.file_commands.proofs.HeaderWritten.{back_either, back_left, back_recorded, left_by, short_open, station_not_short, station_says}
use Rattle.file_commands.proofs.Telling.{open_told, opened_refused, same_counts}
use Rattle.file_commands.proofs.recording.record.Goals as goal

pub returns-in-Err-clause-small : goal.returns-in-Err-clause-small
returns-in-Err-clause-small g c t bytes is = open_told c.in-Err.fault (opening.Small bytes) c.not_opened.result c.not_opened.ensures ((c.in-Err.ensures.small t bytes).1 is)

pub returns-in-Err-clause-short : goal.returns-in-Err-clause-short
returns-in-Err-clause-short g c bytes told = c.in-Err.ensures.short bytes (short_open c.in-Err.fault c.not_opened.result bytes c.not_opened.ensures told)

pub returns-clause-short : goal.returns-clause-short
returns-clause-short g c bytes told = station_not_short _ _ bytes c.record_by_station-outcome.result c.record_by_station-outcome.ensures.refused told

pub returns-clause-recorded : goal.returns-clause-recorded
returns-clause-recorded g c =
    let settled_so = subst (λ (bytes : List ℕ). OnOk c.record_by_station-outcome.result (IsTrue g.V.C.Cell.tells → g.V.C.Cell.state c.record_by_station-outcome.new.header ≡ settled (g.V.C.Cell.state c.in-Ok.opened.header).number (g.V.C.Cell.state c.in-Ok.opened.header).width bytes)) c.write_geometry.ensures c.record_by_station-outcome.ensures.settled in
    on_ok c.record_by_station-outcome.result (λ settled t.
    let o = c.in-Ok.ensures.opened t in
    back_recorded {final = g.V.Volume.files c.give_back.new.self} c.args.geometry.now o.1 c.in-Ok.ensures.shape (c.geometries_are_read_as_written.ensures.whole c.args.geometry.now) (c.opened_cells_are_the_files.ensures.away _ _ _ _ _ _ _ o.1) c.record_by_station-outcome.ensures.files
    (g.V.C.Cell.state c.record_by_station-outcome.new.header) (λ slots width rest found. c.give_back.ensures.back slots width rest t found) (settled o.0)) settled_so

pub returns-clause-either : goal.returns-clause-either
returns-clause-either g c t made =
    let o = c.in-Ok.ensures.opened t in
    let settled_so = subst (λ (bytes : List ℕ). OnOk c.record_by_station-outcome.result (IsTrue g.V.C.Cell.tells → g.V.C.Cell.state c.record_by_station-outcome.new.header ≡ settled (g.V.C.Cell.state c.in-Ok.opened.header).number (g.V.C.Cell.state c.in-Ok.opened.header).width bytes)) c.write_geometry.ensures c.record_by_station-outcome.ensures.settled in
    let left_so = subst (λ (bytes : List ℕ). IfErr c.record_by_station-outcome.result (λ (status : Status). IsTrue g.V.C.Cell.tells → HeaderLeft bytes (g.V.C.Cell.state c.in-Ok.opened.header) (g.V.C.Cell.state c.record_by_station-outcome.new.header) status)) c.write_geometry.ensures c.record_by_station-outcome.ensures.left in
    back_either {final = g.V.Volume.files c.give_back.new.self} c.args.geometry.now o.1 c.in-Ok.ensures.shape (c.geometries_are_read_as_written.ensures.whole c.args.geometry.now) (c.opened_cells_are_the_files.ensures.away _ _ _ _ _ _ _ o.1) c.record_by_station-outcome.ensures.files
    (g.V.C.Cell.state c.record_by_station-outcome.new.header) (λ slots width rest found. c.give_back.ensures.back slots width rest t found)
    c.record_by_station-outcome.result o.0 c.record_by_station-outcome.ensures.shape settled_so left_so

pub returns-clause-left : goal.returns-clause-left
returns-clause-left g c =
    let settled_so = subst (λ (bytes : List ℕ). OnOk c.record_by_station-outcome.result (IsTrue g.V.C.Cell.tells → g.V.C.Cell.state c.record_by_station-outcome.new.header ≡ settled (g.V.C.Cell.state c.in-Ok.opened.header).number (g.V.C.Cell.state c.in-Ok.opened.header).width bytes)) c.write_geometry.ensures c.record_by_station-outcome.ensures.settled in
    let left_so = subst (λ (bytes : List ℕ). IfErr c.record_by_station-outcome.result (λ (status : Status). IsTrue g.V.C.Cell.tells → HeaderLeft bytes (g.V.C.Cell.state c.in-Ok.opened.header) (g.V.C.Cell.state c.record_by_station-outcome.new.header) status)) c.write_geometry.ensures c.record_by_station-outcome.ensures.left in
    left_by (RecordLeaves c.args.geometry.now c.args.name.now (g.V.Volume.files c.args.volume.now) (g.V.Volume.files c.give_back.new.self)) c.record_by_station-outcome.result (λ t.
    let o = c.in-Ok.ensures.opened t in
    back_left {final = g.V.Volume.files c.give_back.new.self} c.args.geometry.now o.1 c.in-Ok.ensures.shape (c.geometries_are_read_as_written.ensures.whole c.args.geometry.now) (c.opened_cells_are_the_files.ensures.away _ _ _ _ _ _ _ o.1) c.record_by_station-outcome.ensures.files
    (g.V.C.Cell.state c.record_by_station-outcome.new.header) (λ slots width rest found. c.give_back.ensures.back slots width rest t found)
    _ _ c.record_by_station-outcome.result o.0 c.record_by_station-outcome.ensures.shape settled_so left_so c.record_by_station-outcome.ensures.refused)

pub returns-clause-refused : goal.returns-clause-refused
returns-clause-refused g c =
    opened_refused AnyCount 0 c.record_by_station-outcome.result (same_counts (c.in-Ok.ensures.unfailed (λ w. cc)) c.in-Ok.ensures.made c.in-Ok.ensures.ended)
    (same_counts c.give_back.ensures.faults c.give_back.ensures.made c.give_back.ensures.ended) c.record_by_station-outcome.ensures.refused

pub returns-clause-says : goal.returns-clause-says
returns-clause-says g c t = station_says _ _ (g.V.Volume.files c.args.volume.now) c.args.name.now c.args.geometry.now.slot c.record_by_station-outcome.result c.record_by_station-outcome.ensures.refused
