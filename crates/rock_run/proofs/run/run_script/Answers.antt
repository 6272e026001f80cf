use Rattle.std.proofs.Common.{List, ap, arith, inr, length, map, subst, sym, ◌+◌, ◌++◌, ◌∷◌, ◌≡◌, ◌∙◌, [], ℕ}
use Rattle.std.proofs.lemmas.Bool.{false≢true}
use Rattle.std.proofs.lemmas.List.{length-append, length-map}
use Rattle.std.specs.FinMap.{get, insert}
use Rattle.rock_disk.specs.File.{bytes_of, rest_cut}
use Rattle.rock_disk.specs.File.File.{Home}
use Rattle.rock_disk.proofs.Homes.{none_away_kept}
use Rattle.rock_run.specs.Offered.{offers_of}
use Rattle.store_rule.specs.Passes.{KeepsRoom}
use Rattle.store_rule.specs.Setting.{IsRow}
use Rattle.script_text.specs.declared.line.Line.{Line}
use Rattle.rock_disk.specs.Counts.{counts}
use Rattle.rock_open.specs.Opening.{OpensStore}
use Rattle.rock_run.specs.Device.{ServingEnds}
use Rattle.rock_run.proofs.Devices.{all_ended, ends_serving, none_failed, says_serving, unfailed_alone}
use Rattle.rock_run.proofs.Homes.{home_again, leaves_closed, leaves_kept}
use Rattle.rock_run.proofs.Opened.{as_passes, may_rest, own_all, rest_all, room_all, sized}
use Rattle.rock_run.proofs.Outcomes.{err_same, if_err, if_ok, ok_not_err}
use Rattle.rock_run.proofs.run.run_script.Goals as goal

pub returns-in-Err-clause-small : goal.returns-in-Err-clause-small
returns-in-Err-clause-small g c t size passes bytes is = err_same _ _ (c.in-Err.ensures.small t size passes bytes is)

pub returns-in-Err-clause-bad_anchors : goal.returns-in-Err-clause-bad_anchors
returns-in-Err-clause-bad_anchors g c t slots has not = c.in-Err.ensures.bad_anchors t slots has not

pub returns-in-Err-clause-unfailed : goal.returns-in-Err-clause-unfailed
returns-in-Err-clause-unfailed g c none = unfailed_alone _ _ c.in-Err.ensures.ended (c.in-Err.ensures.unfailed (λ z. none (err_same _ _ z)))

pub serve_by_stations-served-requires-clause-there : goal.serve_by_stations-served-requires-clause-there
serve_by_stations-served-requires-clause-there g c κs within t = c.opened_cells_are_the_files.ensures.there _ _ _ _ _ _ _ (c.in-Ok.ensures.opened.out t)

pub serve_by_stations-served-requires-clause-rest : goal.serve_by_stations-served-requires-clause-rest
serve_by_stations-served-requires-clause-rest g c κs within = let over = c.in-Ok.ensures.opened.store in let ps = c.in-Ok.open.passes.items in
    may_rest g.V.C.Cell.tells g.V.C.Cell.state offers_of c.in-Ok.open.store ps over.numbered (subst (λ (n : ℕ). KeepsRoom n ps) (sym over.slots_are) over.room)
    (c.new_passes_rest.ensures.own c.in-Ok.open.store ps over.new) (c.new_passes_rest.ensures.rest c.in-Ok.open.store ps over.new)

pub close_counted-cells-requires-clause-own : goal.close_counted-cells-requires-clause-own
close_counted-cells-requires-clause-own g c = own_all g.V.C.Cell.tells g.V.C.Cell.state offers_of c.in-Ok.open.store c.serve_by_stations-served.new.passes.items c.serve_by_stations-served.ensures.rest

pub close_counted-cells-requires-clause-rest : goal.close_counted-cells-requires-clause-rest
close_counted-cells-requires-clause-rest g c = rest_all g.V.C.Cell.tells g.V.C.Cell.state offers_of c.in-Ok.open.store c.serve_by_stations-served.new.passes.items c.serve_by_stations-served.ensures.rest

pub close_counted-cells-requires-clause-room : goal.close_counted-cells-requires-clause-room
close_counted-cells-requires-clause-room g c =
    let size = sized c.args.slot (λ n. ok_not_err _ _ (c.in-Ok.ensures.bad_slot n)) in
    let passes = as_passes c.args.workers (λ n. ok_not_err _ _ (c.in-Ok.ensures.bad_passes size n)) in
    room_all g.V.C.Cell.tells g.V.C.Cell.state offers_of c.in-Ok.open.store c.serve_by_stations-served.new.passes.items
    (let from = passes.from in let many = c.in-Ok.ensures.opened.store.many in let count = c.serve_by_stations-served.ensures.count in let ok = c.serve_by_stations-served.new.passes.ok.0 in omega arith)
    c.serve_by_stations-served.ensures.numbered c.serve_by_stations-served.ensures.rest

pub give_back-requires : goal.give_back-requires
give_back-requires g c t =
    let opened = c.in-Ok.ensures.opened in let closed = c.close_counted-cells.ensures.closed in
    let count = c.opened_slots_are_wide_and_few.ensures.count _ _ _ _ opened.shape in
    c.closed_cells_may_be_given_back.ensures (g.V.Volume.files c.serve_by_stations-served.new.volume) c.args.name.now _ c.args.slot _ c.in-Ok.open.header c.close_counted-cells.result.cells.items
    (ap (λ files. get files c.args.name.now) c.serve_by_stations-served.ensures.files ∙ c.opened_cells_are_the_files.ensures.away _ _ _ _ _ _ _ (opened.out t)) opened.shape.header_shape
    (closed.many ∙ opened.store.slots_are ∙ sym (length-map opened.cells g.V.C.Cell.state) ∙ count) (subst (λ (n : ℕ). IsRow g.V.C.Cell.state n c.close_counted-cells.result.cells.items) opened.store.slot_is closed.row)

pub end_stations-requires-after_bounds : goal.end_stations-requires-after_bounds
end_stations-requires-after_bounds g c κs within =
    let before = g.V.Volume.ended c.args.volume.now in
    let one = c.in-Ok.ensures.one in
    let kept = g.met.V.Volume.ended_were_made c.args.volume.now in
    let ended = ap length (c.give_back.ensures.ended ∙ c.serve_by_stations-served.ensures.ended ∙ one.ended) in
    let long = length-append before (0 ∷ []) in
    let made : g.V.Volume.made c.give_back.new.self ≡ (g.V.Volume.made c.args.volume.now + 1) + c.serve_by_stations-served.new.stations.len = c.give_back.ensures.made ∙ c.serve_by_stations-served.ensures.made ∙ ap (λ (n : ℕ). n + c.serve_by_stations-served.new.stations.len) one.made in
    omega (arith, kept, ended, long, made)

pub returns-clause-ran : goal.returns-clause-ran
returns-clause-ran g c =
    let opened = subst (λ (o : List Line). OpensStore g.V.Volume.tells g.V.C.Cell.tells g.V.C.Cell.state offers_of (g.V.Volume.files c.args.volume.now) (g.V.Volume.files c.open_store.new.volume) c.args.name.now c.args.slot c.args.anchors c.args.workers o c.in-Ok.open.header c.in-Ok.open.store c.in-Ok.open.passes) c.new-origin.ensures c.in-Ok.ensures.opened in let stations = c.serve_by_stations-served.new.stations in
    if_ok _ _ c.serve_by_stations-served.result (λ answers served. record {
      closed = record {
        store = c.in-Ok.open.store;
        header = c.in-Ok.open.header;
        passes = c.in-Ok.open.passes;
        middle = g.V.Volume.files c.open_store.new.volume;
        opened = opened;
        left = c.serve_by_stations-served.new.passes.items;
        cells = c.close_counted-cells.result.cells.items;
        closed = c.close_counted-cells.ensures.closed;
        back = λ t. c.end_stations.ensures.files
            ∙ c.give_back.ensures.back _ _ _ t (ap (λ files. get files c.args.name.now) c.serve_by_stations-served.ensures.files ∙ c.opened_cells_are_the_files.ensures.away _ _ _ _ _ _ _ (opened.out t))
            ∙ ap (λ files. insert files c.args.name.now (Home (g.V.C.Cell.state c.in-Ok.open.header) (map g.V.C.Cell.state c.close_counted-cells.result.cells.items) (rest_cut c.args.slot (bytes_of (opened.out t).was)))) c.serve_by_stations-served.ensures.files;
      };
      stations = stations.items;
      served = served;
      ended = all_ended _ (counts g.V.Volume.faults g.V.Volume.made g.V.Volume.ended c.open_store.new.volume) _ (map g.V.St.Station.faults stations.items) c.in-Ok.ensures.one
          (c.end_stations.ensures.made ∙ c.give_back.ensures.made ∙ c.serve_by_stations-served.ensures.made ∙ ap (λ (n : ℕ). g.V.Volume.made c.open_store.new.volume + n) (stations.ok.0 ∙ sym (length-map stations.items g.V.St.Station.faults)))
          (c.end_stations.ensures.ended ∙ ap (λ (xs : List ℕ). xs ++ map g.V.St.Station.faults stations.items) (c.give_back.ensures.ended ∙ c.serve_by_stations-served.ensures.ended));
    }) c.serve_by_stations-served.ensures.played

pub returns-clause-refused : goal.returns-clause-refused
returns-clause-refused g c =
    let stations = c.serve_by_stations-served.new.stations in
    let middle = counts g.V.Volume.faults g.V.Volume.made g.V.Volume.ended c.open_store.new.volume in
    let made = c.end_stations.ensures.made ∙ c.give_back.ensures.made ∙ c.serve_by_stations-served.ensures.made ∙ ap (λ (n : ℕ). g.V.Volume.made c.open_store.new.volume + n) (stations.ok.0 ∙ sym (length-map stations.items g.V.St.Station.faults)) in
    let ended = c.end_stations.ensures.ended ∙ ap (λ (xs : List ℕ). xs ++ map g.V.St.Station.faults stations.items) (c.give_back.ensures.ended ∙ c.serve_by_stations-served.ensures.ended) in
    let size = sized c.args.slot (λ n. ok_not_err _ _ (c.in-Ok.ensures.bad_slot n)) in
    let passes = as_passes c.args.workers (λ n. ok_not_err _ _ (c.in-Ok.ensures.bad_passes size n)) in
    let first = (c.in-Ok.ensures.unfailed (ok_not_err _ _)).faults in
    if_err _ _ c.serve_by_stations-served.result (λ fault ends. ends_serving (counts g.V.Volume.faults g.V.Volume.made g.V.Volume.ended c.args.volume.now) middle (counts g.V.Volume.faults g.V.Volume.made g.V.Volume.ended c.end_stations.new.volume) (map g.V.St.Station.faults stations.items) c.in-Ok.ensures.one made ended c.args.slot c.args.anchors c.args.workers fault size passes first
    (subst (λ (n : ℕ). ServingEnds (g.V.Volume.faults c.open_store.new.volume) n fault) (sym (c.end_stations.ensures.faults ∙ c.give_back.ensures.faults)) ends)) c.serve_by_stations-served.ensures.refused

pub returns-clause-says : goal.returns-clause-says
returns-clause-says g c t = if_err _ _ c.serve_by_stations-served.result (λ fault ends. says_serving _ _ _ _ _ _ fault ends) c.serve_by_stations-served.ensures.refused

pub returns-clause-bad_anchors : goal.returns-clause-bad_anchors
returns-clause-bad_anchors g c t slots has not = absurd (false≢true (c.in-Ok.ensures.bad_anchors t slots has not).0)

pub returns-clause-kept : goal.returns-clause-kept
returns-clause-kept g c = let opened = subst (λ (o : List Line). OpensStore g.V.Volume.tells g.V.C.Cell.tells g.V.C.Cell.state offers_of (g.V.Volume.files c.args.volume.now) (g.V.Volume.files c.open_store.new.volume) c.args.name.now c.args.slot c.args.anchors c.args.workers o c.in-Ok.open.header c.in-Ok.open.store c.in-Ok.open.passes) c.new-origin.ensures c.in-Ok.ensures.opened in
    if_err _ _ c.serve_by_stations-served.result (λ fault ends. leaves_closed _ _ _ _ fault ends record {
      store = c.in-Ok.open.store;
      header = c.in-Ok.open.header;
      passes = c.in-Ok.open.passes;
      middle = g.V.Volume.files c.open_store.new.volume;
      opened = opened;
      left = c.serve_by_stations-served.new.passes.items;
      cells = c.close_counted-cells.result.cells.items;
      closed = c.close_counted-cells.ensures.closed;
      back = λ t. c.end_stations.ensures.files
          ∙ c.give_back.ensures.back _ _ _ t (ap (λ files. get files c.args.name.now) c.serve_by_stations-served.ensures.files ∙ c.opened_cells_are_the_files.ensures.away _ _ _ _ _ _ _ (opened.out t))
          ∙ ap (λ files. insert files c.args.name.now (Home (g.V.C.Cell.state c.in-Ok.open.header) (map g.V.C.Cell.state c.close_counted-cells.result.cells.items) (rest_cut c.args.slot (bytes_of (opened.out t).was)))) c.serve_by_stations-served.ensures.files;
    }) c.serve_by_stations-served.ensures.refused

pub returns-in-Err-clause-kept : goal.returns-in-Err-clause-kept
returns-in-Err-clause-kept g c = leaves_kept _ _ c.in-Err.fault c.in-Err.ensures.kept

pub returns-in-Err-clause-back : goal.returns-in-Err-clause-back
returns-in-Err-clause-back g c t home = none_away_kept c.args.slot c.args.name.now (g.V.Volume.files c.args.volume.now) (g.V.Volume.files c.open_store.new.volume) (c.in-Err.ensures.kept t) home

pub returns-clause-back : goal.returns-clause-back
returns-clause-back g c t home =
    let files = g.V.Volume.files c.serve_by_stations-served.new.volume in
    let out = c.in-Ok.ensures.opened.out t in
    let away = ap (λ m. get m c.args.name.now) c.serve_by_stations-served.ensures.files ∙ c.opened_cells_are_the_files.ensures.away _ _ _ _ _ _ _ out in
    home_again (g.V.Volume.files c.args.volume.now) files (g.V.Volume.files c.end_stations.new.volume) c.args.name.now _ _ tt
    (c.serve_by_stations-served.ensures.files ∙ out.out) (c.end_stations.ensures.files ∙ c.give_back.ensures.back _ _ _ t away) home

pub returns-clause-ended : goal.returns-clause-ended
returns-clause-ended g c =
    let stations = c.serve_by_stations-served.new.stations in
    let middle = counts g.V.Volume.faults g.V.Volume.made g.V.Volume.ended c.open_store.new.volume in
    let made = c.end_stations.ensures.made ∙ c.give_back.ensures.made ∙ c.serve_by_stations-served.ensures.made ∙ ap (λ (n : ℕ). g.V.Volume.made c.open_store.new.volume + n) (stations.ok.0 ∙ sym (length-map stations.items g.V.St.Station.faults)) in
    let ended = c.end_stations.ensures.ended ∙ ap (λ (xs : List ℕ). xs ++ map g.V.St.Station.faults stations.items) (c.give_back.ensures.ended ∙ c.serve_by_stations-served.ensures.ended) in
    inr (0, map g.V.St.Station.faults stations.items, all_ended (counts g.V.Volume.faults g.V.Volume.made g.V.Volume.ended c.args.volume.now) middle (counts g.V.Volume.faults g.V.Volume.made g.V.Volume.ended c.end_stations.new.volume) (map g.V.St.Station.faults stations.items) c.in-Ok.ensures.one made ended)

pub returns-clause-unfailed : goal.returns-clause-unfailed
returns-clause-unfailed g c none =
    let stations = c.serve_by_stations-served.new.stations in
    let middle = counts g.V.Volume.faults g.V.Volume.made g.V.Volume.ended c.open_store.new.volume in
    let made = c.end_stations.ensures.made ∙ c.give_back.ensures.made ∙ c.serve_by_stations-served.ensures.made ∙ ap (λ (n : ℕ). g.V.Volume.made c.open_store.new.volume + n) (stations.ok.0 ∙ sym (length-map stations.items g.V.St.Station.faults)) in
    let ended = c.end_stations.ensures.ended ∙ ap (λ (xs : List ℕ). xs ++ map g.V.St.Station.faults stations.items) (c.give_back.ensures.ended ∙ c.serve_by_stations-served.ensures.ended) in
    none_failed (counts g.V.Volume.faults g.V.Volume.made g.V.Volume.ended c.args.volume.now) middle (counts g.V.Volume.faults g.V.Volume.made g.V.Volume.ended c.end_stations.new.volume) (map g.V.St.Station.faults stations.items) c.in-Ok.ensures.one made ended (c.in-Ok.ensures.unfailed (ok_not_err _ _)).faults
    (c.end_stations.ensures.faults ∙ c.give_back.ensures.faults ∙ c.serve_by_stations-served.ensures.unfailed none)
