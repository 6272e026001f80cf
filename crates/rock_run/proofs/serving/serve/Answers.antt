use Rattle.std.proofs.Common.{All, ap, arith, length, map, subst, sym, ◌+◌, ◌∙◌, ◌≡◌}
use Rattle.std.proofs.lemmas.List.{length-map}
use Rattle.std.proofs.lemmas.List.Elements.{All-contains}
use Rattle.std.proofs.lemmas.Simd.{map-map}
use mathlib.Core.Option.{some}
use lib.ListN.{get_elem?}
use Rattle.core_model.proofs.Lists.{at_length, at_or}
use Rattle.rock_run.specs.Offered.{offers_of}
use Rattle.store_rule.specs.Passes.{AreNumbered, IsNewOf}
use Rattle.worker_shelf.specs.Taking.{Takes}
use Rattle.worker_pool.specs.Courses.{IsServed}
use Rattle.rock_run.specs.Crews.{MayRest}
use Rattle.rock_run.proofs.Accounts.{played}
use Rattle.rock_run.proofs.Back.{among, at_place, image_at, number_at, numbers, place_at, rest}
use Rattle.rock_run.proofs.serving.serve.Goals as goal

pub run_workers-requires-clause-home : goal.run_workers-requires-clause-home
run_workers-requires-clause-home g c κs within a b in_a in_b = let are = c.hire.ensures.hired in ap (λ s. (s, s.table.shared.table_id)) (are.stores a in_a ∙ sym (are.stores b in_b))

pub run_workers-requires-clause-workers : goal.run_workers-requires-clause-workers
run_workers-requires-clause-workers g c κs within line there =
    let h = c.requires.lines.within line there in
    let long = ap length c.hire.ensures.hired.passes_are in let same = length-map c.hire.new.shelves.items (λ shelf. shelf.pass) in
    let n = c.hire.new.shelves.ok.0 in let m = c.args.passes.now.ok.0 in (h.0, let most = h.1 in omega (arith, long, same, n, m, most))

pub run_workers-requires-clause-takes : goal.run_workers-requires-clause-takes
run_workers-requires-clause-takes g c κs within w k shelf line at is mine served =
    subst (λ s. Takes g.C.Cell.tells g.C.Cell.state offers_of s shelf.pass line) (sym (c.hire.ensures.hired.stores shelf (among c.hire.new.shelves.items w shelf at)))
    (c.script_lines_may_be_asked.ensures.takes c.args.store.now c.args.script.now.lines line shelf.pass c.requires.offers (c.requires.lines.found line (k, is.0, is.1)) (c.requires.lines.asked line (k, is.0, is.1))
    (mine ∙ ap (λ n. n + 1) (sym (number_at c.args.store.now c.args.passes.now.items c.args.stations.now.items c.hire.new.shelves.items c.hire.ensures.hired c.requires.numbered w shelf at)))
    (λ mark e. subst IsServed e served) (λ mark e. subst IsServed e served))

pub run_workers-requires-clause-marks : goal.run_workers-requires-clause-marks
run_workers-requires-clause-marks g c κs within = c.requires.lines.marks

pub returns-in-Ok-clause-rest : goal.returns-in-Ok-clause-rest
returns-in-Ok-clause-rest g c = subst (All (MayRest g.C.Cell.tells g.C.Cell.state offers_of c.args.store.now)) (sym c.dismiss.ensures.passes)
    (rest c.args.store.now c.args.passes.now.items c.args.stations.now.items c.hire.new.shelves.items c.in-Ok.field-0.shelves.items c.hire.ensures.hired c.in-Ok.ensures.back.count (λ w before after b a. let k = c.in-Ok.ensures.back.kept w before after b a in (ap (λ z. z.0) k.home, k.name)) g.C.Cell.tells g.C.Cell.state offers_of c.dismiss.ensures.rest)

pub returns-in-Ok-clause-numbered : goal.returns-in-Ok-clause-numbered
returns-in-Ok-clause-numbered g c = subst AreNumbered (sym c.dismiss.ensures.passes)
    (numbers c.args.store.now c.args.passes.now.items c.args.stations.now.items c.hire.new.shelves.items c.in-Ok.field-0.shelves.items c.hire.ensures.hired c.in-Ok.ensures.back.count (λ w before after b a. let k = c.in-Ok.ensures.back.kept w before after b a in (ap (λ z. z.0) k.home, k.name)) c.requires.numbered)

pub returns-in-Err-clause-rest : goal.returns-in-Err-clause-rest
returns-in-Err-clause-rest g c = subst (All (MayRest g.C.Cell.tells g.C.Cell.state offers_of c.args.store.now)) (sym c.dismiss-in-Err.ensures.passes)
    (rest c.args.store.now c.args.passes.now.items c.args.stations.now.items c.hire.new.shelves.items c.in-Err.shelves.items c.hire.ensures.hired c.in-Err.ensures.back.count (λ w before after b a. let k = c.in-Err.ensures.back.kept w before after b a in (ap (λ z. z.0) k.home, k.name)) g.C.Cell.tells g.C.Cell.state offers_of c.dismiss-in-Err.ensures.rest)

pub returns-in-Err-clause-numbered : goal.returns-in-Err-clause-numbered
returns-in-Err-clause-numbered g c = subst AreNumbered (sym c.dismiss-in-Err.ensures.passes)
    (numbers c.args.store.now c.args.passes.now.items c.args.stations.now.items c.hire.new.shelves.items c.in-Err.shelves.items c.hire.ensures.hired c.in-Err.ensures.back.count (λ w before after b a. let k = c.in-Err.ensures.back.kept w before after b a in (ap (λ z. z.0) k.home, k.name)) c.requires.numbered)

pub returns-in-Ok-clause-played : goal.returns-in-Ok-clause-played
returns-in-Ok-clause-played g c =
    let h = c.in-Ok.ensures.served in
    let are = c.hire.ensures.hired in
    let s = c.args.store.now in
    let lines = c.args.script.now.lines in
    let passes = c.args.passes.now.items in
    let shelves = c.hire.new.shelves.items in record {
      accounts = h.accounts;
      each = λ w a at.
          let shelf_at = subst (λ l. get_elem? l w ≡ some a.start) h.starts (image_at (λ b. b.start) h.accounts w a (at_place h.accounts w a at)) in
          let pass_at = subst (λ l. get_elem? l w ≡ some a.start.pass) are.passes_are (image_at (λ shelf. shelf.pass) shelves w a.start shelf_at) in
          played g.C.Cell.tells g.C.Cell.state offers_of g.St.Station.faults _ (λ n. n.0) (λ b line x d went. went) (λ b n d noted. noted) (λ b n d learned. learned) (λ b d left. left) s lines w a (h.each w a at)
          (are.stores a.start (among shelves w a.start (place_at shelves w a.start shelf_at)))
          (All-contains (IsNewOf g.C.Cell.tells g.C.Cell.state offers_of s) passes a.start.pass c.requires.new (w, at_length passes w a.start.pass pass_at, at_or passes w a.start.pass a.start.pass pass_at))
          (c.requires.numbered w a.start.pass pass_at)
          (λ line there mine served. c.script_lines_may_be_asked.ensures.takes s lines line a.start.pass c.requires.offers (c.requires.lines.found line there) (c.requires.lines.asked line there)
          (mine ∙ ap (λ n. n + 1) (sym (c.requires.numbered w a.start.pass pass_at)))
          (λ mark e. subst IsServed e served) (λ mark e. subst IsServed e served));
      told = λ a b in_a in_b m n mark among_a among_b sets_it awaits_it met x seen. h.meets a b in_a in_b m n mark among_a among_b sets_it awaits_it met x seen;
      passes_are = sym (map-map (λ shelf. shelf.pass) (λ a. a.start) h.accounts) ∙ ap (map (λ shelf. shelf.pass)) h.starts ∙ are.passes_are;
      stations_are = sym (map-map (λ shelf. shelf.station) (λ a. a.start) h.accounts) ∙ ap (map (λ shelf. shelf.station)) h.starts ∙ are.stations_are;
      passes_left_are = sym (map-map (λ shelf. shelf.pass) (λ a. a.end) h.accounts) ∙ ap (map (λ shelf. shelf.pass)) h.ends ∙ sym c.dismiss.ensures.passes;
      stations_left_are = sym (map-map (λ shelf. shelf.station) (λ a. a.end) h.accounts) ∙ ap (map (λ shelf. shelf.station)) h.ends ∙ sym c.dismiss.ensures.stations;
      answers_are = h.answers_are;
    }
