use Rattle.std.proofs.Common.{inr, List, map, ap, drop, length, sym, ◌∙◌, subst, arith, Contains}
use Rattle.script_text.specs.declared.line.Line.{Line}
use Rattle.worker_pool.specs.Crews.{AreEnded, Gathered}
use Rattle.worker_pool.specs.Running.{HasServed, HasTried}
use Rattle.worker_pool.proofs.Places.{at_same}
use Rattle.worker_pool.proofs.Finishing.{begins, own_after, written_back, has_served, has_back, has_tried}
use Rattle.worker_pool.proofs.run.run_workers.Goals as goal

pub serve_all-requires-clause-begin : goal.serve_all-requires-clause-begin
serve_all-requires-clause-begin g c κs within w x at = begins g.H.Shelf c.in-Ok.room.marks c.as_slice-lines.result.now c.args.shelves.items c.in-Ok.room.seats.items c.hire.new.workers.items c.requires.home
    (λ v k shelf line here there. c.requires.takes v k shelf line here (at_same c.as_slice-lines.result.now c.args.script.now.lines k line c.as_slice-lines.ensures there))
    (at_same c.as_slice.result.now c.args.shelves.items 0 _ c.as_slice.ensures.value c.in-Ok.ensures.key) c.in-Ok.ensures.dealt c.hire.ensures.hired w x
    (at_same c.as_mut_slice-2.result.now c.hire.new.workers.items w x c.as_mut_slice-2.ensures.value at)

pub release-requires-clause-own : goal.release-requires-clause-own
release-requires-clause-own g c κs within x h =
    let all = written_back c.serve_all.new.workers (drop (length c.serve_all.new.workers) c.hire.new.workers.items) c.hire.new.workers.len (omega arith) in
    own_after g.H.Shelf c.in-Ok.room.marks c.as_slice-lines.result.now c.as_mut_slice-2.result.now c.serve_all.new.workers c.serve_all.ensures x (subst (λ l. Contains l x) all h)

pub returns-then-release-clause-served : goal.returns-then-release-clause-served
returns-then-release-clause-served g c =
    let all = written_back c.serve_all.new.workers (drop (length c.serve_all.new.workers) c.hire.new.workers.items) c.hire.new.workers.len (omega arith) in
    let ended = subst (λ l. AreEnded g.H.Shelf c.in-Ok.room.marks c.as_slice-lines.result.now l c.serve_all.new.workers) c.as_mut_slice-2.ensures.value c.serve_all.ensures in
    subst (λ (l : List Line). HasServed g.H.Shelf l c.args.shelves.items c.release.new.shelves.items (map (λ a. a.items) c.release.new.answers.items)) c.as_slice-lines.ensures
    (has_served g.H.Shelf c.in-Ok.room.marks c.as_slice-lines.result.now c.args.shelves.items c.in-Ok.room.seats.items c.hire.new.workers.items c.serve_all.new.workers c.hire.ensures.hired ended
    c.release.new.shelves.items c.release.new.answers.items (c.release.ensures.shelves ∙ ap (map (λ x. x.shelf)) all) (c.release.ensures.answers ∙ ap (map (λ x. x.answers)) all)
    (λ y h. c.release.ensures.went c.if-release.true y (subst (λ l. Contains l y) (sym all) h)) (subst Gathered all c.release.ensures.gathered))

pub returns-then-release-clause-back : goal.returns-then-release-clause-back
returns-then-release-clause-back g c =
    let all = written_back c.serve_all.new.workers (drop (length c.serve_all.new.workers) c.hire.new.workers.items) c.hire.new.workers.len (omega arith) in
    let ended = subst (λ l. AreEnded g.H.Shelf c.in-Ok.room.marks c.as_slice-lines.result.now l c.serve_all.new.workers) c.as_mut_slice-2.ensures.value c.serve_all.ensures in
    has_back g.H.Shelf c.in-Ok.room.marks c.as_slice-lines.result.now c.args.shelves.items c.in-Ok.room.seats.items c.hire.new.workers.items c.serve_all.new.workers c.hire.ensures.hired ended
    c.release.new.shelves.items (c.release.ensures.shelves ∙ ap (map (λ x. x.shelf)) all)

pub returns-clause-back : goal.returns-clause-back
returns-clause-back g c =
    let all = written_back c.serve_all.new.workers (drop (length c.serve_all.new.workers) c.hire.new.workers.items) c.hire.new.workers.len (omega arith) in
    let ended = subst (λ l. AreEnded g.H.Shelf c.in-Ok.room.marks c.as_slice-lines.result.now l c.serve_all.new.workers) c.as_mut_slice-2.ensures.value c.serve_all.ensures in
    has_back g.H.Shelf c.in-Ok.room.marks c.as_slice-lines.result.now c.args.shelves.items c.in-Ok.room.seats.items c.hire.new.workers.items c.serve_all.new.workers c.hire.ensures.hired ended
    c.release.new.shelves.items (c.release.ensures.shelves ∙ ap (map (λ x. x.shelf)) all)

pub returns-clause-handed_back : goal.returns-clause-handed_back
returns-clause-handed_back g c =
    let all = written_back c.serve_all.new.workers (drop (length c.serve_all.new.workers) c.hire.new.workers.items) c.hire.new.workers.len (omega arith) in
    let ended = subst (λ l. AreEnded g.H.Shelf c.in-Ok.room.marks c.as_slice-lines.result.now l c.serve_all.new.workers) c.as_mut_slice-2.ensures.value c.serve_all.ensures in
    let one = c.release.ensures.stopped c.if-release.false in
    inr (subst (λ (l : List Line). HasTried g.H.Shelf l c.args.shelves.items c.release.new.shelves.items) c.as_slice-lines.ensures
    (has_tried g.H.Shelf c.in-Ok.room.marks c.as_slice-lines.result.now c.args.shelves.items c.in-Ok.room.seats.items c.hire.new.workers.items c.serve_all.new.workers c.hire.ensures.hired ended
    c.release.new.shelves.items (c.release.ensures.shelves ∙ ap (map (λ x. x.shelf)) all) one.0 (subst (λ l. Contains l one.0) all one.1) one.2))
