use Rattle.std.proofs.Common.{◌≡◌, length, subst, sym, ◌∙◌}
use Rattle.std.proofs.lemmas.List.{length-map}
use Rattle.rock_rebuild.specs.Kept.{AreHeaders, AreHeads, IsGreatestOf}
use Rattle.rock_rebuild.specs.Gathered.{AreFound}
use Rattle.rock_rebuild.specs.Scan.{IsScan}
use Rattle.rock_rebuild.specs.declared.outcome.Scan.{Scan}
use Rattle.rock_rebuild.proofs.Scanned.{file_of, scanned}
use Rattle.rock_rebuild.proofs.scanning.scan.Goals as goal

pub returns-clause-read : goal.returns-clause-read
returns-clause-read g c =
    let state = g.St.C.Cell.state in
    let slot = c.args.slot in
    let read = c.in_ok-slots.ensures.read in
    let all = read.0 in
    let are = read.1 in
    let kept = read.2 in
    let count : length c.args.cells.now ≡ length all = sym (are.count ∙ length-map c.args.cells.now state) in
    let file = file_of state g.St.C.Cell.tells c.args.cells.now slot all are c.requires in
    let headers = subst (λ n. AreHeaders n slot all c.in_ok-slots.slots.table) count kept.headers in
    let heads = subst (λ n. AreHeads n slot all c.in_ok-slots.slots.urls.items c.in_ok-slots.slots.heads.items) count kept.heads in (
      all,
      are,
      scanned slot all _
          (subst (AreFound slot all (length all)) (sym c.from_vec.ensures) (c.in_ok-found.ensures all file headers (subst (λ u. AreHeads (length all) slot all u c.deref.result.now) (sym c.deref-2.ensures.value) (subst (AreHeads (length all) slot all c.in_ok-slots.slots.urls.items) (sym c.deref.ensures.value) heads))))
          (subst (λ n. IsGreatestOf n slot all c.in_ok-slots.slots.greatest) count kept.greatest),
    )

pub returns-clause-scanned : goal.returns-clause-scanned
returns-clause-scanned g c t =
    let read = returns-clause-read g c in
    let scan : Scan = record { found = c.from_vec.result; greatest = c.in_ok-slots.slots.greatest } in
    subst (λ images. IsScan c.args.slot images scan) (read.1.told t) read.2
