use Rattle.std.proofs.Common.{◌≡◌, length, map, ap, sym, subst, ◌∙◌, arith}
use Rattle.std.proofs.lemmas.List.{length-map}
use Rattle.std.specs.List.Sorted.{IsStrictlyIncreasing}
use Rattle.rebuild_model.specs.Rebuilt.{IsRebuilt}
use Rattle.rebuild_model.specs.declared.rebuilt.Rebuilt.{Rebuilt}
use Rattle.rebuild_model.specs.Keeping.{AreWinners, AreOwners}
use Rattle.rock_rebuild.specs.Scan.{IsScan}
use Rattle.rock_rebuild.specs.Best.{AreBest}
use Rattle.rock_rebuild.specs.Winners.{AreKept}
use Rattle.rock_rebuild.proofs.Keeping.{firsts_of, are_kept}
use Rattle.rock_rebuild.proofs.rebuilding.rebuild.Goals as goal

pub returns-clause-read : goal.returns-clause-read
returns-clause-read g c =
    let state = g.St.C.Cell.state in
    let slot = c.args.slot in
    let anchors = c.args.anchors in
    let read = c.in_ok-found.ensures.read in
    let all = read.0 in
    let are = read.1 in
    let scan = c.in_ok-found.field-0 in
    let s : IsScan slot all scan = read.2 in
    let best = c.in_ok-best.best.items in
    let up = subst (λ l. IsStrictlyIncreasing (map (λ f. f.first) l)) (sym c.as_slice.ensures) (subst IsStrictlyIncreasing (sym (ap (map (λ f. f.first)) s.told ∙ firsts_of s.entries)) s.ordered) in
    let best_are = subst (λ l. AreBest anchors l 0 best) c.as_slice.ensures (c.in_ok-best.ensures up) in
    let kept = are_kept slot all anchors scan best s best_are in
    let winners = c.in_ok-winners.ensures slot all anchors (subst (λ l. AreKept slot all anchors l c.deref.result.now) (sym c.as_slice-2.ensures) (subst (AreKept slot all anchors scan.found) (sym c.deref.ensures.value) kept)) in
    let owners = subst (λ ws. AreOwners anchors ws c.in_ok-owner.owner.items) (c.deref-2.ensures.value ∙ sym c.from_vec.ensures) c.in_ok-owner.ensures.owners in
    let count : length c.from_vec-2.result ≡ length all = omega (arith, ap length c.from_vec-2.ensures, c.in_ok-owner.ensures.count, c.scan.auto.cells, are.count, length-map c.args.cells.now state) in (
      all,
      are,
      c.winners_and_owners_make_a_rebuild.ensures slot all anchors _ c.requires.some
          (subst (AreWinners slot all anchors anchors) (sym c.from_vec.ensures) winners) count (subst (AreOwners anchors c.from_vec.result) (sym c.from_vec-2.ensures) owners) s.greatest,
    )

pub returns-clause-rebuilt : goal.returns-clause-rebuilt
returns-clause-rebuilt g c t =
    let read = returns-clause-read g c in
    let rebuilt : Rebuilt = record { winners = c.from_vec.result; owner = c.from_vec-2.result; greatest = c.in_ok-found.field-0.greatest } in
    subst (λ images. IsRebuilt c.args.slot images c.args.anchors rebuilt) (read.1.told t) read.2
