use Rattle.std.proofs.Common.{◌≡◌, ℕ, ◌<◌, length, map, take, get_or, None, refl, ap, sym, subst, ◌∙◌, arith}
use Rattle.std.specs.Prelude.{sum_by, count_by}
use Rattle.std.specs.Option.{is_some}
use Rattle.std.specs.List.Sorted.{IsStrictlyIncreasing}
use Rattle.std.proofs.lemmas.List.{length-map}
use Rattle.std.proofs.Math.Seq.{take-length}
use Rattle.rebuild_model.specs.declared.rebuilt.Rebuilt.{Rebuilt}
use Rattle.rebuild_model.specs.Keeping.{AreWinners}
use Rattle.rock_rebuild.specs.declared.outcome.Tally.{Tally}
use Rattle.rock_rebuild.specs.declared.outcome.Scan.{Scan}
use Rattle.rock_rebuild.specs.Kept.{AreHeaders, AreHeads, IsGreatestOf}
use Rattle.rock_rebuild.specs.Scan.{IsScan}
use Rattle.rock_rebuild.specs.Candidates.{slots_of, AreBestAs}
use Rattle.rock_rebuild.specs.Tally.{IsTally}
use Rattle.rock_rebuild.proofs.Scanned.{file_of, scanned}
use Rattle.rock_rebuild.proofs.Keeping.{firsts_of, kept_at}
use Rattle.rock_rebuild.proofs.Tallied.{Known, TellsKept, gathered}
use Rattle.rock_rebuild.proofs.tallying.tally.Goals as goal

pub returns-clause-read : goal.returns-clause-read
returns-clause-read g c =
    let state = g.St.C.Cell.state in
    let slot = c.args.slot in
    let anchors = c.args.anchors in
    let slots = c.in_ok-slots.slots in
    let read = c.in_ok-slots.ensures.read in
    let all = read.0 in
    let are = read.1 in
    let kept = read.2 in
    let count : length c.args.cells.now ≡ length all = sym (are.count ∙ length-map c.args.cells.now state) in
    let file = file_of state g.St.C.Cell.tells c.args.cells.now slot all are c.requires.slots in
    let headers = subst (λ n. AreHeaders n slot all slots.table) count kept.headers in
    let heads = subst (λ n. AreHeads n slot all slots.urls.items slots.heads.items) count kept.heads in
    let so = c.in_ok-candidates.ensures.found all file headers
    (subst (λ u. AreHeads (length all) slot all u c.deref.result.now) (sym c.deref-2.ensures.value) (subst (AreHeads (length all) slot all slots.urls.items) (sym c.deref.ensures.value) heads))
    in
    let scan : Scan = record { found = so.found; greatest = slots.greatest } in
    let s : IsScan slot all scan = scanned slot all scan so.are (subst (λ n. IsGreatestOf n slot all slots.greatest) count kept.greatest) in
    let up : IsStrictlyIncreasing (map (λ f. f.first) so.found) = subst IsStrictlyIncreasing (sym (ap (map (λ f. f.first)) s.told ∙ firsts_of s.entries)) s.ordered in
    let chosen = c.in_ok-chosen.chosen.items in
    let best : AreBestAs anchors so.found 0 chosen = c.in_ok-chosen.ensures.best so.found up (c.deref-3.ensures.value ∙ so.told) in
    let gathering = c.winners_are_gathered.ensures in
    let known : Known slot all anchors = record {
      none = gathering.none slot all anchors;
      passed = gathering.passed slot all anchors;
      more = gathering.more slot all anchors;
      apart = c.winners_are_apart.ensures slot all anchors;
    } in
    let told : (anchor : ℕ) → anchor < length chosen → TellsKept slot all anchors anchor (get_or chosen anchor None) =
    λ anchor below. let one = best.each anchor (omega (arith, below, best.count)) in (one.0, kept_at slot all anchors anchor scan one.0 s one.1, one.2)
    in
    let got = gathered slot all anchors chosen (length chosen) known told (omega arith) in
    let whole : take (length chosen) chosen ≡ chosen = take-length chosen in
    let rebuilt : Rebuilt = record { winners = got.winners; owner = got.owner; greatest = slots.greatest } in (
      all,
      are,
      record {
        rebuilt = rebuilt;
        is = c.winners_and_owners_make_a_rebuild.ensures slot all anchors rebuilt c.requires.some
            (subst (λ n. AreWinners slot all anchors n got.winners) best.count got.are) got.sized got.owned s.greatest;
        counts = record {
          slots = count ∙ sym got.sized;
          kept = c.count_chosen.ensures ∙ ap (count_by is_some) (c.deref-4.ensures.value ∙ sym whole) ∙ sym got.many;
          used = c.slots_of_chosen.ensures ∙ ap (sum_by slots_of) (c.deref-5.ensures.value ∙ sym whole) ∙ sym got.used;
          greatest = refl;
        };
      },
    )

pub returns-clause-counted : goal.returns-clause-counted
returns-clause-counted g c t =
    let read = returns-clause-read g c in
    let tally : Tally = record { slots = length c.args.cells.now; kept = c.count_chosen.result; used = c.slots_of_chosen.result; greatest = c.in_ok-slots.slots.greatest } in
    subst (λ images. IsTally c.args.slot images c.args.anchors tally) (read.1.told t) read.2
