use Rattle.std.proofs.Common.{arith, ◌*◌, ◌+◌, ◌/◌, ◌∙◌, ◌≡◌}
use Rattle.std.proofs.lemmas.Bool.{false≢true}
use Rattle.closed_counts.proofs.Mapping.{free_more, taken_more}
use Rattle.closed_counts.proofs.free.count_free.Goals as goal
use Rattle.closed_counts.proofs.free.count_free.Goals.{else-not-is_set, then-not-is_set}

pub loop-slot-preserved : goal.loop-slot-preserved
loop-slot-preserved g c =
    let slot = c.loop-slot.slot in
    let place : c.map_index.result ≡ 5 * c.args.anchors + 2 * c.args.slots + c.loop-slot.slot / 64 =
    let word = c.map_place-word.ensures.0 in omega arith in
    let old = c.loop-slot.invariant in
    elim c.if-not-is_set.branch [
      | then-not-is_set w ↦ record {
        few = let e = w.free-is in let few = old.few in omega arith;
        counted = λ k s h. w.free-is ∙ free_more h slot c.map_index.result c.word.result c.map_place-word.result.1 c.loop-slot.free
            place c.word.ensures c.map_place-word.ensures.1 (λ e. false≢true (w.if-not-is_set.ensures.1 e)) (old.counted k s h);
      }
      | else-not-is_set w ↦ record {
        few = let e = w.free-is in let few = old.few in omega arith;
        counted = λ k s h. w.free-is ∙ taken_more h slot c.map_index.result c.word.result c.map_place-word.result.1 c.loop-slot.free
            place c.word.ensures c.map_place-word.ensures.1 (c.is_set.ensures.0 w.if-not-is_set.false) (old.counted k s h);
      }
    ]
