use Rattle.std.proofs.Common.{ap, arith, length, sum_by, sym, ◌+◌, ◌∙◌, ℕ}
use Rattle.closed_counts.proofs.Adding.{closed_same, held_few, held_more, kept_more}
use Rattle.closed_counts.specs.Counts.{slots_of}
use Rattle.closed_counts.proofs.counts.count_kept.Goals as goal
use Rattle.closed_counts.proofs.counts.count_kept.Goals.{else-is_closed, then-is_closed}

pub overflow_add-held : goal.overflow_add-held
overflow_add-held g c = let r = c.requires.words in
    let a = c.loop-anchor.anchor in
    let slots = c.chain_length-held.ensures r.0 r.1 r.2 in
    let more = held_more r.1 a c.loop-anchor.held (sym (c.if-is_closed.ensures r.0 r.1 r.2)) (c.loop-anchor.invariant.held r.0 r.1 r.2) in
    let few = held_few r.2 (a + 1) (let lt = c.loop-anchor-test.true in omega arith) in
    let fits = c.ranges.slots in omega arith

pub loop-anchor-preserved : goal.loop-anchor-preserved
loop-anchor-preserved g c =
    let a = c.loop-anchor.anchor in
    let old = c.loop-anchor.invariant in
    elim c.if-is_closed.branch [
      | then-is_closed w ↦ record {
        few = let e = w.kept-is in let few = old.few in omega arith;
        kept = λ k s h. w.kept-is ∙ kept_more s a c.loop-anchor.kept (sym (w.if-is_closed.ensures k s h)) (old.kept k s h);
        held = λ k s h. w.held-is ∙ ap (λ (n : ℕ). c.loop-anchor.held + n) (w.chain_length-held.ensures k s h)
            ∙ held_more s a c.loop-anchor.held (sym (w.if-is_closed.ensures k s h)) (old.held k s h);
      }
      | else-is_closed w ↦ record {
        few = let e = w.kept-is in let few = old.few in omega arith;
        kept = λ k s h. w.kept-is ∙ old.kept k s h ∙ sym (ap length (closed_same s a (sym (w.if-is_closed.ensures k s h))));
        held = λ k s h. w.held-is ∙ old.held k s h ∙ sym (ap (sum_by (slots_of s)) (closed_same s a (sym (w.if-is_closed.ensures k s h))));
      }
    ]
