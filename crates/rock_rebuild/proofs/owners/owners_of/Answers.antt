use Rattle.std.proofs.Common.{◌≡◌, ◌+◌, ◌<◌, ◌∷◌, length, drop, cond, ap, sym, subst, ◌∙◌, arith, rules}
use Rattle.std.specs.Prelude.{slice_index}
use Rattle.store_key.specs.Anchor.{anchor_of}
use Rattle.rock_rebuild.proofs.Cells.{filled}
use Rattle.rock_rebuild.proofs.Lists.{is_among}
use Rattle.rock_rebuild.proofs.Owning.{all_free, none_owned, one_more_owns, all_owned}
use Rattle.rock_rebuild.proofs.owners.owners_of.Goals as goal

pub winners-init : goal.winners-init
winners-init c =
    let all = c.in_ok-resize.ensures.items in
    let count : length c.resize.new.self.items ≡ c.args.slots = omega (arith, c.in_ok-resize.ensures.len) in
    (none_owned c.args.anchors c.args.winners.now c.resize.new.self.items (all_free c.resize.new.self.items c.new-owner.result.items c.args.slots _ c.new-owner.ensures.items all), count)

pub winners-preserved : goal.winners-preserved
winners-preserved c =
    let so = c.winners.invariant in
    let w = c.in-Some.winner.now in
    let split : c.winners.left.now ≡ w ∷ c.in-Some.rest.now = search rules in
    let whole = filled c.own.new.owner (drop (length c.own.new.owner) c.winners.owner.items) c.winners.owner.len (c.own.auto.owner ∙ c.deref_mut.ensures.len) in
    let count = ap length whole ∙ c.own.ensures.count ∙ ap length c.deref_mut.ensures.value in (
      one_more_owns c.args.anchors c.args.winners.now c.winners.left.now c.in-Some.rest.now w c.winners.owner.items _ so.0 split count
          (λ s inside.
          let old = c.deref_mut.ensures.value in
          ap (λ l. slice_index l s) whole ∙ c.own.ensures.owned s (subst (λ l. s < length l) (sym old) inside)
          ∙ ap (λ xs. cond (is_among s xs) (c.anchor_of-number.result + 1) (slice_index c.deref_mut.result.now s)) c.as_slice.ensures
          ∙ ap (λ n. cond (is_among s w.chain) (n + 1) (slice_index c.deref_mut.result.now s)) c.anchor_of-number.ensures.value
          ∙ ap (λ l. cond (is_among s w.chain) (anchor_of w.key c.args.anchors + 1) (slice_index l s)) old),
      count ∙ so.1,
    )

pub returns-clause-owners : goal.returns-clause-owners
returns-clause-owners c = all_owned c.args.anchors c.args.winners.now c.winners.left.now c.winners.owner.items c.winners.invariant.0 c.in_default.ensures.cases
