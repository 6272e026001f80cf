use Rattle.std.proofs.Common.{rules, ◌≡◌, inl, inr, sym, ◌∷◌}
use Rattle.core_table.proofs.Placing.{link_on, chained_on, within_on}
use Rattle.core_table.proofs.kept.write_links.Goals as goal
use Rattle.core_table.proofs.kept.write_links.Goals.{in-None, in-Some-first}

pub slots-preserved : goal.slots-preserved
slots-preserved c =
    let is : c.slots.left.now ≡ c.in-Some.slot.now ∷ c.in-Some.rest.now = search rules in
    let to = link_on c.in-Some.rest.now c.match-first.link (elim c.match-first.branch [
      | in-None w ↦ inl (sym w.in-None.ensures.value, w.link-is)
      | in-Some-first w ↦ inr (_, sym w.in-Some-first.ensures.value, w.link-is)
    ]) in
    record {
      same = chained_on c.slots.links c.slots.left.now c.in-Some.rest.now _ c.in-Some.slot.now c.pack_link.result c.match-first.link is to c.pack_link.ensures c.slots.invariant.same;
      within = within_on c.slots.left.now c.in-Some.rest.now c.slots.links c.in-Some.slot.now c.pack_link.result is c.slots.invariant.within;
    }
