use Rattle.std.proofs.Common.{rules, ◌≡◌, ◌<◌, ◌∷◌, ℕ, List, All, length, ap, sym, subst, ◌∙◌}
use Rattle.std.proofs.lemmas.List.{with_items_is}
use Rattle.std.proofs.lemmas.List.Elements.{All-head, All-rest}
use Rattle.rebuild_model.specs.declared.found.Found.{Found}
use Rattle.core_table.specs.Kept.{chained, AreWithin}
use Rattle.core_table.proofs.Placing.{length-chained, linked_on}
use Rattle.core_table.proofs.kept.link_words.Goals as goal

pub write_links-requires : goal.write_links-requires
write_links-requires c =
    let is : c.winners.left.now ≡ c.in-Some.found.now ∷ c.in-Some.rest.now = search rules in
    let within = All-head (λ (f : Found). All (λ s. s < c.args.slots) f.chain) c.in-Some.found.now c.in-Some.rest.now (subst (λ (fs : List Found). AreWithin fs c.args.slots) is c.winners.invariant.within) in
    let long : length c.deref_mut.result.now ≡ c.args.slots = ap length c.deref_mut.ensures.value ∙ c.winners.invariant.long in
    subst (λ (n : ℕ). All (λ s. s < n) c.as_slice.result.now) (sym long) (subst (All (λ s. s < c.args.slots)) (sym c.as_slice.ensures) within)

pub winners-preserved : goal.winners-preserved
winners-preserved c =
    let is : c.winners.left.now ≡ c.in-Some.found.now ∷ c.in-Some.rest.now = search rules in
    let grows =
    with_items_is c.winners.words c.write_links.new.links (c.write_links.auto.links ∙ c.deref_mut.ensures.len)
    ∙ c.write_links.ensures ∙ ap (λ (ws : List ℕ). chained ws c.as_slice.result.now) c.deref_mut.ensures.value ∙ ap (chained c.winners.words.items) c.as_slice.ensures
    in
    record {
      same = linked_on c.winners.words.items _ c.winners.left.now c.in-Some.rest.now c.in-Some.found.now _ is grows c.winners.invariant.same;
      long = ap length grows ∙ length-chained c.winners.words.items c.in-Some.found.now.chain ∙ c.winners.invariant.long;
      within = All-rest (λ (f : Found). All (λ s. s < c.args.slots) f.chain) c.in-Some.found.now c.in-Some.rest.now c.winners.left.now is c.winners.invariant.within;
    }
