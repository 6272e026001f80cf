use Rattle.std.proofs.Common.{rules, ◌≡◌, false, nat_eq, sym, subst, ◌∙◌}
use Rattle.std.specs.List.{list_any}
use Rattle.plain_rebuild.proofs.Owners.{sought_on, none_left}
use Rattle.named_rebuild.proofs.keeping.owner_of.Goals as goal

pub winners-preserved : goal.winners-preserved
winners-preserved c =
    let no : list_any (λ y. nat_eq y c.args.slot) c.in-Some.found.now.chain ≡ false =
    subst (λ xs. list_any (λ y. nat_eq y c.args.slot) xs ≡ false) c.as_slice.ensures (sym c.contains.ensures.value ∙ c.if-contains.false) in
    sought_on c.args.winners.now c.winners.left.now c.args.slot c.in-Some.found.now c.in-Some.rest.now c.winners.invariant (search rules) no

pub returns : goal.returns
returns c = none_left c.args.anchors c.args.winners.now c.winners.left.now c.args.slot c.winners.invariant c.in_default.ensures.cases
