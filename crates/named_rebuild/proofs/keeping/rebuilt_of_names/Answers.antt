use Rattle.std.proofs.Common.{List, ap, length, sym, subst, ◌∙◌}
use Rattle.rebuild_model.specs.declared.found.Found.{Found}
use Rattle.rebuild_model.specs.Keeping.{AreOwners}
use Rattle.named_rebuild.specs.Keeping.{AreBest}
use Rattle.named_rebuild.proofs.Gathering.{kept_so, rebuilt}
use Rattle.named_rebuild.proofs.keeping.rebuilt_of_names.Goals as goal

pub returns-clause-rebuilt : goal.returns-clause-rebuilt
returns-clause-rebuilt c = rebuilt c.args.file.now c.args.contents.now c.args.anchors c.chains_are_apart.ensures.entries c.requires.some _
    (subst (AreBest c.args.file.now c.args.contents.now c.args.anchors c.args.anchors) (sym c.from_vec.ensures) c.in_ok-winners.ensures)
    (ap length c.from_vec-2.ensures ∙ c.in_ok-owner.ensures.0) c.requires.contents.many
    (subst (AreOwners c.args.anchors c.from_vec.result) (sym c.from_vec-2.ensures)
    (subst (λ (ws : List Found). AreOwners c.args.anchors ws c.in_ok-owner.owner.items) (c.deref.ensures.value ∙ sym c.from_vec.ensures) c.in_ok-owner.ensures.1))
    c.greatest_of.ensures

pub returns-clause-kept : goal.returns-clause-kept
returns-clause-kept c = kept_so c.args.file.now c.args.contents.now c.args.anchors _ (returns-clause-rebuilt c) c.requires.contents
