use Rattle.std.proofs.Common.{length, ap, sym, subst, ◌∙◌}
use Rattle.rebuild_model.specs.Image.{IsGreatest}
use Rattle.rebuild_model.specs.Keeping.{AreWinners, AreOwners}
use Rattle.rebuild_model.proofs.Whole.{rebuilt}
use Rattle.plain_rebuild.proofs.keeping.rebuilt_of.Goals as goal

pub returns : goal.returns
returns c =
    let images = c.as_slice-images.ensures in
    rebuilt c.one_entry_at_a_slot.ensures c.args.file.now.slot c.args.file.now.slots c.args.anchors _ c.requires.some
    (subst (λ xs. AreWinners c.args.file.now.slot xs c.args.anchors c.args.anchors c.from_vec.result) images
    (subst (AreWinners c.args.file.now.slot c.as_slice-images.result.now c.args.anchors c.args.anchors) (sym c.from_vec.ensures) c.in_ok-winners.ensures))
    (ap length c.from_vec-2.ensures ∙ c.in_ok-owner.ensures.0 ∙ ap length images)
    (subst (AreOwners c.args.anchors c.from_vec.result) (sym c.from_vec-2.ensures)
    (subst (λ ws. AreOwners c.args.anchors ws c.in_ok-owner.owner.items) (c.deref.ensures.value ∙ sym c.from_vec.ensures) c.in_ok-owner.ensures.1))
    (subst (λ xs. IsGreatest c.args.file.now.slot xs c.greatest_of.result) images c.greatest_of.ensures)
