use Rattle.std.proofs.Common.{◌≡◌, ap, sym, ◌∙◌}
use Rattle.store_key.specs.Anchor.{anchor_of}
use Rattle.rebuild_model.specs.Image.{key_at}
use Rattle.rebuild_model.proofs.laws.winners_are_apart.Goals as goal

pub returns : goal.returns
returns c slot images anchors a b e f p q apart =
    c.chains_are_apart.ensures.entries slot images e f p.complete q.complete
    (λ same.
    let keys : e.key ≡ f.key = p.complete.key ∙ ap (key_at images) same ∙ sym q.complete.key in
    apart (sym p.at ∙ ap (λ k. anchor_of k anchors) keys ∙ q.at))
