use Rattle.std.proofs.Common.{ℕ, ◌+◌, ◌*◌, ◌/◌, List, ap, ◌∙◌}
use Rattle.store_key.specs.Key.{key_of}
use Rattle.store_key.specs.Anchor.{anchor_of}
use Rattle.workload.specs.Urls.{home_of}
use Rattle.workload.proofs.urls.home_of.Goals as goal

pub returns : goal.returns
unfolding home_of
returns c =
    ap (λ (a : ℕ). 1 + a / 16)
    (c.anchor_of-anchor.ensures.value ∙ ap (λ (k : List ℕ). anchor_of k (16 * c.args.workers)) (c.key_of.ensures ∙ ap key_of (c.as_slice.ensures ∙ c.in_ok-url.ensures)))
