use Rattle.std.proofs.Common.{◌≡◌, replicate}
use Rattle.core_model.specs.Chains.{no_chain}
use Rattle.core_change.proofs.opened.no_chains.Given as goal

abbrev pub invariant-loop-anchor : goal.invariant-loop-anchor
invariant-loop-anchor l = l.chains.items ≡ replicate l._anchor no_chain
