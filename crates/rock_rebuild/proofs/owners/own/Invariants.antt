use Rattle.std.proofs.Common.{◌≡◌, ℕ, ◌<◌, length, take, cond}
use Rattle.std.specs.Prelude.{slice_index}
use Rattle.rock_rebuild.proofs.Lists.{is_among}
use Rattle.rock_rebuild.proofs.owners.own.Given as goal

abbrev pub invariant-loop-s : goal.invariant-loop-s
invariant-loop-s l = (k : ℕ) → k < length l.initial.owner → slice_index l.owner k ≡ cond (is_among k (take l.s-index l.chain)) l.number (slice_index l.initial.owner k)
