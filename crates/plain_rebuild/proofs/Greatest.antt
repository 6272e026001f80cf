-- The greatest version, sought from the front.
use Rattle.std.proofs.Common.{◌≡◌, ℕ, ◌<◌, ◌≤◌, List, length, arith}
use Rattle.rebuild_model.specs.Image.{header_at, IsSaneAt, IsGreatest}

pub record GreatestBefore (slot : ℕ) (images : List (List ℕ)) (bound greatest : ℕ) : Type 0 where
  pub above : (s : ℕ) → s < bound → IsSaneAt slot images s → (header_at images s).version ≤ greatest
  pub there : 0 < greatest → (s : ℕ) × IsSaneAt slot images s × ((header_at images s).version ≡ greatest)
  pub within : bound ≤ length images

pub of_all : (slot : ℕ) (images : List (List ℕ)) (bound greatest : ℕ) → GreatestBefore slot images bound greatest → length images ≤ bound → IsGreatest slot images greatest
of_all slot images bound greatest g all = record {
  above = λ s sane. g.above s (omega (arith, all, sane.within)) sane;
  there = g.there;
}
