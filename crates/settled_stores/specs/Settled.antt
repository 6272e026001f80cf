-- What is left where nobody uses a store.
use Rattle.std.specs.Prelude.{◌+◌, ◌<◌, ◌≡◌, ◌≢◌, ◌⊎◌, Contains, sum_by, ℕ}
use Rattle.lock_word.specs.Words.{epoch_of, stage_of}
use Rattle.core_model.specs.declared.spot.Spot.TheVariants.{Free}
use Rattle.core_model.specs.Chains.{no_chain}
use Rattle.core_model.specs.Holders.{IsFinished}
use Rattle.core_model.specs.Layout.{Setting}
use Rattle.core_model.specs.Spots.{IsIn, free_below, slots_chained}
use Rattle.core_model.specs.State.{State, chain_of, word}
use Rattle.closed_counts.specs.Counts.{slots_kept}

-- the slot is free: its bit in the map is 0, and it is in no chain
pub record IsGivenBack {X : Type 0} (k : Setting X) (s : State X) (slot : ℕ) : Type 0 where
  pub free : IsIn k s slot Free
  pub alone : (a : ℕ) → a < k.anchors → Contains (chain_of s a).slots slot → ⊥

-- the slot is in the chain of a closed anchor, and in no other; its bit in the map is not 0
pub record IsKept {X : Type 0} (k : Setting X) (s : State X) (slot : ℕ) : Type 0 where
  pub anchor : ℕ
  pub within : anchor < k.anchors
  pub closed : stage_of (epoch_of (word s anchor)) ≡ 3
  pub there : Contains (chain_of s anchor).slots slot
  pub only : (a : ℕ) → a < k.anchors → Contains (chain_of s a).slots slot → a ≡ anchor
  pub taken : IsIn k s slot Free → ⊥

-- Nobody is counted at an anchor, and nothing is left to do there. Each slot is free, or in the chain of one closed anchor, and both
-- together are all: all chains have no more slots than those of closed anchors. An anchor that is not closed has no chain.
pub record IsSettled {X : Type 0} (k : Setting X) (s : State X) : Type 0 where
  pub finished : (a : ℕ) → a < k.anchors → IsFinished (word s a)
  pub unchained : (a : ℕ) → a < k.anchors → stage_of (epoch_of (word s a)) ≢ 3 → chain_of s a ≡ no_chain
  pub slots : (slot : ℕ) → slot < k.slots → IsGivenBack k s slot ⊎ IsKept k s slot
  pub counted : free_below k s k.slots + sum_by slots_chained s.chains ≡ k.slots
  pub kept : slots_kept k s ≡ sum_by slots_chained s.chains
