-- The entry that stands at an anchor of a store that was closed: in the cells as they are, and in what a crash leaves of them.
use Rattle.std.specs.Prelude.{◌<◌, ◌≡◌, ◌≤◌, ◌⊎◌, ℕ, List, length, map}
use Rattle.lock_word.specs.Words.{epoch_of, version_of}
use Rattle.rock_disk.specs.Cell.{CellState}
use Rattle.rock_disk.specs.Crash.{IsCrashImage}
use Rattle.rebuild_model.specs.Entry.{Entry}
use Rattle.rebuild_model.specs.Rebuilt.{IsWinner}
use Rattle.core_model.specs.declared.moves.Side.TheVariants.{Offer}
use Rattle.core_model.specs.declared.view.LoggedPiece.{LoggedPiece}
use Rattle.core_model.specs.State.{State, chain_of, side_word, word}
use Rattle.core_log.specs.Logged.{IsDurable}
use Rattle.store_rule.specs.Ground.{Ground, url_of}
use Rattle.crashed_stores.specs.Left.{offers_in}

-- the offer that stands beside the anchor
abbrev pub offer_at : Ground (List ℕ) → State (List ℕ) → ℕ → ℕ
offer_at g s a = side_word g.setting s Offer a

-- an entry is the whole response of the offer
pub record IsResponseOf (g : Ground (List ℕ)) (offer : ℕ) (e : Entry) : Type 0 where
  pub url : e.url ≡ url_of g offer
  pub body : e.body ≡ (offers_in g).body offer

-- The entry has the slots and the version that stand at the anchor. Where its offer is a slot's number, it is the entry that a rebuild of the
-- file of the opening keeps there, and else the whole response of the offer.
pub record IsEntryAt (slot anchors : ℕ) (g : Ground (List ℕ)) (file : List (List ℕ)) (s : State (List ℕ)) (a : ℕ) (e : Entry) : Type 0 where
  pub chain_is : e.chain ≡ (chain_of s a).slots
  pub version_is : e.version ≡ version_of (epoch_of (word s a))
  pub old : offer_at g s a < g.setting.slots → IsWinner slot file anchors a e
  pub new : g.setting.slots ≤ offer_at g s a → IsResponseOf g (offer_at g s a) e

-- It is one of the opening, or each piece that is published at the anchor was logged as durable.
abbrev pub IsLasting : Ground (List ℕ) → State (List ℕ) → List LoggedPiece → ℕ → Type 0
IsLasting g s log a = (offer_at g s a < g.setting.slots) ⊎ ((place : ℕ) → place < length (chain_of s a).slots → IsDurable s log a place)

-- These cells, as they are, have the entry that stands at the anchor, and a rebuild keeps it there. Where it is lasting, so it is in all that a
-- crash may leave of them.
pub record HaveEntry (slot anchors : ℕ) (g : Ground (List ℕ)) (file : List (List ℕ)) (s : State (List ℕ)) (log : List LoggedPiece) (cells : List CellState) (a : ℕ) : Type 0 where
  pub entry : Entry
  pub is : IsEntryAt slot anchors g file s a entry
  pub now : IsWinner slot (map (λ c. c.now) cells) anchors a entry
  pub left : (images : List (List ℕ)) → IsCrashImage cells images → IsLasting g s log a → IsWinner slot images anchors a entry
