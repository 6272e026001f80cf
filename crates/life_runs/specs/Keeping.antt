-- Lives in which each piece that is logged keeps to its offer, and has its key.
use Rattle.std.specs.Prelude.{◌≡◌}
use Rattle.core_model.specs.declared.view.LoggedPiece.{LoggedPiece}
use Rattle.core_model.specs.declared.view.Sight.TheVariants as sight
use Rattle.core_log.specs.Seen.{IsSeen}
use Rattle.crash_entries.specs.Parts.{Offers}
use Rattle.core_lives.specs.Left.{IsFaithful}
use Rattle.core_lives.specs.Lived.{Lived}
use Rattle.core_runs.specs.Responses.{key0_of, key1_of}

-- the piece has the key of its offer's URL
pub record HasKeyOf (o : Offers) (l : LoggedPiece) : Type 0 where
  pub key0 : l.key0 ≡ key0_of (o.url l.piece.offer)
  pub key1 : l.key1 ≡ key1_of (o.url l.piece.offer)

-- Each piece that was logged since the last opening keeps to its offer, and has its key.
pub record KeepsOffers (o : Offers) (l : Lived) : Type 0 where
  pub faithful : IsFaithful l.file o l.core
  pub keyed : (p : LoggedPiece) → IsSeen l.core.views (sight.Logged p) → HasKeyOf o p
