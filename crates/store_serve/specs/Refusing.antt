-- What a writer drew and did where its entry was not begun, or not stored.
use Rattle.std.specs.Prelude.{Contains, None, Option, Some, ◌+◌, ◌≤◌, ◌⊎◌, ℕ}
use Rattle.lock_word.specs.Words.{version_limit}
use Rattle.core_model.specs.declared.view.Kind.TheVariants.{Counted, Drew}
use Rattle.core_model.specs.declared.view.View.{View}
use Rattle.store_rule.specs.Ground.{Ground}
use Rattle.rock_writer.specs.declared.fault.BeginFault.{BeginFault}
use Rattle.rock_writer.specs.declared.fault.BeginFault.TheVariants.{Busy, LongUrl, Spent}
use Rattle.store_serve.specs.declared.storing.PutFault.{PutFault}
use Rattle.store_serve.specs.declared.storing.PutFault.TheVariants.{Begin, Write}
use Rattle.store_serve.specs.Acting.{Acted}
use Rattle.store_serve.specs.Deeds.{Naming, NoDeed, OfPuttingInVain}

module _ {X : Type 0} (v w : View X) where
  -- the counter was looked at, and had come so far
  pub record CountedAll (versions : ℕ) : Type 0 where
    pub limit : version_limit ≤ versions
    pub acted : Acted None NoDeed v w
    pub found : Contains w.trail record { kind = Counted; at = 0; found = versions }

  -- it had come so far when a version was drawn, which is of no use
  pub record DrewInVain (versions : ℕ) : Type 0 where
    pub limit : version_limit ≤ versions
    pub acted : Acted (Some (versions + 1)) NoDeed v w
    pub found : Contains w.trail record { kind = Drew; at = 0; found = versions }

  -- Where no entry was begun nothing was done. By a URL that is too long nothing was drawn, and by an anchor that is in use a version may
  -- have been.
  abbrev pub NotBegunBy : BeginFault → Type 0
  NotBegunBy LongUrl = Acted None NoDeed v w
  NotBegunBy (Busy looked found) = (drew : Option ℕ) × Acted drew NoDeed v w
  NotBegunBy (Spent versions) = CountedAll versions ⊎ DrewInVain versions

  -- A response was not stored: its entry was not begun; or it was, of some version, and was given up.
  abbrev pub NotStoredBy : Ground X → (name : ℕ → Naming) → PutFault → Type 0
  NotStoredBy g name (Begin why) = NotBegunBy why
  NotStoredBy g name (Write why) = (version : ℕ) × Acted (Some version) (OfPuttingInVain g (name version) w.seen) v w
