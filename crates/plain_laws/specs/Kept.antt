-- What stays the same while nothing is begun.
use Rattle.std.specs.Prelude.{◌≡◌, ℕ, List, length, Option, Some, None}
use Rattle.plain_model.specs.declared.entry.Entry.{Entry}
use Rattle.plain_model.specs.declared.entry.Place.{Place}
use Rattle.plain_model.specs.declared.store.Plain.{Plain}
use Rattle.store_key.specs.Key.{key_of}
use Rattle.store_key.specs.Anchor.{anchor_of}
use Rattle.plain_model.specs.declared.store.Setting.{Setting}
use Rattle.plain_model.specs.Store.{place_at}
use Rattle.plain_model.specs.Writing.{taken_by, entry_of}

-- the second entry is the first one, further on in its life
pub record SameOffer (old new : Entry) : Type 0 where
  pub url : new.url ≡ old.url
  pub key : new.key ≡ old.key
  pub body : new.body ≡ old.body
  pub offer : new.offer ≡ old.offer

-- an entry is left as it was offered, or is gone
abbrev pub IsLeft : Option Entry → Option Entry → Type 0
IsLeft old None = Unit {0}
IsLeft None (Some new) = ⊥
IsLeft (Some old) (Some new) = SameOffer old new

pub record IsAs (old new : Place) : Type 0 where
  pub version : new.version ≡ old.version
  pub entry : IsLeft old.entry new.entry

-- no version was given out, and no entry came
pub record Keeps (p q : Plain) : Type 0 where
  pub counter : q.counter ≡ p.counter
  pub anchors : length q.places ≡ length p.places
  pub places : (anchor : ℕ) → IsAs (place_at p anchor) (place_at q anchor)

-- one version was given out, to what is offered here, and nothing else came
abbrev pub Begins : Setting → (tab : ℕ) → (url body : List ℕ) → (offer : ℕ) → Plain → Plain → Type 0
Begins s tab url body offer p q = Keeps (taken_by tab (anchor_of (key_of url) s.anchors) (entry_of url body offer) p) q
