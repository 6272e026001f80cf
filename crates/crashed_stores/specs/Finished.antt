-- An entry that a call finished as durable, and what a crash leaves of it later.
use Rattle.std.specs.Prelude.{◌≡◌, ℕ, Contains, List}
use Rattle.rebuild_model.specs.Entry.{Entry}
use Rattle.rebuild_model.specs.Rebuilt.{IsWinner}
use Rattle.core_model.specs.declared.view.Sight.{Sight}
use Rattle.core_model.specs.declared.view.View.{View}
use Rattle.core_model.specs.State.{State}
use Rattle.core_log.specs.Seen.{IsSeen}
use Rattle.rock_writer.specs.Entries.{Entry as Written, body_in, url_in}
use Rattle.store_rule.specs.Ground.{Ground}

-- What a pass had seen, with this view, the passes and notes of a state have seen together. So it is in each state from then on, since
-- nothing that was seen is forgotten.
abbrev pub AreSeen : {X : Type 0} → State X → View X → Type 0
AreSeen s v = (x : Sight) → Contains v.seen x → IsSeen s.views x

-- a rebuild of these images keeps the entry at its anchor, with its version, its URL and its whole body
pub record IsFoundIn (slot anchors : ℕ) (g : Ground (List ℕ)) (e : Written) (images : List (List ℕ)) : Type 0 where
  pub found : Entry
  pub won : IsWinner slot images anchors e.anchor found
  pub version_is : found.version ≡ e.version
  pub url_is : found.url ≡ url_in g e
  pub body_is : found.body ≡ body_in g e
