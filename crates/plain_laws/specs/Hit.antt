-- What a whole hit is.
use Rattle.std.specs.Prelude.{◌≡◌, ℕ, List, Some}
use Rattle.store_key.specs.Key.{key_of}
use Rattle.store_key.specs.Anchor.{anchor_of}
use Rattle.plain_model.specs.declared.entry.Life.TheVariants.{Whole}
use Rattle.plain_model.specs.declared.entry.Entry.{Entry}
use Rattle.plain_model.specs.declared.store.Setting.{Setting}
use Rattle.plain_model.specs.declared.store.Plain.{Plain}
use Rattle.plain_model.specs.Store.{place_at, entry_at}

-- the entry at the URL's anchor is whole, and has this URL, this version and these bytes
pub record IsHit (s : Setting) (p : Plain) (url : List ℕ) (version : ℕ) (bytes : List ℕ) : Type 0 where
  pub entry : Entry
  pub there : entry_at p (anchor_of (key_of url) s.anchors) ≡ Some entry
  pub whole : entry.life ≡ Whole
  pub has_url : entry.url ≡ url
  pub is_version : version ≡ (place_at p (anchor_of (key_of url) s.anchors)).version
  pub body : bytes ≡ entry.body
