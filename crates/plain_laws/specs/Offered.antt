-- Whose an entry is.
use Rattle.std.specs.Prelude.{◌≡◌, ◌⊎◌, ℕ, ◌+◌, List, Contains, Some}
use Rattle.store_key.specs.Key.{key_of}
use Rattle.store_key.specs.Anchor.{anchor_of}
use Rattle.rebuild_model.specs.Entry.{Entry as FileEntry}
use Rattle.rebuild_model.specs.Rebuilt.{IsWinner}
use Rattle.script_text.specs.Requests.{OffersBody}
use Rattle.script_text.specs.declared.body.Body.{Body}
use Rattle.script_text.specs.declared.line.Line.{Line}
use Rattle.plain_model.specs.declared.entry.Entry.{Entry}
use Rattle.plain_model.specs.declared.store.Setting.{Setting}
use Rattle.plain_model.specs.declared.store.Plain.{Plain}
use Rattle.plain_model.specs.Store.{entry_at}
use Rattle.plain_model.specs.Serving.{bytes_of}
use Rattle.plain_laws.specs.Kept.{SameOffer}

-- the entry at this anchor is what this line offers
pub record IsOffered (s : Setting) (anchor : ℕ) (line : Line) (e : Entry) : Type 0 where
  pub made : Body
  pub offers : OffersBody line.request e.url made
  pub body : e.body ≡ bytes_of made
  pub key : e.key ≡ key_of e.url
  pub at : anchor ≡ anchor_of e.key s.anchors
  pub offer : e.offer ≡ s.slots + line.number

-- one of these lines offered it
pub record IsOfLines (s : Setting) (lines : List Line) (anchor : ℕ) (e : Entry) : Type 0 where
  pub line : Line
  pub among : Contains lines line
  pub offered : IsOffered s anchor line e

-- it stood in the store at that anchor before
pub record IsOfStore (p : Plain) (anchor : ℕ) (e : Entry) : Type 0 where
  pub old : Entry
  pub there : entry_at p anchor ≡ Some old
  pub same : SameOffer old e

abbrev pub HasOrigin : Setting → List Line → Plain → ℕ → Entry → Type 0
HasOrigin s lines p anchor e = IsOfLines s lines anchor e ⊎ IsOfStore p anchor e

-- a rebuild keeps this entry of the file at that anchor
pub record IsOfFile (slot : ℕ) (images : List (List ℕ)) (anchors anchor : ℕ) (e : Entry) : Type 0 where
  pub file : FileEntry
  pub winner : IsWinner slot images anchors anchor file
  pub url : e.url ≡ file.url
  pub key : e.key ≡ file.key
  pub body : e.body ≡ file.body
  pub offer : e.offer ≡ file.first
