-- The responses that a run may give: those of the file, and those that its script offers.
use Rattle.std.specs.Prelude.{Contains, List, take, length, ◌≡◌, ◌≢◌, ◌⊎◌, ℕ}
use Rattle.rebuild_model.specs.Entry.{Entry, IsComplete, IsStored}
use Rattle.store_key.specs.Key.{key_of}
use Rattle.plain_model.specs.Serving.{bytes_of}
use Rattle.script_text.specs.declared.answer.Answer.{Answer}
use Rattle.script_text.specs.declared.body.Body.{Body}
use Rattle.script_text.specs.declared.line.Line.{Line}
use Rattle.line_account.specs.Answers.{IsWhole}
use Rattle.line_account.specs.Lines.{Offers}

-- a line of the script offers this body under this URL
pub record IsOffered (script : List Line) (url body : List ℕ) : Type 0 where
  -- a line
  pub line : Line
  -- of the script
  pub among : Contains script line
  -- with a body as the script writes it
  pub made : Body
  -- that it offers under the URL
  pub offers : Offers line.request url made
  -- and these are its bytes
  pub body_is : body ≡ bytes_of made

module _ (slot : ℕ) (images : List (List ℕ)) (script : List Line) where
  -- A stored response: a complete entry of a file with these images has the URL and the body, or a line of the script offers them.
  abbrev pub IsResponse : (url body : List ℕ) → Type 0
  IsResponse url body = IsStored slot images url body ⊎ IsOffered script url body

  -- the bytes are the first ones of a response with this URL, and all of it where the answer says so
  pub record IsFrontOf (answer : Answer) (url bytes : List ℕ) : Type 0 where
    -- a body
    pub body : List ℕ
    -- that is a response under the URL
    pub response : IsResponse url body
    -- the bytes are the first ones of it
    pub first_ones : bytes ≡ take (length bytes) body
    -- and all of it at HIT and END
    pub whole : IsWhole answer → bytes ≡ body

  -- a complete entry of the file has this URL, or a line of the script offers a body under it
  abbrev pub IsUsed : List ℕ → Type 0
  IsUsed url = ((e : Entry) × IsComplete slot images e × (e.url ≡ url)) ⊎ ((body : List ℕ) × IsOffered script url body)

  -- another URL that is used has the same key
  pub record HasTwin (url : List ℕ) : Type 0 where
    -- a URL
    pub other : List ℕ
    -- that the file or the script uses
    pub used : IsUsed other
    -- with the same key
    pub same_key : key_of other ≡ key_of url
    -- but another one
    pub differs : other ≢ url
