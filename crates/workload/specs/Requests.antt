-- What a request asks for, by the three numbers that are drawn for it.
use Rattle.std.specs.Prelude.{◌≡◌, ℕ, ◌≤◌, ◌%◌, ◌==◌, nat_lt, List, length, slice_index, Some, if◌then◌else◌}
use Rattle.store_key.specs.Url.{IsUrl}
use Rattle.script_text.specs.declared.body.Body.{Body}
use Rattle.script_text.specs.declared.body.Body.TheVariants.{Made}
use Rattle.script_text.specs.declared.request.Request.{Request}
use Rattle.script_text.specs.declared.request.Request.TheVariants.{Get, Put, Save, Purge}
use Rattle.script_text.specs.Requests.{url_in, offered_size}
use Rattle.workload.specs.Urls.{url_of}

-- kinds 0 to 3 read, 4 and 5 store, 6 stores for good, and 7 purges
abbrev pub asked : (kind : ℕ) → List ℕ → Body → Request
asked kind url body =
    if nat_lt kind 4 then Get url else if nat_lt kind 6 then Put url body else if kind == 6 then Save url body else Purge url

-- a body of at most 1,300 bytes
abbrev pub body_of : ℕ → Body
body_of drawn = Made (drawn % 1301) (drawn % 26)

-- the first number tells which of the URLs, the second the kind, and the third the body
unfoldable pub request_of : (urls : List ℕ) (first second third : ℕ) → Request
request_of urls first second third = asked (second % 8) (url_of (slice_index urls (first % length urls))) (body_of third)

-- the request gets, stores or purges a response under a URL
abbrev pub NamesUrl : Request → Type 0
NamesUrl (Get url) = IsUrl url
NamesUrl (Put url body) = IsUrl url
NamesUrl (Save url body) = IsUrl url
NamesUrl (Purge url) = IsUrl url
NamesUrl _ = ⊥

-- the request's URL and the body that it offers are small
pub record IsSmall (request : Request) : Type 0 where
  -- A URL that it names has at most 17 bytes,
  pub url : (url : List ℕ) → url_in request ≡ Some url → length url ≤ 17
  -- and a body that it offers at most 1,300.
  pub body : offered_size request ≤ 1300
