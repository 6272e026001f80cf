-- To which pass the lines of a script leave an anchor.
use Rattle.std.specs.Prelude.{◌-◌, ◌==◌, ◌∷◌, Bool, List, None, Option, Some, [], cond, false, ℕ}
use Rattle.std.specs.List.{filter, list_all}
use Rattle.std.specs.Option.{option_map_or}
use Rattle.script_text.specs.Requests.{url_in}
use Rattle.script_text.specs.declared.line.Line.{Line}
use Rattle.script_text.specs.declared.request.Request.{Request}
use Rattle.store_key.specs.Anchor.{anchor_of}
use Rattle.store_key.specs.Key.{key_of}

-- whether a request names a URL of this anchor, of so many
abbrev pub names_at : (anchors anchor : ℕ) → Request → Bool
names_at anchors anchor request = option_map_or (λ url. anchor_of (key_of url) anchors == anchor) (url_in request) false

-- The pass of the worker of whom all these lines are: workers are counted from 1, and their passes from 0. It is the first pass where there is no
-- line, and none where there are lines of several workers.
abbrev pub pass_of_all : List Line → Option ℕ
pass_of_all [] = Some 0
pass_of_all (line ∷ lines) = cond (list_all (λ other. other.worker == line.worker) lines) (Some (line.worker - 1)) None

-- The pass to which lines leave an anchor: that of the worker whose lines alone name a URL of it.
abbrev pub leaves_to : (anchors anchor : ℕ) → List Line → Option ℕ
leaves_to anchors anchor lines = pass_of_all (filter (λ line. names_at anchors anchor line.request) lines)
