-- Lines of one worker that keep all rules, as an example.
use Rattle.std.specs.Prelude.{List, [], ◌<◌, ◌∷◌, ◌≤◌, ℕ}
use Rattle.lock_word.specs.Words.{version_of}
use Rattle.script_text.specs.declared.line.Line.{Line}
use Rattle.core_model.specs.Anchors.{opening_counter, opening_epoch}
use Rattle.line_account.specs.Alone.{OffersNothing, hit_line, next_version, stored_line}
use Rattle.line_account.specs.Answers.{Run}
use Rattle.line_account.specs.Lines.{Served}
use Rattle.line_account.specs.ScriptOrder.{◌then◌}

-- `put` and `get` of a URL, answered STORED and HIT with the next version
abbrev pub put_line : {X : Type 0} → Run X → List ℕ → Served
put_line r url = stored_line url (next_version r)

abbrev pub get_line : {X : Type 0} → Run X → List ℕ → Served
get_line r url = hit_line url (next_version r)

abbrev pub put_and_get : {X : Type 0} → Run X → List ℕ → List Served
put_and_get r url = [] then put_line r url then get_line r url

-- their script
abbrev pub put_and_get_script : {X : Type 0} → Run X → List ℕ → List Line
put_and_get_script r url = (put_line r url).asked ∷ (get_line r url).asked ∷ []

-- the URL leaves room in a slot, and no anchor had a version above the counter of the opening
pub record MayBegin {X : Type 0} (r : Run X) (url : List ℕ) : Type 0 where
  -- there is a slot, the URL leaves room in it, and the first line offers an empty body under it
  pub offers : OffersNothing r url
  -- no anchor had a version above the counter
  pub drawn : (a : ℕ) → a < r.setting.anchors → version_of (opening_epoch r.setting a) ≤ opening_counter r.setting
