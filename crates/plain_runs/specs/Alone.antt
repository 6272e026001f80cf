-- A worker that is alone at the anchors that its private lines name.
use Rattle.std.specs.Prelude.{Contains, List, not, true, ◌≡◌, ◌⊎◌, ℕ}
use Rattle.script_text.specs.Shapes.{Shape, shape_of}
use Rattle.script_text.specs.declared.line.Line.{Line}
use Rattle.script_text.specs.declared.request.Request.{Request}
use Rattle.plain_model.specs.declared.store.Setting.{Setting}
use Rattle.plain_model.specs.Serving.{lines_for}
use Rattle.plain_laws.specs.Private.{OpenOnly, is_private, is_private_anchor, names_only}
use Rattle.store_rule.specs.Ground.{Ground, fits, left_to}
use Rattle.plain_runs.specs.Words.{setting_of}

-- a request at a mark
abbrev pub IsAtMark : Request → Type 0
IsAtMark request = of_shape (shape_of request)
  where
    of_shape : Shape → Type 0
    of_shape (Shape.AtMark mark) = Unit {0}
    of_shape shape = ⊥

-- Each tab of the worker is opened at private anchors alone, or at others alone. `TabsApart` of `plain_laws` says so too, and that the tabs
-- are those of a script.
abbrev pub AreTabsApart : Setting → List Line → (worker : ℕ) → Type 0
AreTabsApart s script worker = (tab : ℕ) → OpenOnly s (is_private_anchor s script worker) tab (lines_for worker script)
    ⊎ OpenOnly s (λ anchor. not (is_private_anchor s script worker anchor)) tab (lines_for worker script)

-- The store fits, and each private line of the worker names no anchor but those that are left to its pass. Its tabs are apart.
pub record IsAloneAtItsAnchors (g : Ground (List ℕ)) (script : List Line) (worker pass : ℕ) : Type 0 where
  pub fits_is : fits g ≡ true
  -- its other lines may name any
  pub lines : (line : Line) → Contains (lines_for worker script) line → is_private (setting_of g) script worker line ≡ true
      → names_only (setting_of g) (left_to g pass) line.request ≡ true
  pub tabs : AreTabsApart (setting_of g) script worker
