-- The entries that lines stored, and those that `save` lines did.
use Rattle.std.specs.Prelude.{Contains, List, true, ◌+◌, ◌-◌, ◌≡◌, ℕ}
use mathlib.Core.Option.{some}
use lib.ListN.{get_elem?}
use Rattle.core_model.specs.declared.view.Sight.TheVariants.{Wiped}
use Rattle.core_model.specs.declared.view.View.{View}
use Rattle.script_text.specs.declared.answer.Answer.TheVariants as answer
use Rattle.script_text.specs.declared.body.Body.{Body}
use Rattle.script_text.specs.declared.line.Line.{Line}
use Rattle.script_text.specs.declared.request.Request.{Request}
use Rattle.script_text.specs.declared.request.Request.TheVariants.{Save}
use Rattle.plain_model.specs.Serving.{bytes_of}
use Rattle.line_account.specs.Lines.{Offers}
use Rattle.rock_writer.specs.declared.fault.Ended.TheVariants.{Stored}
use Rattle.rock_writer.specs.Entries.{Entry}
use Rattle.store_rule.specs.Ground.{Ground, anchor_for, url_of}
use Rattle.store_serve.specs.Storing.{put_as}
use Rattle.worker_pool.specs.Courses.{Stage}
use Rattle.worker_pool.specs.Running.{Account}
use Rattle.worker_shelf.specs.Shelves.{OnShelf}

-- the entry of the offer of the line with this number, as it was stored durably with this version
abbrev pub saved_as : Ground (List ℕ) → (number : ℕ) (url : List ℕ) (version : ℕ) → Entry
saved_as g number url version = put_as g (g.setting.slots + number) url true (Stored version)

abbrev pub IsSave : Request → Type 0
IsSave (Save url body) = Unit {0}
IsSave _ = ⊥

-- a pass has seen that a slot was wiped, for this version of the anchor
pub record HasWiped {X : Type 0} (v : View X) (a version : ℕ) : Type 0 where
  pub slot : ℕ
  pub seen : Contains v.seen (Wiped a version slot)

module _ {C O St : Type 0} (g : Ground (List ℕ)) (script : List Line) (accounts : List (Account (OnShelf C O St)))
    (a version offer : ℕ) where
  -- a worker served the line, and was answered STORED with the version
  pub record WasStored (line : Line) : Type 0 where
    pub w : ℕ
    pub account : Account (OnShelf C O St)
    pub at : get_elem? accounts w ≡ some account
    pub stage : Stage (OnShelf C O St)
    pub among : Contains account.stages stage
    pub line_is : stage.line ≡ line
    pub answered : stage.answer ≡ answer.Stored version

  -- The offer is that of a line of the script, which offers it under a URL of the anchor. If it is a `save`, it was answered STORED with
  -- the version.
  pub record IsOfLine : Type 0 where
    pub line : Line
    pub among : Contains script line
    pub offer_is : offer ≡ g.setting.slots + line.number
    pub url : List ℕ
    pub body : Body
    pub offers : Offers line.request url body
    pub url_is : url_of g offer ≡ url
    pub body_is : g.offers.body (offer - g.setting.slots) ≡ bytes_of body
    pub at : anchor_for g url ≡ a
    pub saved : IsSave line.request → WasStored line
