-- Lines of one worker alone, as examples.
use Rattle.std.specs.Prelude.{List, None, Some, [], false, length, ◌+◌, ◌<◌, ◌∷◌, ◌≡◌, ◌≤◌, ℕ}
use Rattle.store_key.specs.Anchor.{anchor_of, back_half, front_half}
use Rattle.store_key.specs.Key.{key_of}
use Rattle.script_text.specs.declared.answer.Answer.TheVariants as answer
use Rattle.script_text.specs.declared.body.Body.{Body}
use Rattle.script_text.specs.declared.body.Body.TheVariants.{Made}
use Rattle.script_text.specs.declared.request.Request.TheVariants.{Get, Put}
use Rattle.core_model.specs.declared.moves.Side.TheVariants.{Key0, Key1, Offer}
use Rattle.core_model.specs.declared.view.Kind.TheVariants.{Changed, Drew, Entered, Raised}
use Rattle.core_model.specs.declared.view.Sight.TheVariants.{Named, Published, Stood}
use Rattle.core_model.specs.declared.view.View.{View}
use Rattle.core_model.specs.Anchors.{opening_counter}
use Rattle.core_model.specs.Opening.{new_view, sights_below}
use Rattle.line_account.specs.Lines.{Served}
use Rattle.line_account.specs.Answers.{Run}
use Rattle.line_account.specs.Closing.{Worker}
use Rattle.lock_word.specs.declared.stage.Stage.TheVariants.{Closed, Taken}
use Rattle.line_account.specs.EpochNames.{undoomed_at}

-- a worker alone
abbrev pub alone : Worker → List Worker
alone w = w ∷ []

-- the body of no bytes
abbrev pub nothing : Body
nothing = Made 0 0

-- `1 put URL -`, the first line, which printed STORED with this version
abbrev pub stored_line : List ℕ → ℕ → Served
stored_line url version = record {
  asked = record { worker = 1; number = 1; request = Put url nothing };
  answer = answer.Stored version;
  drew = Some version;
  opened = 0;
  looked = 0;
}

-- `1 get URL`, the second line, which printed HIT with this version and no bytes
abbrev pub hit_line : List ℕ → ℕ → Served
hit_line url version = record {
  asked = record { worker = 1; number = 2; request = Get url };
  answer = answer.Hit version [];
  drew = None;
  opened = undoomed_at Closed version;
  looked = 0;
}

-- the first version that is drawn
abbrev pub next_version : {X : Type 0} → Run X → ℕ
next_version r = opening_counter r.setting + 1

abbrev pub home : {X : Type 0} → Run X → List ℕ → ℕ
home r url = anchor_of (key_of url) r.setting.anchors

-- what the worker knows after these lines: it drew the version, took the anchor, stored the names, published one slot, closed the entry,
-- and then entered it
abbrev pub view_after : {X : Type 0} → Run X → List ℕ → View X
view_after r url = record (new_view r.setting 0) {
  seen = Named (home r url) (next_version r) Offer (r.setting.slots + 1)
      ∷ Named (home r url) (next_version r) Key1 (back_half (key_of url))
      ∷ Named (home r url) (next_version r) Key0 (front_half (key_of url))
      ∷ Stood (home r url) (undoomed_at Closed (next_version r))
      ∷ Published (home r url) (next_version r) 1
      ∷ Stood (home r url) (undoomed_at Taken (next_version r))
      ∷ sights_below r.setting r.setting.anchors;
  trail = record { kind = Drew; at = 0; found = opening_counter r.setting } ∷ [];
  deeds = record { pass = 0; kind = Entered; anchor = home r url; epoch = undoomed_at Closed (next_version r); was_idle = false }
      ∷ record { pass = 0; kind = Raised; anchor = home r url; epoch = undoomed_at Closed (next_version r); was_idle = false }
      ∷ record { pass = 0; kind = Changed; anchor = home r url; epoch = undoomed_at Taken (next_version r); was_idle = false }
      ∷ [];
}

-- there is a slot, and the first line offers an empty body under this URL, which leaves room in one
pub record OffersNothing {X : Type 0} (r : Run X) (url : List ℕ) : Type 0 where
  pub some : 0 < r.setting.slots
  pub short : 32 + length url ≤ r.room
  pub url_is : r.url (r.setting.slots + 1) ≡ url
  pub body_is : r.body (r.setting.slots + 1) ≡ []
