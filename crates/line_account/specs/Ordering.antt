-- In which order epochs, versions and bytes come.
use Rattle.std.specs.Prelude.{List, ◌<◌, ◌≤◌, ℕ}
use Rattle.lock_word.specs.Words.{version_of}
use Rattle.core_model.specs.Anchors.{opening_epoch}
use Rattle.line_account.specs.Answers.{Run, bytes_behind, given_with}
use Rattle.line_account.specs.Closing.{BegunIn, LineIn, Worker}
use Rattle.line_account.specs.Crews.{KnewOf}
use Rattle.line_account.specs.Deeds.{Begins}
use Rattle.line_account.specs.Lines.{IsAt, Served, given}
use Rattle.line_account.specs.Order.{CountsAt, NotBelow}
use Rattle.line_account.specs.Parts.{AddsTo, GivesOf, PrintsPart}
use Rattle.line_account.specs.ScriptOrder.{◌then◌}

module _ {X : Type 0} (r : Run X) (crew : List Worker) where
  pub record AreInOrder : Type 0 where
    -- What a worker prints at an anchor is not below what the anchor had at the opening,
    pub opening : (a : ℕ) → a < r.setting.anchors → (p : LineIn crew (λ before t. IsAt r.setting.anchors before t a))
        → NotBelow (opening_epoch r.setting a) p.served.answer
    -- nor what a line counts as there of which the worker knew.
    pub known : (a e : ℕ) (s : Served) (earlier : List Served) → (p : LineIn crew (λ before t. IsAt r.setting.anchors before t a))
        → KnewOf crew p.earlier s earlier → CountsAt r.setting.anchors earlier s a e → NotBelow e p.served.answer
    -- A version that a line began is later than what such a line counts as, at whatever anchor,
    pub begun : (a b x e : ℕ) (s : Served) (earlier : List Served) → (p : BegunIn r crew a x)
        → KnewOf crew p.earlier s earlier → CountsAt r.setting.anchors earlier s b e → version_of e < x
    -- and than each version that such a line began, also where its answer prints none.
    pub draws : (a b x y : ℕ) (s : Served) (earlier : List Served) → (p : BegunIn r crew a x)
        → KnewOf crew p.earlier s earlier → Begins r.setting.anchors s b y → y < x

  -- Of a run that tells of bytes. The bytes that the tab of a PART was given since it was opened, or a `get` in its own line, are no fewer
  pub record AreNotShort : Type 0 where
    -- than those in the slots which are published after an ADDED of the version of which the worker knew,
    pub added : (x slots : ℕ) (url : List ℕ) (s : Served) (earlier : List Served) → (p : LineIn crew (λ before t. PrintsPart t x))
        → KnewOf crew p.earlier s earlier → AddsTo r earlier s x url slots
        → bytes_behind r.room url slots ≤ given_with p.earlier p.served
    -- nor than those that the `more` lines of one tab gave of the version, up to one of which the worker knew.
    pub gave : (x tab : ℕ) (s : Served) (earlier : List Served) → (p : LineIn crew (λ before t. PrintsPart t x))
        → KnewOf crew p.earlier s earlier → GivesOf earlier s tab x
        → given tab (earlier then s) ≤ given_with p.earlier p.served
