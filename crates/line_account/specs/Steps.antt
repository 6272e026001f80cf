-- What steps add to a view, and lines that ask nothing of the store.
use Rattle.std.specs.Prelude.{List, None, ◌++◌, ◌≡◌, ◌⊎◌, ℕ}
use Rattle.script_text.specs.declared.answer.Answer.{Answer}
use Rattle.script_text.specs.declared.answer.Answer.TheVariants as answer
use Rattle.script_text.specs.declared.body.Body.{Body}
use Rattle.script_text.specs.declared.request.Request.{Request}
use Rattle.script_text.specs.declared.request.Request.TheVariants.{Await, Mark}
use Rattle.core_model.specs.declared.view.Deed.{Deed}
use Rattle.core_model.specs.declared.view.Item.{Item}
use Rattle.core_model.specs.declared.view.Sight.{Sight}
use Rattle.core_model.specs.declared.view.View.{View}
use Rattle.core_model.specs.Trails.{drawn, draws}
use Rattle.line_account.specs.Lines.{Fits, Offers, Served}
use Rattle.line_account.specs.Answers.{Run}
use Rattle.line_account.specs.Accounts.{IsOffered}
use Rattle.core_model.specs.Knowing.{KnowsAll}

-- the view w is v after steps of the pass that added these, all with the newest first
pub record IsAfter {X : Type 0} (v : View X) (items : List Item) (sights : List Sight) (done : List Deed) (meetings : List ℕ) (w : View X)
    : Type 0 where
  pub pass : w.pass ≡ v.pass
  pub trail : w.trail ≡ items ++ v.trail
  pub seen : w.seen ≡ sights ++ v.seen
  pub deeds : w.deeds ≡ done ++ v.deeds
  pub met : w.met ≡ meetings ++ v.met

-- nothing was drawn and nothing done
pub record IsIdle {X : Type 0} (v w : View X) : Type 0 where
  pub keeps : KnowsAll v w
  pub drawn : (x : ℕ) → drawn x w.trail ≡ drawn x v.trail
  pub draws : draws w.trail ≡ draws v.trail
  pub deeds : w.deeds ≡ v.deeds

-- the answers to requests at marks
abbrev pub AtMark : Request → Answer → Type 0
AtMark (Mark mark) a = a ≡ answer.Marked
AtMark (Await mark) a = (a ≡ answer.Met) ⊎ (a ≡ answer.Unmet)
AtMark _ a = ⊥

-- a line that set or met a mark, or did not meet it
pub record IsMarkLine (s : Served) : Type 0 where
  pub at : AtMark s.asked.request s.answer
  pub drew : s.drew ≡ None

-- a line whose tab was not as it needed it
pub record IsTabLine {X : Type 0} (r : Run X) (earlier : List Served) (s : Served) : Type 0 where
  pub answered : s.answer ≡ answer.Tab
  pub drew : s.drew ≡ None
  pub unfit : ¬ Fits earlier s.asked.request
  pub offered : (url : List ℕ) (body : Body) → Offers s.asked.request url body → IsOffered r s url body
