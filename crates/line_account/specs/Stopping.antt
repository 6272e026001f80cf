-- The last answers on a tab that reads: END, HALTED and OTHERURL.
use Rattle.std.specs.Prelude.{Bool, List, None, [], cond, false, true, ◌&&◌, ◌==◌, ◌||◌, ◌≡◌, ◌≢◌, ℕ}
use Rattle.script_text.specs.declared.answer.Answer.{Answer}
use Rattle.script_text.specs.declared.answer.Answer.TheVariants as answer
use Rattle.script_text.specs.declared.request.Request.{Request}
use Rattle.script_text.specs.declared.request.Request.TheVariants.{More}
use Rattle.line_account.specs.Lines.{Served, opens, reading}
use Rattle.line_account.specs.ScriptOrder.{◌then◌}

abbrev pub is_end : Answer → Bool
is_end (answer.End bytes) = true
is_end _ = false

abbrev pub is_halted : Answer → Bool
is_halted (answer.Halted bytes) = true
is_halted _ = false

abbrev pub is_other_url : Answer → Bool
is_other_url answer.OtherUrl = true
is_other_url _ = false

-- the line read on the tab t, and was answered so
abbrev pub answers_more : (Answer → Bool) → ℕ → Request → Answer → Bool
answers_more so t (More u) a = (u == t) && so a
answers_more so t _ a = false

-- a line among these was, since the tab was opened
abbrev pub answered_more : (Answer → Bool) → ℕ → List Served → Bool
answered_more so t [] = false
answered_more so t (earlier then s) = cond (opens t s.asked.request s.answer) false
    (answers_more so t s.asked.request s.answer || answered_more so t earlier)

-- a line that reads on, on a tab that reads, behind one on it that was answered so
pub record ReadsBehind (so : Answer → Bool) (earlier : List Served) (s : Served) (tab : ℕ) : Type 0 where
  pub request : s.asked.request ≡ More tab
  pub reads : reading tab earlier ≢ None
  pub behind : answered_more so tab earlier ≡ true
