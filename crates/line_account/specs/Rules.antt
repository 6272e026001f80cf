-- All rules that the lines of the workers of a store keep.
use Rattle.std.specs.Prelude.{IsTrue, List}
use Rattle.script_text.specs.declared.line.Line.{Line}
use Rattle.line_account.specs.Answers.{Run}
use Rattle.line_account.specs.Closing.{Worker}
use Rattle.line_account.specs.Bodies.{HaveBodies, HaveKeys}
use Rattle.line_account.specs.Epochs.{EpochsHaveCauses}
use Rattle.line_account.specs.Ordering.{AreInOrder, AreNotShort}
use Rattle.line_account.specs.Refusals.{AnswersHaveCauses}
use Rattle.line_account.specs.Tabs.{TabsStay}
use Rattle.line_account.specs.Versions.{AreBegun}

-- Where a run does not tell of bytes, nothing is said of them.
pub record KeepsRules {X : Type 0} (r : Run X) (script : List Line) (crew : List Worker) : Type 0 where
  -- Each answer is one that its request may get, and each refusal has its cause.
  pub answers : AnswersHaveCauses r script crew
  -- What is given of a response is of the body that is stored under its URL.
  pub bodies : IsTrue r.tells → HaveBodies r crew
  -- A key that is printed, or under which an entry is found, is that of the entry with the version.
  pub keys : HaveKeys r crew
  -- Each version is begun by one line, which offers a body.
  pub versions : AreBegun r script crew
  -- Each epoch has a version that was there, and is at a stage, or doomed, because of a line.
  pub epochs : EpochsHaveCauses r crew
  -- What a worker prints does not fall behind what it knew of.
  pub order : AreInOrder r crew
  -- A tab that reads stays at the entry that it opened.
  pub tabs : TabsStay r crew
  -- PART gives no less than the worker knew to be there.
  pub parts : IsTrue r.tells → AreNotShort r crew
