-- How requests on tabs that read are served.
use Rattle.std.specs.Prelude.{Bool, IfErr, IfOk, List, OnErr, Result, ◌≡◌, ℕ}
use Rattle.rock_disk.specs.Cell.{CellState}
use Rattle.lock_word.specs.declared.cause.Cause.{Cause}
use Rattle.script_text.specs.declared.answer.Answer.{Answer}
use Rattle.script_text.specs.declared.answer.Answer.TheVariants as answer
use Rattle.store_rule.specs.declared.store.Pass.{Pass}
use Rattle.store_rule.specs.declared.store.Store.{Store}
use Rattle.store_rule.specs.Ground.{Offers, anchor_for}
use Rattle.store_rule.specs.Passes.{basis, view}
pub use Rattle.rock_reader.specs.Closing.{Parted}
use Rattle.rock_reader.specs.Opening.{OpenedEntry, Refused}
use Rattle.rock_reader.specs.Reading.{ReadsAs, Standing, newly}
use Rattle.rock_reader.specs.declared.answer.More.{More}
use Rattle.store_serve.specs.Following.{WentOn}
use Rattle.store_serve.specs.Answers.{AnswersMore, answer_to_open}
use Rattle.store_serve.specs.Tabs.{IsFree, IsMet, IsReading}

module _ {C O : Type 0} (tells : Bool) (state : C → CellState) (offers : O → Offers) (s : Store C O) (t : ℕ) (p : Pass C) (a : Answer) (q : Pass C) where
  -- the entry of a URL was opened for a free tab, which reads it from the first slot on, or there was none
  pub record Opens (url : List ℕ) : Type 0 where
    pub outcome : Result ℕ Cause
    pub answer_is : a ≡ answer_to_open outcome
    pub opened : IfOk outcome (λ version. OpenedEntry (basis tells state offers s) t url (view p) version (view q))
    pub reads : IfOk outcome (λ version. (offer : ℕ) × ReadsAs tells state offers s q t (newly (anchor_for (basis tells state offers s) url) version offer url))
    pub refused : IfErr outcome (λ cause. Refused (basis tells state offers s) t url (view p) cause (view q))
    pub free : OnErr outcome (IsFree q t)
    pub stays : q.hand ≡ p.hand

  -- the tab that stood so was given these bytes, and then there was no more to give, for this cause
  pub record ReadsOn (e : Standing) : Type 0 where
    pub why : More
    pub bytes : List ℕ
    pub answer_is : AnswersMore why bytes a
    pub went : WentOn tells state offers s t e p q bytes why
    pub stays : q.hand ≡ p.hand

  -- it left its entry
  pub record Closes : Type 0 where
    pub answer_is : a ≡ answer.Closed
    pub parted : Parted (basis tells state offers s) t (view p) (view q)
    pub free : IsFree q t
    pub stays : q.hand ≡ p.hand

  -- The requests. However the tab reads, it is served so.
  abbrev pub OpensOn : (url : List ℕ) → Type 0
  OpensOn url = IsMet (IsFree p t) (Opens url) p a q

  abbrev pub ReadsMore : Type 0
  ReadsMore = IsMet (IsReading tells state offers s p t) ((e : Standing) → ReadsAs tells state offers s p t e → ReadsOn e) p a q

  abbrev pub ClosesOn : Type 0
  ClosesOn = IsMet (IsReading tells state offers s p t) Closes p a q
