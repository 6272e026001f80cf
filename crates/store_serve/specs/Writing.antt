-- How requests on tabs that write are served.
use Rattle.std.specs.Prelude.{Bool, IfErr, IfOk, List, OnErr, Result, false, min, ◌≡◌, ◌↔◌, ℕ}
use Rattle.rock_disk.specs.Cell.{CellState}
use Rattle.script_text.specs.declared.answer.Answer.{Answer}
use Rattle.script_text.specs.declared.answer.Answer.TheVariants as answer
use Rattle.store_rule.specs.declared.store.Pass.{Pass}
use Rattle.store_rule.specs.declared.store.Store.{Store}
use Rattle.store_rule.specs.Ground.{Offers, anchor_for}
use Rattle.store_rule.specs.Passes.{basis, view}
use Rattle.rock_writer.specs.Beginning.{Began, IsTooLong, NotTaken}
use Rattle.rock_writer.specs.Entries.{Entry, WritesAs}
pub use Rattle.rock_writer.specs.Halting.{Halts}
use Rattle.rock_writer.specs.declared.fault.BeginFault.{BeginFault}
use Rattle.rock_writer.specs.declared.fault.Ended.{Ended}
use Rattle.rock_writer.specs.declared.fault.WriteFault.{WriteFault}
use Rattle.store_serve.specs.Adding.{Added, NotAdded, StoppedBelow}
use Rattle.store_serve.specs.Storing.{EndedWhole, NotEnded, left_of}
use Rattle.store_serve.specs.Answers.{answer_to_add, answer_to_begin, answer_to_end}
use Rattle.store_serve.specs.Tabs.{IsFree, IsMet, IsWriting}

module _ {C O : Type 0} (tells : Bool) (state : C → CellState) (offers : O → Offers) (s : Store C O) (t : ℕ) (p : Pass C) (a : Answer) (q : Pass C) where
  -- the entry of an offer was begun on a free tab, or not
  pub record Begins (offer : ℕ) (url : List ℕ) : Type 0 where
    pub outcome : Result ℕ BeginFault
    pub answer_is : a ≡ answer_to_begin outcome
    pub began : IfOk outcome (λ version. Began tells state offers s t offer url false p q version)
    pub refused : IfErr outcome (λ fault. NotTaken (basis tells state offers s) t (anchor_for (basis tells state offers s) url) (view p) fault (view q))
    pub long : (a ≡ answer.LongUrl) ↔ IsTooLong (basis tells state offers s) url
    pub free : OnErr outcome (IsFree q t)
    pub stays : q.hand ≡ p.hand

  -- Of the body of the entry e so many bytes were taken, or all that are left if these are fewer; or it was given up.
  pub record AddsTo (count : ℕ) (e : Entry) : Type 0 where
    pub outcome : Result ℕ WriteFault
    pub answer_is : a ≡ answer_to_add outcome
    pub all : IfOk outcome (λ added. added ≡ min count (left_of tells state offers s t e p q))
    pub added : IfOk outcome (λ added. Added tells state offers s t e p q added)
    pub given_up : IfErr outcome (λ fault. NotAdded tells state offers s t e p q fault)
    pub fewer : IfErr outcome (λ fault. StoppedBelow tells state offers s t e p q (min count (left_of tells state offers s t e p q)) fault)

  -- the rest of it was taken and the entry closed, or it was given up
  pub record EndsEntry (e : Entry) : Type 0 where
    pub outcome : Result Ended WriteFault
    pub answer_is : a ≡ answer_to_end outcome
    pub ended : IfOk outcome (λ ended. EndedWhole tells state offers s t e p q ended)
    pub given_up : IfErr outcome (λ fault. NotEnded tells state offers s t e p q fault)

  -- it was given up, as was asked
  pub record Drops : Type 0 where
    pub answer_is : a ≡ answer.Dropped
    pub halts : Halts (basis tells state offers s) t (view p) (view q)
    pub stays : q.hand ≡ p.hand

  -- The requests. Whatever entry the tab writes, it is served so.
  abbrev pub BeginsOn : (offer : ℕ) (url : List ℕ) → Type 0
  BeginsOn offer url = IsMet (IsFree p t) (Begins offer url) p a q

  abbrev pub AddsOn : (count : ℕ) → Type 0
  AddsOn count = IsMet (IsWriting tells state offers s p t) ((e : Entry) → WritesAs tells state offers s p t e → AddsTo count e) p a q

  abbrev pub EndsOn : Type 0
  EndsOn = IsMet (IsWriting tells state offers s p t) ((e : Entry) → WritesAs tells state offers s p t e → EndsEntry e) p a q

  abbrev pub DropsOn : Type 0
  DropsOn = IsMet (IsWriting tells state offers s p t) Drops p a q
