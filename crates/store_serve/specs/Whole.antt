-- How whole requests are served.
use Rattle.std.specs.Prelude.{Bool, IfErr, IfOk, List, Result, true, ◌≡◌, ◌↔◌, ℕ}
use Rattle.rock_disk.specs.Cell.{CellState}
use Rattle.lock_word.specs.declared.cause.Cause.{Cause}
use Rattle.lock_word.specs.declared.epoch.Epoch.{Epoch}
use Rattle.script_text.specs.declared.answer.Answer.{Answer}
use Rattle.script_text.specs.declared.answer.Answer.TheVariants as answer
use Rattle.core_model.specs.Tabs.{inner}
use Rattle.store_rule.specs.declared.store.Pass.{Pass}
use Rattle.store_rule.specs.declared.store.Store.{Store}
use Rattle.store_rule.specs.Ground.{Offers}
use Rattle.store_rule.specs.Passes.{basis, view}
use Rattle.rock_reader.specs.Opening.{Refused}
use Rattle.rock_writer.specs.Beginning.{IsTooLong}
use Rattle.rock_writer.specs.Durable.{ClosedDurably}
use Rattle.rock_writer.specs.declared.fault.Ended.{Ended}
use Rattle.purge_entry.specs.Purging.{Purged}
use Rattle.purge_entry.specs.Wiping.{FaultTells, WipedTells}
use Rattle.purge_entry.specs.declared.wiping.Wiped.{Wiped}
use Rattle.purge_entry.specs.declared.wiping.WipeFault.{WipeFault}
use Rattle.store_serve.specs.Getting.{GotAs}
use Rattle.store_serve.specs.Storing.{NotPut, PutWhole, StaysUnlessBegun, put_as}
use Rattle.store_serve.specs.declared.getting.Got.{Got}
use Rattle.store_serve.specs.declared.storing.PutFault.{PutFault}
use Rattle.store_serve.specs.Answers.{AnswersGet, answer_to_purge, answer_to_put, answer_to_wipe}
use Rattle.store_serve.specs.Tabs.{IsFree}
use Rattle.store_serve.specs.declared.whole.TheConstants.{WHOLE_TAB}

-- the tab of whole requests
abbrev pub whole_tab : ℕ
whole_tab = WHOLE_TAB

module _ {C O : Type 0} (tells : Bool) (state : C → CellState) (offers : O → Offers) (s : Store C O) (url : List ℕ) (p : Pass C) (a : Answer) (q : Pass C) where
  -- A response was stored whole on the tab of whole requests, or not: its entry was not begun, or it was and was given up. Where it was to be
  -- durable and was stored, the pass knew each of its pieces as logged and durable from before its entry was closed, and knows that still.
  pub record Puts (offer : ℕ) (durable : Bool) : Type 0 where
    pub outcome : Result Ended PutFault
    pub answer_is : a ≡ answer_to_put outcome
    pub stored : IfOk outcome (λ ended. PutWhole tells state offers s whole_tab offer url durable p q ended)
    pub refused : IfErr outcome (λ fault. NotPut tells state offers s whole_tab offer url durable p q fault)
    pub long : (a ≡ answer.LongUrl) ↔ IsTooLong (basis tells state offers s) url
    pub free : IsFree q whole_tab
    pub stays : IfErr outcome (λ fault. StaysUnlessBegun fault p.hand q.hand)
    pub known : durable ≡ true → IfOk outcome (λ ended. ClosedDurably (basis tells state offers s) whole_tab (put_as (basis tells state offers s) offer url durable ended) (view q))

  -- the entry of the URL was got, or there was none
  pub record Gets : Type 0 where
    pub got : Got
    pub bytes : List ℕ
    pub answer_is : AnswersGet got bytes a
    pub went : GotAs tells state offers s whole_tab url p q bytes got
    pub free : IsFree q whole_tab
    pub stays : q.hand ≡ p.hand

  -- it was purged, or there was none
  pub record Purges : Type 0 where
    pub outcome : Result Epoch Cause
    pub answer_is : a ≡ answer_to_purge outcome
    pub purged : IfOk outcome (λ left. Purged (basis tells state offers s) inner url (view p) left (view q))
    pub refused : IfErr outcome (λ cause. Refused (basis tells state offers s) inner url (view p) cause (view q))
    pub same : (view q).tabs ≡ (view p).tabs
    pub stays : q.hand ≡ p.hand

  -- it was purged on the disk too, or in the table alone, or there was none, or the station failed
  pub record Wipes : Type 0 where
    pub outcome : Result Wiped WipeFault
    pub answer_is : a ≡ answer_to_wipe outcome
    pub wiped : IfOk outcome (WipedTells (basis tells state offers s) url (view p) (view q))
    pub refused : IfErr outcome (FaultTells (basis tells state offers s) url (view p) (view q))
    pub same : (view q).tabs ≡ (view p).tabs
    pub stays : q.hand ≡ p.hand
