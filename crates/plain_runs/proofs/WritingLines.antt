-- Requests on a tab that writes, where each version stands for itself.
use Rattle.std.proofs.Common.{Bool, List, arith, false, refl, ◌+◌, ◌<◌, ◌∙◌, ◌≡◌, ℕ}
use Rattle.std.specs.Prelude.{Err, IfErr, min}
use Rattle.rock_disk.specs.Cell.{CellState}
use Rattle.script_text.specs.declared.answer.Answer.{Answer}
use Rattle.script_text.specs.declared.body.Body.{Body}
use Rattle.plain_model.specs.declared.store.Plain.{Plain}
use Rattle.plain_model.specs.declared.store.Setting.{Setting}
use Rattle.plain_model.specs.declared.store.Tab.TheVariants.{Free, Writing}
use Rattle.plain_model.specs.Serving.{bytes_of, put}
use Rattle.plain_model.specs.Store.{tab_at}
use Rattle.plain_model.specs.Writing.{Step, add, end, give_up}
use Rattle.rock_writer.specs.Beginning.{Began}
use Rattle.rock_writer.specs.Entries.{Entry, WritesAs}
use Rattle.rock_writer.specs.declared.fault.BeginFault.{BeginFault}
use Rattle.store_serve.specs.Answers.{is_fault}
use Rattle.store_serve.specs.Tabs.{IsOffered}
use Rattle.store_serve.specs.Whole.{Puts, whole_tab}
use Rattle.store_serve.specs.Writing.{AddsTo, Drops, EndsEntry}
use Rattle.store_rule.specs.declared.store.Pass.{Pass}
use Rattle.store_rule.specs.declared.store.Store.{Store}
use Rattle.store_rule.specs.Ground.{Offers}
use Rattle.store_rule.specs.Passes.{basis, view}
use Rattle.store_serve.specs.Adding.{NotAdded}
use Rattle.store_serve.specs.Storing.{left_of}
use Rattle.store_serve.specs.declared.storing.PutFault.TheVariants.{Begin}
use Rattle.worker_shelf.specs.Typed.{IsTyped}
use Rattle.plain_runs.specs.Words.{IsLone, setting_of, whole_lot}
use Rattle.plain_runs.specs.Shows.{Shows}
use Rattle.plain_runs.proofs.Giving.{IsGiven, adds_right, counted_supply, drops_right, ends_right}
use Rattle.plain_runs.proofs.OwnAnchors.{lot_lone}
use Rattle.plain_runs.proofs.Renamed.{IsAs}
use Rattle.plain_runs.proofs.OwnVersions.{same_answer}
use Rattle.plain_runs.proofs.Putting.{puts_right}

module _ {C O : Type 0} (tells : Bool) (state : C → CellState) (offers : O → Offers) (s : Store C O) (lone : IsLone (basis tells state offers s)) where
  abbrev setting : Setting
  setting = setting_of (basis tells state offers s)

  as_given : (t : ℕ) (below : t < 8) (a : Answer) (q : Pass C) (made : Step) → IsGiven tells state offers s whole_lot (λ v. v) t below a q made → IsAs tells state offers s a q t made
  as_given t below a q made h = record { answered = h.answered ∙ same_answer made.answer; shows = h.shows }

  pub adds_as : (t count anchor : ℕ) (p q : Pass C) (a : Answer) (plain : Plain) → t < 8 → Shows tells state offers s (λ v. v) p plain → tab_at plain t ≡ Writing anchor → is_fault a ≡ false
      → ((e : Entry) → WritesAs tells state offers s p t e → AddsTo tells state offers s t p a q count e) → IsAs tells state offers s a q t (add setting t count plain)
  adds_as t count anchor p q a plain below shows writes fair served = as_given t below a q (add setting t count plain) (adds_right tells state offers s whole_lot (λ v. v) t below p q plain a (lot_lone (basis tells state offers s) lone whole_lot (view p).pass) shows refl anchor writes
      (counted_supply tells state offers s (λ v. v) t p plain shows lone _) count fair served)

  pub ends_as : (t anchor : ℕ) (p q : Pass C) (a : Answer) (plain : Plain) → t < 8 → Shows tells state offers s (λ v. v) p plain → tab_at plain t ≡ Writing anchor → is_fault a ≡ false
      → ((e : Entry) → WritesAs tells state offers s p t e → EndsEntry tells state offers s t p a q e) → IsAs tells state offers s a q t (end setting t plain)
  ends_as t anchor p q a plain below shows writes fair served = as_given t below a q (end setting t plain) (ends_right tells state offers s whole_lot (λ v. v) t below p q plain a (lot_lone (basis tells state offers s) lone whole_lot (view p).pass) shows refl anchor writes
      (counted_supply tells state offers s (λ v. v) t p plain shows lone _) fair served)

  pub drops_as : (t anchor : ℕ) (p q : Pass C) (a : Answer) (plain : Plain) → t < 8 → Shows tells state offers s (λ v. v) p plain → tab_at plain t ≡ Writing anchor → q.hand ≡ p.hand
      → Drops tells state offers s t p a q → IsAs tells state offers s a q t (give_up t plain)
  drops_as t anchor p q a plain below shows writes hand d = as_given t below a q (give_up t plain) (drops_right tells state offers s whole_lot (λ v. v) t below p q plain a (lot_lone (basis tells state offers s) lone whole_lot (view p).pass) shows refl anchor writes hand d)

  pub puts_as : (offer : ℕ) (url : List ℕ) (body : Body) (durable : Bool) (p q : Pass C) (a : Answer) (plain : Plain) → Shows tells state offers s (λ v. v) p plain → tab_at plain whole_tab ≡ Free → is_fault a ≡ false
      → IsOffered tells state offers s offer url body → IsTyped a → Puts tells state offers s url p a q offer durable → IsAs tells state offers s a q whole_tab (put setting url (bytes_of body) offer plain)
  puts_as offer url body durable p q a plain shows free fair offered typed d = as_given 7 (omega arith) a q (put setting url (bytes_of body) offer plain)
      (puts_right tells state offers s lone (λ v. v) (omega arith) p q plain a shows free fair offer url body durable offered refl typed d)
