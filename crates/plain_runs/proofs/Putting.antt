-- A whole response is stored as by the plain store: its entry is begun on the last tab and ended, or it is not begun.
use Rattle.std.proofs.Common.{Bool, List, None, Option, Some, ap, arith, false, get_or, get_or-set_same, inl, inr, length, length-set, refl, set, subst, sym, true, ◌+◌, ◌<◌, ◌∙◌, ◌≡◌, ◌⊎◌, ℕ}
use Rattle.std.specs.Prelude.{Err, IfErr, IfOk, Ok, Result, ◌↔◌}
use Rattle.rock_disk.specs.Cell.{CellState}
use Rattle.script_text.specs.declared.answer.Answer.{Answer}
use Rattle.script_text.specs.declared.answer.Answer.TheVariants as answer
use Rattle.script_text.specs.declared.body.Body.{Body}
use Rattle.plain_model.specs.declared.entry.Entry.{Entry}
use Rattle.plain_model.specs.declared.entry.Place.{Place as PlaceOf}
use Rattle.plain_model.specs.declared.store.Plain.{Plain}
use Rattle.plain_model.specs.declared.store.Setting.{Setting}
use Rattle.plain_model.specs.declared.store.Tab.TheVariants as plain
use Rattle.plain_model.specs.Place.{nothing}
use Rattle.plain_model.specs.Serving.{bytes_of, put}
use Rattle.plain_model.specs.Store.{place_at, tab_at as plain_tab}
use Rattle.plain_model.specs.Writing.{Step, end, entry_of, step, taken_by}
use Rattle.plain_laws.specs.Renaming.{renamed}
use Rattle.rock_writer.specs.Beginning.{Began, IsTooLong, NotTaken, begun as begun_as}
use Rattle.rock_writer.specs.Entries.{Entry as Writing_}
use Rattle.rock_writer.specs.declared.fault.BeginFault.{BeginFault}
use Rattle.rock_writer.specs.declared.fault.BeginFault.TheVariants.{Spent}
use Rattle.rock_writer.specs.declared.fault.Ended.{Ended}
use Rattle.store_serve.specs.Answers.{answer_to_put, answer_to_refusal, is_fault}
use Rattle.store_serve.specs.Tabs.{IsFree, IsOffered}
use Rattle.store_serve.specs.Whole.{Puts}
use Rattle.store_serve.specs.Writing.{EndsEntry}
use Rattle.slice_chain.specs.Victims.{hand_in}
use Rattle.store_rule.specs.declared.store.Pass.{Pass}
use Rattle.store_rule.specs.declared.store.Store.{Store}
use Rattle.store_rule.specs.Ground.{Ground, Offers, anchor_for}
use Rattle.store_rule.specs.Passes.{basis, view}
use Rattle.store_rule.proofs.Passing.{pass_of}
use Rattle.store_serve.specs.Storing.{NotPut, PutWhole, StaysUnlessBegun}
use Rattle.store_serve.specs.declared.storing.PutFault.{PutFault}
use Rattle.store_serve.specs.declared.storing.PutFault.TheVariants.{Begin, Write}
use Rattle.worker_shelf.specs.Typed.{IsTyped}
use Rattle.store_serve.proofs.Writers.{began as began_knowing}
use Rattle.plain_runs.specs.Words.{IsLone, Lot, no_guests, setting_of, whole_lot}
use Rattle.plain_runs.specs.Shows.{Shows, ShowsLot, ShowsTab, ShowsWriting}
use Rattle.plain_runs.proofs.BeginLines.{IsBegun, NotBegun, SpentRight, drew_lone, is_begun, not_begun, put_ends, put_refused, spent_lone}
use Rattle.plain_runs.proofs.Beginning.{DrewNext}
use Rattle.plain_runs.proofs.OwnAnchors.{OwnsLot, lot_lone, lot_stays}
use Rattle.plain_runs.proofs.Giving.{IsGiven, began_others, ends_so, quiet}
use Rattle.plain_runs.proofs.ShowingOthers.{within_free}
use Rattle.plain_runs.proofs.Reserving.{IsReadied, Supply, supply_on}

module _ {C O : Type 0} (tells : Bool) (state : C → CellState) (offers : O → Offers) (st : Store C O) (lot : Lot) (rename : ℕ → ℕ) (below : 7 < 8) (pass q : Pass C) (p : Plain) (a : Answer)
    (owns : OwnsLot (basis tells state offers st) lot (view pass).pass) (h : ShowsLot tells state offers st rename pass p lot) (free : plain_tab p 7 ≡ plain.Free) (fair : is_fault a ≡ false) (offer : ℕ) (url : List ℕ) (body : Body) (durable : Bool) (offered : IsOffered tells state offers st offer url body)
    (ours : lot.anchors (anchor_for (basis tells state offers st) url) ≡ true) where
  abbrev g : Ground (List ℕ)
  g = basis tells state offers st

  abbrev s : Setting
  s = setting_of g

  abbrev at : ℕ
  at = anchor_for g url

  abbrev entry : Entry
  entry = entry_of url (bytes_of body) offer

  abbrev begun : Plain
  begun = taken_by 7 at entry p

  abbrev Given : Step → Type 0
  Given made = IsGiven tells state offers st lot rename 7 below a q made

  -- An entry was begun. Where the hand stayed, it is ended as by the plain store.
  module _ (middle : Pass C) (version : ℕ) (b : Began tells state offers st 7 offer url durable pass middle version) (drew : DrewNext g lot rename b.took.took.drawn version p no_guests)
      (supply : Supply g lot 7 at (view pass) begun) (hand : middle.hand ≡ pass.hand) where
    one_begun : IsBegun tells state offers st rename lot pass p owns h 7 free below offer url body offered ours version middle
    one_begun = is_begun tells state offers st rename lot pass p owns h 7 free below offer url body offered ours durable version middle b drew

    number : (view middle).pass ≡ (view pass).pass
    number = (began_knowing tells state offers st 7 b).pass

    ready : IsReadied g lot rename 7 at (view middle) begun middle.hand
    ready = record {
      knows = one_begun.knows;
      stands = b.writes.rests.own.stands;
      pass = pass_of middle;
      inner_free = b.writes.rests.inner_free;
      owns = lot_stays g lot (view pass) (view middle) number owns;
      supply = supply_on g lot 7 at (view pass) (view middle) begun (began_others tells state offers st lot rename 7 below pass middle offer version url durable b) supply;
      hand_is = ap (hand_in g.setting.anchors) hand ∙ h.hand;
      eight = length-set p.tabs 7 (plain.Writing at) ∙ h.eight;
    }

    writes : plain_tab begun 7 ≡ plain.Writing at
    writes = get_or-set_same p.tabs 7 (plain.Writing at) plain.Free (let n = h.eight in omega arith)

    placed : place_at begun at ≡ record { version = p.counter + 1; doom = false; entry = Some entry }
    placed = get_or-set_same p.places at (record { version = p.counter + 1; doom = false; entry = Some entry }) nothing (let m = h.knows.many in let l = one_begun.tab.inside in omega arith)

    shown : ShowsWriting tells state offers st rename middle begun 7 at
    shown = record {
      inside = one_begun.tab.inside;
      entry = entry;
      there = ap (λ (o : PlaceOf). o.entry) placed;
      grows = refl;
      written = begun_as tells state offers st 7 offer url durable pass middle version;
      writes = b.writes;
      anchor_is = refl;
      version_is = one_begun.version_is ∙ ap (λ (o : PlaceOf). rename o.version) (sym placed);
      offer_is = refl;
      size = ap (λ (u : List ℕ). 32 + length u + 0) offered.url_is ∙ (omega arith);
    }

    pub given_end : EndsEntry tells state offers st 7 middle a q (begun_as tells state offers st 7 offer url durable pass middle version) → Given (put s url (bytes_of body) offer p)
    unfolding shown
    given_end e = subst Given (sym (put_ends s url (bytes_of body) offer p free (p.counter + 1) begun one_begun.begins_is)) (ends_so tells state offers st lot rename 7 below middle begun at writes shown ready ours a q fair e)

  -- None was begun.
  pub given_refused : (fault : BeginFault) → IsTyped a → a ≡ answer_to_put (Err (Begin fault)) → ((a ≡ answer.LongUrl) ↔ IsTooLong g url) → ((versions : ℕ) → fault ≡ Spent versions → SpentRight tells state offers st rename lot pass p owns h 7 free below offer url body offered ours q versions)
      → NotTaken g 7 at (view pass) fault (view q) → q.hand ≡ pass.hand → IsFree q 7 → Given (put s url (bytes_of body) offer p)
  given_refused fault typed is long spent n hand freed = subst Given (sym (put_refused s url (bytes_of body) offer p free nb.plain_fault nb.begins_is)) record {
    answered = is ∙ nb.answer_is;
    shows = record {
      knows = nb.knows;
      hand = ap (hand_in g.setting.anchors) hand ∙ h.hand;
      tab = subst (ShowsTab tells state offers st rename q p 7) (sym free) freed;
      within = within_free lot (plain_tab p 7) free;
    };
  }
    where
      nb : NotBegun tells state offers st rename lot pass p owns h 7 free below offer url body offered ours fault q
      nb = not_begun tells state offers st rename lot pass p owns h 7 free below offer url body offered ours fault q spent n (subst (λ (z : Answer). (z ≡ answer.LongUrl) ↔ IsTooLong g url) is long) (subst IsTyped is typed)

-- In a store with one pass.
module _ {C O : Type 0} (tells : Bool) (state : C → CellState) (offers : O → Offers) (st : Store C O) (lone : IsLone (basis tells state offers st)) (rename : ℕ → ℕ) (below : 7 < 8) (pass q : Pass C) (p : Plain) (a : Answer)
    (h : Shows tells state offers st rename pass p) (free : plain_tab p 7 ≡ plain.Free) (fair : is_fault a ≡ false) (offer : ℕ) (url : List ℕ) (body : Body) (durable : Bool) (offered : IsOffered tells state offers st offer url body)
    (next : rename (p.counter + 1) ≡ p.counter + 1) where
  abbrev one : Ground (List ℕ)
  one = basis tells state offers st

  own : OwnsLot (basis tells state offers st) whole_lot (view pass).pass
  own = lot_lone (basis tells state offers st) lone whole_lot (view pass).pass

  abbrev GivenPut : Type 0
  GivenPut = IsGiven tells state offers st whole_lot rename 7 below a q (put (setting_of (basis tells state offers st)) url (bytes_of body) offer p)

  ended : (middle : Pass C) (version : ℕ) → Began tells state offers st 7 offer url durable pass middle version → middle.hand ≡ pass.hand → EndsEntry tells state offers st 7 middle a q (begun_as tells state offers st 7 offer url durable pass middle version) → GivenPut
  ended middle version b hand e = given_end tells state offers st whole_lot rename below pass q p a own h free fair offer url body durable offered refl middle version b
      (drew_lone tells state offers st rename lone pass p h 7 free below offer url body offered durable version middle b next)
      (inl record { lone = lone; whole = refl; quiet = quiet tells state offers st rename 7 pass p h }) hand e

  pub puts_right : IsTyped a → Puts tells state offers st url pass a q offer durable → GivenPut
  puts_right typed d = of_outcome d.outcome d.answer_is d.stored d.refused d.stays
    where
      of_outcome : (o : Result Ended PutFault) → a ≡ answer_to_put o → IfOk o (λ ended. PutWhole tells state offers st 7 offer url durable pass q ended) → IfErr o (λ fault. NotPut tells state offers st 7 offer url durable pass q fault)
          → IfErr o (λ fault. StaysUnlessBegun fault pass.hand q.hand) → GivenPut
      of_outcome (Ok done) is w n hand = ended w.middle w.version w.began w.stays record { outcome = Ok done; answer_is = is; ended = w.ends; given_up = tt }
      of_outcome (Err (Write fault)) is w n hand = ended n.middle n.version n.began n.stays record { outcome = Err fault; answer_is = is; ended = tt; given_up = n.stopped }
      of_outcome (Err (Begin fault)) is w n hand = given_refused tells state offers st whole_lot rename below pass q p a own h free fair offer url body durable offered refl fault typed is d.long
          (λ versions e. spent_lone tells state offers st rename lone pass p h 7 free below offer url body offered q versions) n hand d.free
