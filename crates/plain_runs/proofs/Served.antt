-- All requests that a lone pass serves are right, and so is a line, and a tab that is left.
use Rattle.std.proofs.Common.{Bool, IsTrue, List, ap, arith, false, inl, inr, refl, subst, sym, ◌+◌, ◌<◌, ◌∙◌, ◌≡◌, ◌⊎◌, ℕ}
use Rattle.rock_disk.specs.Cell.{CellState}
use Rattle.script_text.specs.declared.answer.Answer.{Answer}
use Rattle.script_text.specs.declared.answer.Answer.TheVariants as answer
use Rattle.script_text.specs.declared.line.Line.{Line}
use Rattle.plain_model.specs.declared.store.Plain.{Plain}
use Rattle.plain_model.specs.declared.store.Tab.{Tab}
use Rattle.plain_model.specs.declared.store.Tab.TheVariants.{Free, Reading, Writing}
use Rattle.plain_model.specs.Reading.{close}
use Rattle.plain_model.specs.Serving.{leave, serve}
use Rattle.plain_model.specs.Store.{tab_at, with_tab}
use Rattle.plain_model.specs.declared.entry.Life.TheVariants.{GivenUp}
use Rattle.plain_model.specs.Writing.{close_writer, give_up, settle}
use Rattle.store_rule.specs.declared.store.Pass.{Pass}
use Rattle.store_rule.specs.declared.store.Store.{Store}
use Rattle.store_rule.specs.Ground.{Offers}
use Rattle.store_rule.specs.Passes.{basis, view}
use Rattle.rock_reader.specs.Closing.{Parted}
use Rattle.rock_reader.specs.Reading.{ReadsAs, Standing}
use Rattle.rock_reader.specs.Responses.{HoldsFile}
use Rattle.rock_writer.specs.Halting.{Halts}
use Rattle.store_serve.specs.Answers.{is_fault}
use Rattle.store_serve.specs.Reading.{ReadsOn}
use Rattle.store_serve.specs.Serving.{Serves, Takes}
use Rattle.store_serve.specs.Whole.{whole_tab}
use Rattle.worker_shelf.proofs.Holding.{Stays}
use Rattle.worker_shelf.specs.Shelves.{LeavesFree, LeavesReader, LeavesWriter, LeftTab}
use Rattle.worker_shelf.specs.Typed.{IsTyped}
use Rattle.crew_accounts.proofs.GivenBytes.{IsFromFront}
use Rattle.plain_runs.specs.Shows.{Shows, ShowsTab}
use Rattle.plain_runs.specs.Words.{IsLone, setting_of, whole_lot}
use Rattle.plain_runs.proofs.BeginLines.{begins_as}
use Rattle.plain_runs.proofs.GetLines.{gets_as}
use Rattle.plain_runs.proofs.LeavingLots.{leaves_lot}
use Rattle.plain_runs.proofs.ServedLines.{RequestsRight, request_right}
use Rattle.plain_runs.proofs.ShownTabs.{free_not_reading, free_not_writing, reads_not_free, reads_not_writing, writes_not_free, writes_not_reading}
use Rattle.plain_runs.proofs.Opening.{closes_as, mores_as, opens_as}
use Rattle.plain_runs.proofs.OtherTabs.{IsOwn, close_else, give_up_keeps}
use Rattle.plain_runs.proofs.PurgeLines.{purges_as, wipes_as}
use Rattle.plain_runs.proofs.OwnAnchors.{lot_lone}
use Rattle.plain_runs.proofs.ShowingOthers.{OneBegins, shows_after}
use Rattle.plain_runs.proofs.WritingLines.{adds_as, drops_as, ends_as, puts_as}

module _ {C O : Type 0} (tells : Bool) (state : C → CellState) (offers : O → Offers) (s : Store C O) (lone : IsLone (basis tells state offers s)) (begins : OneBegins) (stays : Stays tells state offers s) where
  module _ (known : IsTrue tells) (file : HoldsFile (basis tells state offers s)) (from : IsFromFront) (sized : (basis tells state offers s).slot < 4294967296) where
    right : RequestsRight tells state offers s
    right = record {
      begins = λ t offer url body p q a plain below h free offered typed met. begins_as tells state offers s lone t offer url body p q a plain below h free offered typed met.stays met;
      adds = λ t count anchor p q a plain below h writes fair met. adds_as tells state offers s lone t count anchor p q a plain below h writes fair met;
      ends = λ t anchor p q a plain below h writes fair met. ends_as tells state offers s lone t anchor p q a plain below h writes fair met;
      drops = λ t anchor p q a plain below h writes met. drops_as tells state offers s lone t anchor p q a plain below h writes met.stays met;
      puts = λ offer url body durable p q a plain h free fair offered typed met. puts_as tells state offers s lone offer url body durable p q a plain h free fair offered typed met;
      opens = λ t url p q a plain below h free typed met. opens_as tells state offers s lone t url p q a plain below h free typed met.stays met;
      mores = λ t anchor given is_other p q a plain below h reads fair met. mores_as tells state offers s lone begins known file from sized t anchor given is_other p q a plain below h reads fair (read_stays t anchor given is_other p q a plain below h reads met) met;
      closes = λ t anchor given is_other p q a plain below h reads met. closes_as tells state offers s lone t anchor given is_other p q a plain below h reads met.stays met;
      gets = λ url p q a plain h free typed fair met. gets_as tells state offers s lone begins known file from sized url p q a plain h free typed fair met.stays met;
      purges = λ url p q a plain h free typed met. purges_as tells state offers s lone url p q a plain h free typed met.stays met;
      wipes = λ url p q a plain h free typed fair met. wipes_as tells state offers s lone url p q a plain h free typed fair met.stays met;
    }
      where
        read_stays : (t anchor given : ℕ) (is_other : Bool) (p q : Pass C) (a : Answer) (plain : Plain) → t < 8 → Shows tells state offers s (λ v. v) p plain → tab_at plain t ≡ Reading anchor given is_other
            → ((e : Standing) → ReadsAs tells state offers s p t e → ReadsOn tells state offers s t p a q e) → q.hand ≡ p.hand
        read_stays t anchor given is_other p q a plain below h reads met = let r = subst (ShowsTab tells state offers s (λ v. v) p plain t) reads (h.tabs t below refl) in (met r.standing r.reads).stays

    -- A line that the pass takes and that meets no fault is answered as by the plain store, and the pass shows what that has then.
    pub line_right : (script : List Line) (line : Line) (p q : Pass C) (a : Answer) (before after : ℕ) (plain : Plain) → Takes tells state offers s p line → Serves tells state offers s line p a q before after → IsTyped a
        → is_fault a ≡ false → Shows tells state offers s (λ v. v) p plain → tab_at plain whole_tab ≡ Free
        → (a ≡ (serve (setting_of (basis tells state offers s)) script line plain).answer) × Shows tells state offers s (λ v. v) q (serve (setting_of (basis tells state offers s)) script line plain).after
    line_right script line p q a before after plain takes served typed fair h whole =
        request_right tells state offers s right script line.number p q a plain h whole fair typed begins stays lone line.request takes.asks served.request served.leaves

  -- A tab that is left is left as by the plain store.
  pub leaves_right : (t : ℕ) (p q : Pass C) (plain : Plain) → t < whole_tab → LeftTab tells state offers s t p q → Shows tells state offers s (λ v. v) p plain → Shows tells state offers s (λ v. v) q (leave t plain)
  leaves_right t p q plain below left h = leaves_lot tells state offers s begins stays (λ v. v) whole_lot t p q plain below (lot_lone (basis tells state offers s) lone whole_lot (view p).pass) refl left h
