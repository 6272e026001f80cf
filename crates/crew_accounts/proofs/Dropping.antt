-- A line that gives up what its tab writes.
use Rattle.std.proofs.Common.{Bool, List, None, ap, eq-eqb, inl, refl, subst, sym, true, ⊎_elim, ◌&&◌, ◌==◌, ◌<◌, ◌≡◌, ℕ}
use Rattle.rock_disk.specs.Cell.{CellState}
use Rattle.script_text.specs.declared.answer.Answer.{Answer}
use Rattle.script_text.specs.declared.answer.Answer.TheVariants as answer
use Rattle.script_text.specs.declared.line.Line.{Line}
use Rattle.script_text.specs.declared.request.Request.TheVariants.{DropTab}
use Rattle.line_account.specs.Answers.{Run}
use Rattle.line_account.specs.Lines.{Served, writing}
use Rattle.store_rule.specs.declared.store.Pass.{Pass}
use Rattle.store_rule.specs.declared.store.Store.{Store}
use Rattle.store_rule.specs.Ground.{Ground, Offers}
use Rattle.store_rule.specs.Passes.{basis, view}
use Rattle.store_serve.specs.Deeds.{OfHalting, name_of}
use Rattle.store_serve.proofs.WriterDeeds.{entry_of, halts as halts_acted}
use Rattle.store_serve.specs.Tabs.{IsTurnedAway, Leaves}
use Rattle.store_serve.specs.Whole.{whole_tab}
use Rattle.store_serve.specs.Writing.{Drops, DropsOn}
use Rattle.crew_accounts.specs.Lines.{AddsLine, served_as}
use Rattle.crew_accounts.specs.Runs.{Past, run_of}
use Rattle.crew_accounts.specs.Tracks.{IsWriter, Tracks}
use Rattle.crew_accounts.proofs.CallDeeds.{adds_by, of_halting}
use Rattle.crew_accounts.proofs.Fitting.{on_writer, writer_fits}
use Rattle.crew_accounts.proofs.Halting.{halts_seen}
use Rattle.crew_accounts.proofs.Shown.{shows_none}
use Rattle.crew_accounts.proofs.TabLines.{elsewhere, no_more_writes}
use Rattle.crew_accounts.proofs.Telling.{no_more, plain, tells_by}
use Rattle.crew_accounts.proofs.Tracking.{tracks_on_tab}
use Rattle.crew_accounts.proofs.TurningAway.{away_adds}
use Rattle.crew_accounts.proofs.WriterLines.{begun_by_first, given_up, halts}

pub self_true : (t : ℕ) → ((t == t) && true) ≡ true
self_true t = ap (λ (b : Bool). b && true) (eq-eqb t t refl)

module _ {C O : Type 0} (tells : Bool) (state : C → CellState) (offers : O → Offers) (s : Store C O) (told : Bool) (past : Past) (served : List Served) (worker number t : ℕ) (p : Pass C) (a : Answer) (q : Pass C) (below : t < whole_tab) where
  abbrev g : Ground (List ℕ)
  g = basis tells state offers s

  abbrev r : Run (List ℕ)
  r = run_of (basis tells state offers s) told past

  abbrev line : Line
  line = record { worker = worker; number = number; request = DropTab t }

  abbrev l : Served
  l = served_as line answer.Dropped None 0 0

  dropped : Tracks tells state offers s told past served p → Leaves tells state offers s t p q → IsWriter tells state offers s told past served p t → Drops tells state offers s t p a q → AddsLine tells state offers s told past served line p answer.Dropped q
  dropped tracks leaves h drops =
      let entry = entry_of tells state offers s t h.entry h.is in
      let first = begun_by_first tells state offers s told past served p t h in
      let up = halts g h.entry h.first first served l h.writes refl in
      let none = shows_none r.setting.anchors (view p) (view q) served l refl in
      record {
        drew = None;
        opened = 0;
        looked = 0;
        adds = adds_by r (view p) (view q) served l refl (OfHalting h.entry.anchor h.entry.version)
            (halts_acted g t (name_of g h.entry) entry drops.halts)
            (λ d. of_halting r (view q) served l d h.entry.anchor h.entry.version up)
            none
            (tells_by r (view q) served l (given_up g h.entry h.first first served l h.writes (view q) (halts_seen g t (name_of g h.entry) (view p) (view q) entry drops.halts))
            (plain r (view q) served l (no_more r (view q) served l (λ j e. cc)) (λ b e shows. (none b e shows).seen) tt refl (λ x k. k) (λ x k. k) (λ url body k. k) (writer_fits tells state offers s told past served p t a q h) (λ z. cc)))
            (λ y e bytes z. absurd (let k : answer.Dropped ≡ answer.Part e bytes = z in cc));
        tracks = tracks_on_tab tells state offers s told past served p q t l below leaves (λ j ne. elsewhere (DropTab t) answer.Dropped j ne)
            (inl (record { writes = no_more_writes t l served refl (self_true t); reads = h.reads; free = drops.halts.parted.free })) tracks;
      }

  pub drop_adds : Tracks tells state offers s told past served p → Leaves tells state offers s t p q → DropsOn tells state offers s t p a q → AddsLine tells state offers s told past served line p a q
  drop_adds tracks leaves met = ⊎_elim
      (λ (m : IsWriter tells state offers s told past served p t × Drops tells state offers s t p a q).
      subst (λ (z : Answer). AddsLine tells state offers s told past served line p z q) (sym m.1.answer_is) (dropped tracks leaves m.0 m.1))
      (λ (m : (writing t served ≡ None) × IsTurnedAway p a q).
      away_adds tells state offers s told past served line p a q m.1 (λ fits. fits m.0) (λ url body k. absurd k) tracks)
      (on_writer tells state offers s told past served p t a q (Drops tells state offers s t p a q) met (tracks.each t below))
