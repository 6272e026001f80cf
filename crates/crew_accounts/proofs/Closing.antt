-- A line that closes what its tab reads.
use Rattle.std.proofs.Common.{Bool, List, None, inl, refl, subst, sym, ⊎_elim, ◌<◌, ◌≡◌, ℕ}
use Rattle.rock_disk.specs.Cell.{CellState}
use Rattle.script_text.specs.declared.answer.Answer.{Answer}
use Rattle.script_text.specs.declared.answer.Answer.TheVariants as answer
use Rattle.script_text.specs.declared.line.Line.{Line}
use Rattle.script_text.specs.declared.request.Request.TheVariants.{CloseTab}
use Rattle.line_account.specs.Answers.{Run}
use Rattle.line_account.specs.Lines.{Served, reading}
use Rattle.store_rule.specs.declared.store.Pass.{Pass}
use Rattle.store_rule.specs.declared.store.Store.{Store}
use Rattle.store_rule.specs.Ground.{Ground, Offers}
use Rattle.store_rule.specs.Passes.{basis, view}
use Rattle.store_serve.specs.Deeds.{OfLeaving}
use Rattle.store_serve.proofs.ReaderDeeds.{parted}
use Rattle.store_serve.specs.Reading.{Closes, ClosesOn}
use Rattle.store_serve.specs.Tabs.{IsTurnedAway, Leaves}
use Rattle.store_serve.specs.Whole.{whole_tab}
use Rattle.crew_accounts.specs.Lines.{AddsLine, served_as}
use Rattle.crew_accounts.specs.Runs.{Past, run_of}
use Rattle.crew_accounts.specs.Tracks.{IsReader, Tracks}
use Rattle.crew_accounts.proofs.CallDeeds.{adds_by, of_leaving}
use Rattle.crew_accounts.proofs.Dropping.{self_true}
use Rattle.crew_accounts.proofs.Fitting.{on_reader, reader_fits}
use Rattle.crew_accounts.proofs.Shown.{shows_none}
use Rattle.crew_accounts.proofs.TabLines.{elsewhere, no_more_reads}
use Rattle.crew_accounts.proofs.Telling.{no_more, plain, tells_by}
use Rattle.crew_accounts.proofs.Tracking.{tracks_on_tab}
use Rattle.crew_accounts.proofs.TurningAway.{away_adds}

module _ {C O : Type 0} (tells : Bool) (state : C → CellState) (offers : O → Offers) (s : Store C O) (told : Bool) (past : Past) (served : List Served) (worker number t : ℕ) (p : Pass C) (a : Answer) (q : Pass C) (below : t < whole_tab) where
  abbrev g : Ground (List ℕ)
  g = basis tells state offers s

  abbrev r : Run (List ℕ)
  r = run_of (basis tells state offers s) told past

  abbrev line : Line
  line = record { worker = worker; number = number; request = CloseTab t }

  abbrev l : Served
  l = served_as line answer.Closed None 0 0

  closed : Tracks tells state offers s told past served p → Leaves tells state offers s t p q → IsReader tells state offers s told past served p t → Closes tells state offers s t p a q → AddsLine tells state offers s told past served line p answer.Closed q
  closed tracks leaves h closes =
      let none = shows_none r.setting.anchors (view p) (view q) served l refl in
      record {
        drew = None;
        opened = 0;
        looked = 0;
        adds = adds_by r (view p) (view q) served l refl OfLeaving
            (parted g t (view p) (view q) closes.parted)
            (λ d. of_leaving r (view q) served l d)
            none
            (tells_by r (view q) served l tt
            (plain r (view q) served l (no_more r (view q) served l (λ j e. cc)) (λ b e shows. (none b e shows).seen) tt refl (λ x k. k) (λ x k. k) (λ url body k. k) (reader_fits tells state offers s told past served p t a q h) (λ z. cc)))
            (λ y e bytes z. absurd (let k : answer.Closed ≡ answer.Part e bytes = z in cc));
        tracks = tracks_on_tab tells state offers s told past served p q t l below leaves (λ j ne. elsewhere (CloseTab t) answer.Closed j ne)
            (inl (record { writes = h.writes; reads = no_more_reads t l served refl (self_true t); free = closes.free })) tracks;
      }

  pub close_adds : Tracks tells state offers s told past served p → Leaves tells state offers s t p q → ClosesOn tells state offers s t p a q → AddsLine tells state offers s told past served line p a q
  close_adds tracks leaves met = ⊎_elim
      (λ (m : IsReader tells state offers s told past served p t × Closes tells state offers s t p a q).
      subst (λ (z : Answer). AddsLine tells state offers s told past served line p z q) (sym m.1.answer_is) (closed tracks leaves m.0 m.1))
      (λ (m : (reading t served ≡ None) × IsTurnedAway p a q).
      away_adds tells state offers s told past served line p a q m.1 (λ fits. fits m.0) (λ url body k. absurd k) tracks)
      (on_reader tells state offers s told past served p t a q (Closes tells state offers s t p a q) met (tracks.each t below))
