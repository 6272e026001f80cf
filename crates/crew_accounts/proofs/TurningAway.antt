-- A line whose tab was not as it needed it.
use Rattle.std.proofs.Common.{Bool, List, None, ap, refl, subst, sym, ◌≡◌, ℕ}
use Rattle.rock_disk.specs.Cell.{CellState}
use Rattle.script_text.specs.declared.answer.Answer.{Answer}
use Rattle.script_text.specs.declared.body.Body.{Body}
use Rattle.script_text.specs.declared.line.Line.{Line}
use Rattle.core_model.specs.Trails.{drawn, draws}
use Rattle.core_model.specs.declared.view.View.{View}
use Rattle.line_account.specs.Accounts.{IsOffered}
use Rattle.line_account.specs.Lines.{Fits, Offers as OffersBody, Served}
use Rattle.line_account.specs.Steps.{IsIdle as IsStill}
use Rattle.line_account.proofs.Quiet.{tab_adds}
use Rattle.store_rule.specs.declared.store.Pass.{Pass}
use Rattle.store_rule.specs.declared.store.Store.{Store}
use Rattle.store_rule.specs.Ground.{Offers}
use Rattle.store_rule.specs.Passes.{basis, view}
use Rattle.store_serve.proofs.Grown as grown
use Rattle.store_serve.specs.Tabs.{IsTurnedAway}
use Rattle.crew_accounts.specs.Lines.{AddsLine, served_as}
use Rattle.crew_accounts.specs.Runs.{Past, run_of}
use Rattle.crew_accounts.specs.Tracks.{Tracks}
use Rattle.crew_accounts.proofs.TabLines.{IsMute, mute, tab_is_mute}
use Rattle.crew_accounts.proofs.Tracking.{tracks_still}

pub still : {X : Type 0} (v w : View X) → w ≡ v → IsStill v w
still {X} v w same = record { keeps = grown.knows_all (grown.same same); drawn = λ x. ap (λ (u : View X). drawn x u.trail) same; draws = ap (λ (u : View X). draws u.trail) same; deeds = ap View.deeds same }

module _ {C O : Type 0} (tells : Bool) (state : C → CellState) (offers : O → Offers) (s : Store C O) (told : Bool) (past : Past) (served : List Served) (line : Line) (p : Pass C) (a : Answer) (q : Pass C) where
  pub away_adds : IsTurnedAway p a q → ¬ Fits served line.request
      → ((url : List ℕ) (body : Body) → OffersBody line.request url body → IsOffered (run_of (basis tells state offers s) told past) (served_as line a None 0 0) url body)
      → Tracks tells state offers s told past served p → AddsLine tells state offers s told past served line p a q
  away_adds away unfit offered h = record {
    drew = None;
    opened = 0;
    looked = 0;
    adds = tab_adds (run_of (basis tells state offers s) told past) (view p) (view q) served (served_as line a None 0 0)
        (record { answered = away.answered; drew = refl; unfit = unfit; offered = offered })
        (still (view p) (view q) (ap view away.still));
    tracks = tracks_still tells state offers s told past served p q (served_as line a None 0 0) away.still
        (λ j. mute line.request a j (subst IsMute (sym away.answered) tab_is_mute)) h;
  }
