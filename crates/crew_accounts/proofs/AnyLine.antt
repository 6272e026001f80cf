-- Whatever line was served.
use Rattle.std.proofs.Common.{Bool, List, false, refl, true, ℕ}
use Rattle.std.specs.Prelude.{IsTrue}
use Rattle.rock_disk.specs.Cell.{CellState}
use Rattle.script_text.specs.Tabs.{UsesTab}
use Rattle.script_text.specs.declared.answer.Answer.{Answer}
use Rattle.script_text.specs.declared.line.Line.{Line}
use Rattle.script_text.specs.declared.request.Request.{Request}
use Rattle.script_text.specs.declared.request.Request.TheVariants.{Add, Await, Begin, CloseTab, DropTab, End, Get, Mark, More, OpenTab, Purge, Put, Save, Wipe}
use Rattle.line_account.specs.Lines.{Served}
use Rattle.store_rule.specs.declared.store.Pass.{Pass}
use Rattle.store_rule.specs.declared.store.Store.{Store}
use Rattle.store_rule.specs.Ground.{Offers}
use Rattle.store_rule.specs.Passes.{basis}
use Rattle.store_serve.specs.Serving.{MayAsk, Serves, ServesRequest, Takes}
use Rattle.store_serve.specs.Tabs.{Leaves}
use Rattle.worker_shelf.specs.Typed.{IsTyped}
use Rattle.crew_accounts.specs.Lines.{AddsLine, line_with}
use Rattle.crew_accounts.specs.Runs.{IsTold, Past}
use Rattle.crew_accounts.specs.Tracks.{Tracks}
use Rattle.crew_accounts.proofs.AddLines.{add_adds}
use Rattle.crew_accounts.proofs.BeginLines.{begin_adds}
use Rattle.crew_accounts.proofs.Closing.{close_adds}
use Rattle.crew_accounts.proofs.Dropping.{drop_adds}
use Rattle.crew_accounts.proofs.EndLines.{end_adds}
use Rattle.crew_accounts.proofs.GivenBytes.{IsFromFront}
use Rattle.crew_accounts.proofs.GetLines.{get_adds}
use Rattle.crew_accounts.proofs.MoreLines.{more_adds}
use Rattle.crew_accounts.proofs.Offering.{puts, saves}
use Rattle.crew_accounts.proofs.OpenLines.{open_adds}
use Rattle.crew_accounts.proofs.Purging.{purge_adds, wipe_adds}
use Rattle.crew_accounts.proofs.PutLines.{put_adds, puts_whole, saves_whole}

module _ {C O : Type 0} (tells : Bool) (state : C → CellState) (offers : O → Offers) (s : Store C O) (told : Bool) (past : Past) (served : List Served) (from : IsFromFront) (told_so : IsTrue told → IsTold (basis tells state offers s) told past tells) (worker number : ℕ) (p : Pass C) (a : Answer) (q : Pass C)
    (tracks : Tracks tells state offers s told past served p) (fit : IsTyped a) where
  by_request : (request : Request) → MayAsk tells state offers s number request → ServesRequest tells state offers s number p a q request → ((t : ℕ) → UsesTab request t → Leaves tells state offers s t p q)
      → AddsLine tells state offers s told past served (line_with worker number request) p a q
  by_request (Put url body) asks h leaves = put_adds tells state offers s told past served (line_with worker number (Put url body)) url body false p q a (puts url body) (puts_whole url body) tracks (leaves 7 refl) asks fit h
  by_request (Save url body) asks h leaves = put_adds tells state offers s told past served (line_with worker number (Save url body)) url body true p q a (saves url body) (saves_whole url body) tracks (leaves 7 refl) asks fit h
  by_request (Get url) asks h leaves = get_adds tells state offers s told past served worker number url p q from told_so a tracks (leaves 7 refl) fit h
  by_request (Purge url) asks h leaves = purge_adds tells state offers s told past served worker number url p q a tracks (leaves 7 refl) fit h
  by_request (Wipe url) asks h leaves = wipe_adds tells state offers s told past served worker number url p q a tracks (leaves 7 refl) fit h
  by_request (Begin t url body) asks h leaves = begin_adds tells state offers s told past served worker number t url body p q asks.0 a tracks (leaves t refl) asks.1 fit h
  by_request (Add t count) asks h leaves = add_adds tells state offers s told past served worker number t count p q asks a tracks (leaves t refl) h
  by_request (End t) asks h leaves = end_adds tells state offers s told past served worker number t p q asks a tracks (leaves t refl) h
  by_request (DropTab t) asks h leaves = drop_adds tells state offers s told past served worker number t p a q asks tracks (leaves t refl) h
  by_request (OpenTab t url) asks h leaves = open_adds tells state offers s told past served worker number t url p q asks.0 a tracks (leaves t refl) fit h
  by_request (More t) asks h leaves = more_adds tells state offers s told past served worker number t p q asks from told_so a tracks (leaves t refl) h
  by_request (CloseTab t) asks h leaves = close_adds tells state offers s told past served worker number t p a q asks tracks (leaves t refl) h
  by_request (Mark mark) asks h leaves = absurd asks
  by_request (Await mark) asks h leaves = absurd asks

module _ {C O : Type 0} (tells : Bool) (state : C → CellState) (offers : O → Offers) (s : Store C O) (told : Bool) (past : Past) (served : List Served) (line : Line) (p : Pass C) (a : Answer) (q : Pass C) where
  pub line_adds : (before after : ℕ) → IsFromFront → (IsTrue told → IsTold (basis tells state offers s) told past tells) → Tracks tells state offers s told past served p → Takes tells state offers s p line → Serves tells state offers s line p a q before after → IsTyped a
      → AddsLine tells state offers s told past served line p a q
  line_adds before after from told_so tracks takes serves fit = by_request tells state offers s told past served from told_so line.worker line.number p a q tracks fit line.request takes.asks serves.request serves.leaves
