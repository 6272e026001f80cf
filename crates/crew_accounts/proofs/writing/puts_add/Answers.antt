use Rattle.std.proofs.Common.{false, refl, true}
use Rattle.script_text.specs.declared.request.Request.TheVariants.{Put, Save}
use Rattle.crew_accounts.specs.Lines.{line_with}
use Rattle.crew_accounts.proofs.Offering.{puts, saves}
use Rattle.crew_accounts.proofs.PutLines.{put_adds, puts_whole, saves_whole}
use Rattle.crew_accounts.proofs.writing.puts_add.Goals as goal

pub returns-clause-put : goal.returns-clause-put
returns-clause-put g c s told past served worker number url body p q a before after tracks takes serves fit =
    put_adds g.C.Cell.tells g.C.Cell.state g.O.Origin.offers s told past served (line_with worker number (Put url body)) url body false p q a (puts url body) (puts_whole url body) tracks (serves.leaves 7 refl) takes.asks fit serves.request

pub returns-clause-save : goal.returns-clause-save
returns-clause-save g c s told past served worker number url body p q a before after tracks takes serves fit =
    put_adds g.C.Cell.tells g.C.Cell.state g.O.Origin.offers s told past served (line_with worker number (Save url body)) url body true p q a (saves url body) (saves_whole url body) tracks (serves.leaves 7 refl) takes.asks fit serves.request
