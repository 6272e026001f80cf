use Rattle.plain_laws.proofs.Resting.{opened_rests}
use Rattle.plain_laws.proofs.Openings.{fresh_opens, fits_holds, rebuilt_fits, file_opens}
use Rattle.plain_laws.proofs.laws.stores_begin_at_rest.Goals as goal

pub returns : goal.returns
returns c = record { fresh = fresh_opens; opened = opened_rests; fits = fits_holds; kept = rebuilt_fits; file = file_opens }
