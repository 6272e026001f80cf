use Rattle.std.proofs.Common.{length, map, sym, subst, arith}
use Rattle.file_commands.specs.Report.{Fits, Prints, text_of}
use Rattle.file_commands.specs.declared.report.Reading.TheVariants as reading
use Rattle.file_commands.proofs.report.Report.read.Goals as goal

pub summed-requires-clause-some : goal.summed-requires-clause-some
summed-requires-clause-some g c = let fits = subst (λ r. Fits r (length c.args.cells.now)) c.in-Summary.is c.requires.fits in omega (arith, fits.from)

pub returns-in_ok-entries-in-Listing-clause-prints : goal.returns-in_ok-entries-in-Listing-clause-prints
returns-in_ok-entries-in-Listing-clause-prints g c t = subst (λ r. Prints r c.args.slot (map (λ d. d.now) (map g.St.C.Cell.state c.args.cells.now)) (text_of (reading.Entries c.in_ok-entries-in-Listing.entries))) (sym c.in-Listing.is) (c.in_ok-entries-in-Listing.ensures.lists t)

pub returns-in_ok-sums-in-Summary-clause-prints : goal.returns-in_ok-sums-in-Summary-clause-prints
returns-in_ok-sums-in-Summary-clause-prints g c t = subst (λ r. Prints r c.args.slot (map (λ d. d.now) (map g.St.C.Cell.state c.args.cells.now)) (text_of (reading.Sums c.in_ok-sums-in-Summary.sums))) (sym c.in-Summary.is) (c.in_ok-sums-in-Summary.ensures.sums t)
