use Rattle.std.proofs.Common.{[], false}
use Rattle.store_key.specs.Key.{key_of}
use Rattle.store_rule.specs.Passes.{basis}
use Rattle.crew_accounts.specs.Runs.{Past, run_of}
use Rattle.crew_accounts.proofs.Stored.{of_line}
use Rattle.crew_accounts.proofs.saved.closed_entries_are_of_lines.Goals as goal

-- nothing is said of bytes, nor of the offers of the opening
nothing : Past
nothing = record { url = λ n. []; body = λ n. [] }

pub returns : goal.returns
returns g c s script accounts cells a h lt three undoomed new =
    let run = run_of (basis g.C.Cell.tells g.C.Cell.state g.O.Origin.offers s) false nothing in
    of_line g.C.Cell.tells g.C.Cell.state g.O.Origin.offers g.St.Station.faults s script false nothing
    record {
      course = λ start end stages store fresh linked steps takes. c.shelves_have_courses.ensures.course s false nothing start end stages (λ t. cc) store fresh linked (λ x has. (steps x has, takes x has));
      leaves = λ start end last stages has left. c.shelves_have_courses.ensures.leaves s false nothing start end last stages has left;
      opened = λ pass. c.accounts_grow.ensures.opened run pass;
      grows = λ start end stages begins course. c.accounts_grow.ensures.course run start end stages begins course;
      ends = λ v w served account leaves. c.accounts_grow.ensures.end run v w served account leaves;
      sizes = λ url. c.written_meta_is_spelled.ensures.size (key_of url) url (c.keys_have_16_bytes.ensures.length url);
    }
    accounts cells h a lt three undoomed new
