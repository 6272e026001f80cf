use Rattle.store_key.specs.Key.{key_of}
use Rattle.store_rule.specs.Passes.{basis}
use Rattle.crew_accounts.specs.Runs.{run_of}
use Rattle.crew_accounts.proofs.Crews.{closing}
use Rattle.crew_accounts.proofs.closed.crews_are_closed.Goals as goal

pub returns : goal.returns
returns g c s script told past accounts cells is_told h =
    let run = run_of (basis g.C.Cell.tells g.C.Cell.state g.O.Origin.offers s) told past in
    closing g.C.Cell.tells g.C.Cell.state g.O.Origin.offers g.St.Station.faults s script told past
    record {
      course = λ start end stages store fresh linked steps takes. c.shelves_have_courses.ensures.course s told past start end stages is_told store fresh linked (λ x has. (steps x has, takes x has));
      leaves = λ start end last stages has left. c.shelves_have_courses.ensures.leaves s told past start end last stages has left;
      opened = λ pass. c.accounts_grow.ensures.opened run pass;
      grows = λ start end stages begins course. c.accounts_grow.ensures.course run start end stages begins course;
      ends = λ v w served account leaves. c.accounts_grow.ensures.end run v w served account leaves;
      sizes = λ url. c.written_meta_is_spelled.ensures.size (key_of url) url (c.keys_have_16_bytes.ensures.length url);
    }
    accounts cells h
