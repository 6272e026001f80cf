use Rattle.std.proofs.Common.{◌∙◌, ap, arith, refl, sym, ⊎_elim}
use Rattle.link_word.specs.Words.{link_number}
use Rattle.closed_counts.proofs.Walking.{behind, ends, few, goes_on}
use Rattle.closed_counts.proofs.chains.slot_behind.Goals as goal

pub returns-in_err-next : goal.returns-in_err-next
returns-in_err-next g c k s rest w spelled =
    let n = behind w c.args.slot c.link_index.result c.word.result rest c.link_index.ensures c.word.ensures spelled in
    let low = few w c.args.slot c.word.result rest n spelled in
    absurd (let none = c.in_err-next.ensures.none.0 refl in let fits = c.ranges.slots in omega arith)

pub returns-in-Next : goal.returns-in-Next
returns-in-Next g c k s rest w spelled =
    goes_on rest c.in-Next.next c.word.result
    (behind w c.args.slot c.link_index.result c.word.result rest c.link_index.ensures c.word.ensures spelled)
    (sym (ap link_number c.in-Next.is) ∙ c.in_ok-next.ensures.number)

pub returns-in-NotWritten : goal.returns-in-NotWritten
returns-in-NotWritten g c k s rest w spelled =
    let number = c.in_ok-next.ensures.number in
    ends rest c.word.result
    (behind w c.args.slot c.link_index.result c.word.result rest c.link_index.ensures c.word.ensures spelled)
    (⊎_elim (λ e. let z = ap link_number e in omega arith) (λ e. let z = ap link_number e in omega arith) c.in-NotWritten.is)
