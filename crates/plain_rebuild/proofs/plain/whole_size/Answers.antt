use Rattle.std.proofs.Common.{rules, ◌<◌, length, ◌+◌, sym, ap, subst, ◌∙◌}
use Rattle.std.specs.Bool.{◌==◌}
use Rattle.std.proofs.lemmas.Bool.{true≢false}
use Rattle.plain_rebuild.proofs.Summing.{goes_on}
use Rattle.plain_rebuild.proofs.plain.whole_size.Goals as goal

pub slots-preserved : goal.slots-preserved
slots-preserved c =
    let same = ap (λ h. h.payload_size) c.header_of_slot-header.ensures in
    let small : c.header_of_slot-header.result.payload_size < 4294967296 = search rules in
    goes_on c.args.slot c.args.images.now c.args.chain.now c.slots.left.now c.in-Some.s.now c.in-Some.rest.now c.slots.size _ c.slots.invariant (search rules) (λ none. true≢false (sym (ap (λ l. length l == 0) none) ∙ sym (c.if-is_empty.ensures)))
    (ap (λ n. c.slots.size + n) (c.from-size.ensures ∙ same))
    (subst (λ n. n < 4294967296) same small)
    (ap (λ n. n + 40) (sym same ∙ sym c.from.ensures) ∙ c.if-from.false ∙ c.from-in-Some.ensures)
