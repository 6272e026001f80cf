use Rattle.std.proofs.Common.{[], length, ap, sym, subst, ◌∙◌, arith}
use Rattle.std.proofs.lemmas.List.{append-nil, length-append}
use Rattle.slot_cell.specs.Header.{header_of, IsSane}
use Rattle.rock_rebuild.specs.Kept.{SaysHead, HasNoHead}
use Rattle.rock_rebuild.proofs.Options.{at_some, at_none}
use Rattle.rock_rebuild.proofs.Reading.{put_is}
use Rattle.rock_rebuild.proofs.slots.keep_url.Goals as goal

pub returns-in_default-clause-tells : goal.returns-in_default-clause-tells
returns-in_default-clause-tells c slots slot number image told = at_none (IsSane (header_of image) slots slot → HasNoHead number image) (λ m. SaysHead number image m.url.now m.length) c.in_default.is told

pub returns-in_default-clause-grows : goal.returns-in_default-clause-grows
returns-in_default-clause-grows c = ([], sym (append-nil c.args.urls.now.items))

pub returns-clause-tells : goal.returns-clause-tells
returns-clause-tells c slots slot number image told =
    let meta = c.in-Some.meta in
    let says = at_some (IsSane (header_of image) slots slot → HasNoHead number image) (λ m. SaysHead number image m.url.now m.length) c.in-Some.is told in
    let longer = ap length c.in_ok-extend_from_slice.ensures.items ∙ length-append c.args.urls.now.items meta.url.now in
    record {
      within = omega (arith, longer, c.len-from.ensures);
      says = subst (λ u. SaysHead number image u meta.length) (sym (put_is c.args.urls.now.items meta.url.now c.extend_from_slice.new.self.items c.len-from.result _ c.in_ok-extend_from_slice.ensures.items (omega (arith, c.len-from.ensures)) (omega arith))) says;
    }

pub returns-clause-grows : goal.returns-clause-grows
returns-clause-grows c = (c.in-Some.meta.url.now, c.in_ok-extend_from_slice.ensures.items)
