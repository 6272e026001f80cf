use Rattle.std.proofs.Common.{ap, arith, drop, length, subst, sym, take, ◌-◌, ◌≡◌, ◌∙◌}
use Rattle.std.proofs.lemmas.List.{length-take-le}
use Rattle.std.proofs.lemmas.Result.{IfErr-weaker, IfOk-weaker}
use Rattle.plain_model.specs.Serving.{bytes_of}
use Rattle.store_serve.proofs.Adds.{may_append}
use Rattle.store_serve.proofs.Letters.{both_ok, letters_many, next_ones, some_bytes, taken_letters}
use Rattle.store_serve.proofs.adding.append_some.Goals as goal

pub returns-in-Text-clause-ok : goal.returns-in-Text-clause-ok
returns-in-Text-clause-ok g c e may = let next = let text = c.as_slice.ensures ∙ sym (ap bytes_of c.in-Text.is) in let bytes = take (c.args.upto - c.args.from) (drop c.args.from c.as_slice.result.now) in
    may_append g.C.Cell.tells g.C.Cell.state g.O.Origin.offers c.args.store.now c.args.tab e _ c.args.from c.args.upto c.args.pass.now bytes may
    (subst (λ z. bytes ≡ take (length bytes) (drop c.args.from z)) text (next_ones c.as_slice.result.now c.args.from (c.args.upto - c.args.from) (let l = ap length text in let a = may.inside in let b = may.order in omega arith))) in
    IfOk-weaker c.append.result _ _ (λ count appended. (_, appended)) (c.append.ensures.ok e next)

pub returns-in-Text-clause-err : goal.returns-in-Text-clause-err
returns-in-Text-clause-err g c e may = let next = let text = c.as_slice.ensures ∙ sym (ap bytes_of c.in-Text.is) in let bytes = take (c.args.upto - c.args.from) (drop c.args.from c.as_slice.result.now) in
    may_append g.C.Cell.tells g.C.Cell.state g.O.Origin.offers c.args.store.now c.args.tab e _ c.args.from c.args.upto c.args.pass.now bytes may
    (subst (λ z. bytes ≡ take (length bytes) (drop c.args.from z)) text (next_ones c.as_slice.result.now c.args.from (c.args.upto - c.args.from) (let l = ap length text in let a = may.inside in let b = may.order in omega arith))) in
    IfErr-weaker c.append.result _ _ (λ fault stopped. (_, stopped)) (c.append.ensures.err e next)

pub append-requires-in-Made : goal.append-requires-in-Made
append-requires-in-Made g c = let e = c.requires.may.0 in let may = c.requires.may.1 in (
  e,
  let bytes = take c.min-count.result c.letters.result.now in let body = ap bytes_of c.in-Made.is in
      may_append g.C.Cell.tells g.C.Cell.state g.O.Origin.offers c.args.store.now c.args.tab e _ c.args.from c.args.upto c.args.pass.now bytes may
      (subst (λ z. bytes ≡ take (length bytes) (drop c.args.from z)) (sym body)
      (taken_letters c.in-Made.shift c.in-Made.length c.args.from c.args.upto c.min-count.result c.letters.result.now c.letters.ensures.many (omega arith) (let o = c.requires.some in omega arith)
      (let l = ap length body in let m = letters_many c.in-Made.shift c.in-Made.length in let a = may.inside in omega arith) c.letters.ensures.letters)),
)

pub returns-in-Made-clause-ok : goal.returns-in-Made-clause-ok
returns-in-Made-clause-ok g c e may = let next = let bytes = take c.min-count.result c.letters.result.now in let body = ap bytes_of c.in-Made.is in
    may_append g.C.Cell.tells g.C.Cell.state g.O.Origin.offers c.args.store.now c.args.tab e _ c.args.from c.args.upto c.args.pass.now bytes may
    (subst (λ z. bytes ≡ take (length bytes) (drop c.args.from z)) (sym body)
    (taken_letters c.in-Made.shift c.in-Made.length c.args.from c.args.upto c.min-count.result c.letters.result.now c.letters.ensures.many (omega arith) (let o = c.requires.some in omega arith)
    (let l = ap length body in let m = letters_many c.in-Made.shift c.in-Made.length in let a = may.inside in omega arith) c.letters.ensures.letters)) in
    IfOk-weaker c.append-in-Made.result _ _ (λ count appended. (_, appended)) (c.append-in-Made.ensures.ok e next)

pub returns-in-Made-clause-err : goal.returns-in-Made-clause-err
returns-in-Made-clause-err g c e may = let next = let bytes = take c.min-count.result c.letters.result.now in let body = ap bytes_of c.in-Made.is in
    may_append g.C.Cell.tells g.C.Cell.state g.O.Origin.offers c.args.store.now c.args.tab e _ c.args.from c.args.upto c.args.pass.now bytes may
    (subst (λ z. bytes ≡ take (length bytes) (drop c.args.from z)) (sym body)
    (taken_letters c.in-Made.shift c.in-Made.length c.args.from c.args.upto c.min-count.result c.letters.result.now c.letters.ensures.many (omega arith) (let o = c.requires.some in omega arith)
    (let l = ap length body in let m = letters_many c.in-Made.shift c.in-Made.length in let a = may.inside in omega arith) c.letters.ensures.letters)) in
    IfErr-weaker c.append-in-Made.result _ _ (λ fault stopped. (_, stopped)) (c.append-in-Made.ensures.err e next)

pub returns-in-Made-clause-some : goal.returns-in-Made-clause-some
returns-in-Made-clause-some g c = let long = length-take-le c.min-count.result c.letters.result.now (let m = c.letters.ensures.many in omega arith) in
    IfOk-weaker c.append-in-Made.result _ _ (λ count both. (both.0, let h = both.1 in let o = c.requires.some in omega arith))
    (both_ok _ _ c.append-in-Made.result (c.append-in-Made.ensures.some (some_bytes _ (let o = c.requires.some in omega arith))) c.append-in-Made.ensures.within)

pub returns-in-Text-clause-durable : goal.returns-in-Text-clause-durable
returns-in-Text-clause-durable g c e may logged = let next = let text = c.as_slice.ensures ∙ sym (ap bytes_of c.in-Text.is) in let bytes = take (c.args.upto - c.args.from) (drop c.args.from c.as_slice.result.now) in
    may_append g.C.Cell.tells g.C.Cell.state g.O.Origin.offers c.args.store.now c.args.tab e _ c.args.from c.args.upto c.args.pass.now bytes may
    (subst (λ z. bytes ≡ take (length bytes) (drop c.args.from z)) text (next_ones c.as_slice.result.now c.args.from (c.args.upto - c.args.from) (let l = ap length text in let a = may.inside in let b = may.order in omega arith))) in
    c.append.ensures.durable e next logged

pub returns-in-Made-clause-durable : goal.returns-in-Made-clause-durable
returns-in-Made-clause-durable g c e may logged = let next = let bytes = take c.min-count.result c.letters.result.now in let body = ap bytes_of c.in-Made.is in
    may_append g.C.Cell.tells g.C.Cell.state g.O.Origin.offers c.args.store.now c.args.tab e _ c.args.from c.args.upto c.args.pass.now bytes may
    (subst (λ z. bytes ≡ take (length bytes) (drop c.args.from z)) (sym body)
    (taken_letters c.in-Made.shift c.in-Made.length c.args.from c.args.upto c.min-count.result c.letters.result.now c.letters.ensures.many (omega arith) (let o = c.requires.some in omega arith)
    (let l = ap length body in let m = letters_many c.in-Made.shift c.in-Made.length in let a = may.inside in omega arith) c.letters.ensures.letters)) in
    c.append-in-Made.ensures.durable e next logged
