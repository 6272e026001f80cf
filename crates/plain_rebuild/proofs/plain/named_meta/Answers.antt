use Rattle.std.proofs.Common.{subst, sym, ap, refl, ◌∙◌}
use Rattle.std.specs.Prelude.{IsTrue}
use Rattle.std.proofs.lemmas.Bool.{true≢false}
use Rattle.store_key.specs.Key.{key_of}
use Rattle.store_key.specs.Url.{IsUrl}
use Rattle.plain_rebuild.proofs.plain.named_meta.Goals as goal

pub returns-in_default : goal.returns-in_default
returns-in_default c key url n named = c.in_default.ensures.only key url n named.meta

pub returns-then-not-is_named : goal.returns-then-not-is_named
returns-then-not-is_named c key url n named =
    let read = c.in-Ok.ensures.only key url n named.meta in
    let is : IsTrue c.is_named.result = c.is_named.ensures.1 (read.0 ∙ named.slot_key, read.0 ∙ named.key_of_url ∙ ap key_of (sym read.1), subst IsUrl (sym read.1) named.checked) in
    true≢false (sym is ∙ c.if-not-is_named.true)

pub returns : goal.returns
returns c =
    let is = c.if-not-is_named.ensures.0 refl in
    (record { meta = c.in-Ok.ensures.found; slot_key = is.0; key_of_url = is.1; checked = is.2 }, c.in-Ok.ensures.within)
