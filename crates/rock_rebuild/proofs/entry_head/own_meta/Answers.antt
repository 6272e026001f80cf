use Rattle.std.proofs.Common.{subst, sym, refl, ◌∙◌}
use Rattle.std.specs.Prelude.{IsTrue}
use Rattle.std.proofs.lemmas.Bool.{true≢false}
use Rattle.store_key.specs.Url.{IsUrl}
use Rattle.rock_rebuild.proofs.entry_head.own_meta.Goals as goal

pub returns-in_default : goal.returns-in_default
returns-in_default c key url n own = c.in_default.ensures.only key url n own.meta

pub returns-then-not-is_own : goal.returns-then-not-is_own
returns-then-not-is_own c key url n own =
    let read = c.in-Ok.ensures.only key url n own.meta in
    let is : IsTrue c.is_own.result = c.is_own.ensures.1 (read.0 ∙ own.slot_key, subst IsUrl (sym read.1) own.checked) in
    true≢false (sym is ∙ c.if-not-is_own.true)

pub returns : goal.returns
returns c =
    let is = c.if-not-is_own.ensures.0 refl in
    record {
      own = record { meta = c.in-Ok.ensures.found; slot_key = is.0; checked = is.1 };
      only = λ key url n spells. let read = c.in-Ok.ensures.only key url n spells in (sym read.0, sym read.1);
    }
