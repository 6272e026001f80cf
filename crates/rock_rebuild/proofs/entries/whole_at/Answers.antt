use Rattle.std.proofs.Common.{refl, sym, ap, subst, ◌∙◌, arith}
use Rattle.std.proofs.lemmas.Bool.{true≢false}
use Rattle.slot_cell.specs.Header.{header_of, IsSane}
use Rattle.rebuild_model.specs.Image.{image_at}
use Rattle.std.specs.Prelude.{length}
use Rattle.rock_rebuild.specs.Kept.{IsHead, HasNoHead, SaysHead}
use Rattle.rock_rebuild.specs.Left.{HasNoChain, IsChainAt}
use Rattle.rock_rebuild.proofs.Options.{at_some, at_none}
use Rattle.rock_rebuild.proofs.Following.{passed}
use Rattle.rock_rebuild.proofs.Completing.{no_head, no_header, no_chain, other_key, key_is, found, same_found}
use Rattle.rock_rebuild.proofs.entries.whole_at.Goals as goal

pub returns-in_default-clause-whole : goal.returns-in_default-clause-whole
returns-in_default-clause-whole c images file left tells = (
  passed c.args.slot images c.args.first c.args.table.now left,
  no_head c.args.slot images c.args.first
      (at_none (IsSane (header_of (image_at images c.args.first)) (length images) c.args.slot → HasNoHead c.args.first (image_at images c.args.first)) (IsHead c.args.first (image_at images c.args.first) c.args.urls.now) c.in_default.is tells),
)

pub returns-in_default-header-clause-whole : goal.returns-in_default-header-clause-whole
returns-in_default-header-clause-whole c images file left tells = (
  passed c.args.slot images c.args.first c.args.table.now left,
  no_header c.args.slot images c.args.first c.args.table.now left (sym c.header.ensures ∙ c.in_default-header.is),
)

pub returns-in_default-url_of-clause-whole : goal.returns-in_default-url_of-clause-whole
returns-in_default-url_of-clause-whole c images file left tells =
    let says = at_some (IsSane (header_of (image_at images c.args.first)) (length images) c.args.slot → HasNoHead c.args.first (image_at images c.args.first)) (IsHead c.args.first (image_at images c.args.first) c.args.urls.now) c.in-Some.is tells in
    absurd (omega (arith, says.within, c.in_default-url_of.ensures))

pub returns-in_default-2-clause-whole : goal.returns-in_default-2-clause-whole
returns-in_default-2-clause-whole c images file left tells =
    let followed = c.in_ok-size.ensures.followed images file left in (
      followed.0,
      no_chain c.args.slot images c.args.first (at_none (HasNoChain c.args.slot images c.args.first) (IsChainAt c.args.slot images c.args.first c.follow.new.chain.items) c.in_default-2.is followed.1),
    )

pub returns-then-not-is_key_of-clause-whole : goal.returns-then-not-is_key_of-clause-whole
returns-then-not-is_key_of-clause-whole c images file left tells =
    let followed = c.in_ok-size.ensures.followed images file left in
    let head = c.in-Some.head in
    let says = at_some (IsSane (header_of (image_at images c.args.first)) (length images) c.args.slot → HasNoHead c.args.first (image_at images c.args.first)) (IsHead c.args.first (image_at images c.args.first) c.args.urls.now) c.in-Some.is tells in
    let header_is = (left.told c.args.first c.in-Some-header.header (sym c.header.ensures ∙ c.in-Some-header.is)).1 in (
      followed.0,
      other_key c.args.slot images c.args.first c.key_of_slot-key.result c.in-Some-url_of.url.now head.length (key_is (length images) c.args.slot (image_at images c.args.first) c.key_of_slot-key.result c.in-Some-header.header header_is c.key_of_slot-key.ensures)
          (subst (λ u. SaysHead c.args.first (image_at images c.args.first) u head.length) (sym c.in-Some-url_of.ensures) says.says)
          (λ same. true≢false (sym (c.is_key_of.ensures.1 same) ∙ c.if-not-is_key_of.true)),
    )

pub returns-clause-whole : goal.returns-clause-whole
returns-clause-whole c images file left tells =
    let followed = c.in_ok-size.ensures.followed images file left in
    let head = c.in-Some.head in
    let header = c.in-Some-header.header in
    let says = at_some (IsSane (header_of (image_at images c.args.first)) (length images) c.args.slot → HasNoHead c.args.first (image_at images c.args.first)) (IsHead c.args.first (image_at images c.args.first) c.args.urls.now) c.in-Some.is tells in
    let header_is = (left.told c.args.first header (sym c.header.ensures ∙ c.in-Some-header.is)).1 in (
      followed.0,
      found c.args.slot images c.args.first header.version c.key_of_slot-key.result c.in-Some-url_of.url.now head.length c.follow.new.chain.items c.in-Some-2.size _ file
          (at_some (HasNoChain c.args.slot images c.args.first) (IsChainAt c.args.slot images c.args.first c.follow.new.chain.items) c.in-Some-2.is followed.1)
          (subst (λ u. SaysHead c.args.first (image_at images c.args.first) u head.length) (sym c.in-Some-url_of.ensures) says.says)
          (ap (λ h. h.version) header_is.is) (key_is (length images) c.args.slot (image_at images c.args.first) c.key_of_slot-key.result header header_is c.key_of_slot-key.ensures)
          (c.if-not-is_key_of.ensures.0 refl) (same_found c.args.first refl refl refl c.saturating_sub.ensures refl),
    )
