use Rattle.std.proofs.Common.{◌≡◌, ◌+◌, ◌≤◌, length, ap, ◌∙◌, arith}
use Rattle.store_key.specs.Key.{key_of}
use Rattle.store_key.specs.Anchor.{anchor_of}
use Rattle.plain_model.specs.Writing.{step}
use Rattle.plain_store.proofs.Beginning.{begin_fits}
use Rattle.plain_store.proofs.writing.begin_free.Goals as goal

pub returns : goal.returns
returns c =
    let same : length c.as_slice.result.now ≡ length c.args.url = ap length c.as_slice.ensures in
    let fits : 32 + length c.args.url ≤ c.args.setting.now.room = omega (arith, same, c.from.ensures, c.if-from-as_slice.false) in
    begin_fits c.args.setting.now c.args.tab c.args.url c.args.body c.args.offer c.args.store.now c.anchor_of-anchor.result c.new_entry-entry.result (step c.begin_at.result c.begin_at.new.store) fits
    (c.anchor_of-anchor.ensures.value ∙ ap (λ k. anchor_of k c.args.setting.now.anchors) (c.key_of.ensures ∙ ap key_of c.as_slice-2.ensures))
    c.new_entry-entry.ensures c.begin_at.ensures
