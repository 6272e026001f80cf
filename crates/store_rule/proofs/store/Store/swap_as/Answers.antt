use Rattle.std.proofs.Common.{refl}
use Rattle.store_rule.proofs.Granted.{granted}
use Rattle.store_rule.specs.Setting.{form_of}
use Rattle.store_rule.proofs.store.Store.swap_as.Goals as goal

pub swap-requires : goal.swap-requires
swap-requires g c = let r = c.requires.step in let n = c.requires.named in
    (r.own, r.within, granted (form_of g.C.Cell.tells g.C.Cell.state) _ _ _ _ _ _ _ _ _ _ r.place (λ _. c.args.new) r.here n.0 refl n.1 r.one r.pass r.becomes r.may r.asks r.on r.same r.acts)
