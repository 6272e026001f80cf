use Rattle.std.proofs.Common.{◌≡◌, refl, ap, ◌∙◌, arith}
use Rattle.entry_cut.proofs.Filled.{next_holds}
use Rattle.entry_cut.proofs.cutter.Cutter.next.Goals as goal

pub returns-clause-holds : goal.returns-clause-holds
returns-clause-holds c page new_page filled below full h =
    let place : c.self.inside.place ≡ c.args.self.now.place = ap (λ s. s.place) c.self.view_is in
    let room : c.self.inside.room ≡ c.args.self.now.room = ap (λ s. s.room) c.self.view_is in
    next_holds c.args.self.now _ page new_page filled (c.saturating_add-self-inside.ensures ∙ omega (arith, place, below)) refl room full h
