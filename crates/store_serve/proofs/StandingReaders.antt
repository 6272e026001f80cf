-- A tab reads so still where its pass knows more.
use Rattle.std.proofs.Common.{Bool, ap, sym, ◌∙◌, ◌≡◌, take, ◌<◌, ◌≤◌, subst, ℕ}
use Rattle.rock_disk.specs.Cell.{CellState}
use Rattle.core_model.specs.Tabs.{tab_at}
use Rattle.core_model.specs.declared.moves.Side.TheVariants.{Offer}
use Rattle.core_model.specs.declared.view.Sight.TheVariants.{Named}
use Rattle.tab_states.specs.declared.desks.Draft.{Draft}
use Rattle.store_rule.specs.declared.store.Pass.{Pass}
use Rattle.store_rule.specs.declared.store.Store.{Store}
use Rattle.store_rule.specs.Ground.{Offers}
use Rattle.store_rule.specs.Passes.{IsOf, basis, view}
use Rattle.rock_reader.specs.Reading.{ReadsAs, Standing}
use Rattle.rock_reader.specs.Wanted.{SameDesk, held_at, kept_at}
use Rattle.rock_reader.proofs.StillHalted.{stopped_on}
use Rattle.store_serve.specs.Growing.{GrowsTo}

module _ {C O : Type 0} (tells : Bool) (state : C → CellState) (offers : O → Offers) (s : Store C O) where
  pub stays : (p q : Pass C) (t : ℕ) (e : Standing) → ReadsAs tells state offers s p t e → IsOf tells state offers s q → tab_at (view q) t ≡ tab_at (view p) t → SameDesk p.desks q.desks t → GrowsTo (view p) (view q) → ReadsAs tells state offers s q t e
  stays p q t e h own tab desk keeps = record {
    own = own;
    below = h.below;
    reader = h.reader;
    is = tab ∙ h.is;
    idle = h.idle;
    anchor_is = h.anchor_is;
    version_is = h.version_is;
    place_is = h.place_is;
    offer_seen = keeps.seen (Named e.anchor e.version Offer e.offer) h.offer_seen;
    inside = h.inside;
    at_end = h.at_end;
    wanted = λ is. kept ∙ h.wanted is;
    held = λ is. subst (λ z. z ≤ (basis tells state offers s).slot) (sym held) (h.held is);
    given = λ is some. (subst (λ z. 0 < z) (sym held) (h.given is some).0, (h.given is some).1);
    other = λ is. ((h.other is).0, held ∙ (h.other is).1);
    stopped = λ is. ((h.stopped is).0, stopped_on e h.reader (view p) (view q) keeps.trail.0 keeps.trail.1 (h.stopped is).1);
  }
    where
      held : held_at q.desks t ≡ held_at p.desks t
      held = ap Draft.held desk.1

      kept : kept_at q.desks t ≡ kept_at p.desks t
      kept = λ i. take (held i) (desk.0 i)
