-- What else a pass has is as it was, but for what the inner tab works on.
use Rattle.std.proofs.Common.{Bool, List, ap, get_or, refl, slice_index, subst, sym, ◌≡◌, ◌∙◌, ℕ}
use Rattle.rock_disk.specs.Cell.{CellState}
use Rattle.core_model.specs.Tabs.{inner}
use Rattle.core_model.specs.declared.tab.Tab.{Tab}
use Rattle.store_rule.specs.declared.store.Pass.{Pass}
use Rattle.store_rule.specs.declared.store.Store.{Store}
use Rattle.store_rule.specs.Ground.{Offers}
use Rattle.store_rule.specs.Passes.{view}
use Rattle.store_rule.specs.Calls.{Follows}
use Rattle.slice_chain.specs.Freeing.{FollowsTab}
use Rattle.slice_chain.specs.Wiping.{FollowsWiping}
use Rattle.rock_reader.specs.Wanted.{FollowsReader, SameDesk}
use Rattle.rock_reader.proofs.Desks.{buffer_other, draft_lent}

module _ {C O : Type 0} (tells : Bool) (state : C → CellState) (offers : O → Offers) (s : Store C O) (p q : Pass C) where
  -- what leaves all buffers as they were
  pub follows_none : FollowsTab tells state offers s inner p q → FollowsReader tells state offers s inner p q
  follows_none h = record {
    own = h.own;
    others = h.others;
    left = h.left;
    places = h.places;
    desks = λ j ne far. subst (λ (ds : _). SameDesk p.desks ds j) (sym h.desks) (refl, refl);
    hand = h.hand;
    cells = h.cells;
  }

  module _ (r : Pass C) where
    pub follows_read : FollowsTab tells state offers s inner p q → FollowsReader tells state offers s inner q r → FollowsReader tells state offers s inner p r
    follows_read first second = record {
      own = second.own;
      others = λ j ne far. second.others j ne far ∙ first.others j ne far;
      left = λ j ne far. second.left j ne far ∙ first.left j ne far;
      places = second.places ∙ first.places;
      desks = λ j ne far. subst (λ (ds : _). SameDesk ds r.desks j) first.desks (second.desks j ne far);
      hand = second.hand ∙ first.hand;
      cells = second.cells ∙ first.cells;
    }

    -- the first slot was wiped, and then the chain given back
    pub follows_wiped : (view q).tabs ≡ (view p).tabs → FollowsWiping tells state offers s p q → Follows tells state offers s inner q r → FollowsReader tells state offers s inner p r
    follows_wiped tabs first second = record {
      own = second.own;
      others = λ j ne far. second.others j ne far ∙ ap (λ (xs : List (Tab (List ℕ))). get_or xs j Tab.Free) tabs;
      left = λ j ne far. second.left j ne ∙ ap (λ (xs : List ℕ). slice_index xs j) first.left;
      places = second.places ∙ first.places;
      desks = λ j ne far. subst (λ (ds : _). SameDesk p.desks ds j) (sym (second.desks ∙ first.desks)) (buffer_other p.desks inner j first.bytes far, draft_lent p.desks inner j first.bytes);
      hand = second.hand ∙ first.hand;
      cells = second.cells ∙ first.cells;
    }
