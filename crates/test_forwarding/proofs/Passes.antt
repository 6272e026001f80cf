-- New passes are taken from a list, one after the other.
use Rattle.std.proofs.Common.{Bool, List, [], ap, arith, get_or, length, length-append, subst, ◌++◌, ◌∷◌, ◌≡◌, ◌∙◌, ℕ}
use Rattle.std.specs.Prelude.{All, IfSome, None, Option, Some, option_to_list}
use Rattle.std.proofs.Math.Seq.{get_or-append_seam}
use Rattle.std.proofs.lemmas.List.{get_or_append_left}
use Rattle.core_model.specs.Tabs.{inner, is_free, tab_at}
use Rattle.core_model.specs.declared.view.View.{View}
use Rattle.rock_disk.specs.Cell.{CellState}
use Rattle.store_rule.specs.declared.store.Pass.{Pass}
use Rattle.store_rule.specs.declared.store.Store.{Store}
use Rattle.store_rule.specs.Ground.{Offers}
use Rattle.store_rule.specs.Passes.{IsNewOf}
use Rattle.store_serve.specs.declared.tabs.ScriptTab.TheVariants.{Free}
use Rattle.test_forwarding_kit.specs.Standing.{IsAtWork}

module _ {C O : Type 0} (tells : Bool) (state : C → CellState) (offers : O → Offers) (s : Store C O) where
  -- a new pass is ready, and has no tab in use
  new_at_work : (p : Pass C) → IsNewOf tells state offers s p → IsAtWork tells state offers s p Free
  new_at_work p h = record {
    ready = record {
      ready = record { own = h.own; inner_free = ap (λ (v : View (List ℕ)). is_free (tab_at v inner)) h.fresh };
      free = ap (λ (v : View (List ℕ)). tab_at v 7) h.fresh;
    };
    holds = ap (λ (v : View (List ℕ)). tab_at v 0) h.fresh;
  }

  pub popped : (r : Option (Pass C)) (old new : List (Pass C)) → All (IsNewOf tells state offers s) old → old ≡ new ++ option_to_list r → IfSome r (λ p. IsAtWork tells state offers s p Free)
  popped None old new all e = tt
  popped (Some p) old new all e = new_at_work p
      (subst (IsNewOf tells state offers s) (ap (λ (xs : List (Pass C)). get_or xs (length new) p) e ∙ get_or-append_seam new p [] p)
      (all (length new) p (let l = ap length e in let m = length-append new (p ∷ []) in omega (arith, l, m))))

  pub popped_rest : (rest old new : List (Pass C)) → All (IsNewOf tells state offers s) old → old ≡ new ++ rest → All (IsNewOf tells state offers s) new
  popped_rest rest old new all e k d below = subst (IsNewOf tells state offers s) (ap (λ (xs : List (Pass C)). get_or xs k d) e ∙ get_or_append_left new rest d k below)
      (all k d (let l = ap length e in let m = length-append new rest in omega (arith, l, m)))
