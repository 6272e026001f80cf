-- The offers of a run, from the slots on.
use Rattle.std.proofs.Common.{Bool, List, ap, cond, ◌+◌, ◌-◌, ◌≡◌, ◌≤◌, ◌∙◌, arith, ℕ}
use Rattle.std.proofs.lemmas.Bool.{le-ltb}
use Rattle.rock_disk.specs.Cell.{CellState}
use Rattle.script_text.specs.declared.body.Body.{Body}
use Rattle.plain_model.specs.Serving.{bytes_of}
use Rattle.line_account.specs.Accounts.{IsOffered}
use Rattle.line_account.specs.Lines.{Served}
use Rattle.store_rule.specs.declared.store.Store.{Store}
use Rattle.store_rule.specs.Ground.{Ground, Offers, url_of}
use Rattle.store_rule.specs.Passes.{basis}
use Rattle.store_serve.specs.Tabs.{IsOffered as OffersBody}
use Rattle.crew_accounts.specs.Runs.{Past, run_of}

module _ (g : Ground (List ℕ)) (told : Bool) (past : Past) (offer : ℕ) (from : g.setting.slots ≤ offer) where
  pub new_url : (run_of g told past).url offer ≡ url_of g offer
  new_url = ap (λ (b : Bool). cond b (past.url offer) (url_of g offer)) (le-ltb offer g.setting.slots from)

  pub new_body : (run_of g told past).body offer ≡ g.offers.body (offer - g.setting.slots)
  new_body = ap (λ (b : Bool). cond b (past.body offer) (g.offers.body (offer - g.setting.slots))) (le-ltb offer g.setting.slots from)

module _ {C O : Type 0} (tells : Bool) (state : C → CellState) (offers : O → Offers) (s : Store C O) (told : Bool) (past : Past) where
  -- what a line offers is the offer of its number
  pub is_offered : (l : Served) (u : List ℕ) (b : Body) → OffersBody tells state offers s ((basis tells state offers s).setting.slots + l.asked.number) u b → (url : List ℕ) (body : Body) → (u ≡ url) × (b ≡ body)
      → IsOffered (run_of (basis tells state offers s) told past) l url body
  is_offered l u b h url body e = record {
    url_is = new_url (basis tells state offers s) told past ((basis tells state offers s).setting.slots + l.asked.number) (omega arith) ∙ h.url_is ∙ e.0;
    body_is = new_body (basis tells state offers s) told past ((basis tells state offers s).setting.slots + l.asked.number) (omega arith) ∙ h.body_is ∙ ap bytes_of e.1;
  }
