-- What is kept of tab 0 is so still.
use Rattle.std.proofs.Common.{Bool, arith, subst, sym, ◌≡◌, ◌∙◌, ℕ}
use Rattle.std.specs.Prelude.{IsTrue, ◌≢◌}
use Rattle.rock_disk.specs.Cell.{CellState}
use Rattle.core_model.specs.Tabs.{tab_at}
use Rattle.core_model.specs.declared.tab.Tab.TheVariants as tab
use Rattle.store_rule.specs.declared.store.Pass.{Pass}
use Rattle.store_rule.specs.declared.store.Store.{Store}
use Rattle.store_rule.specs.Ground.{Offers}
use Rattle.store_rule.specs.Passes.{view}
use Rattle.store_serve.specs.Tabs.{Entry, Holds, IsFree, Leaves, ReadsAs, Standing, WritesAs}
use Rattle.store_serve.specs.declared.tabs.ScriptTab.{ScriptTab}
use Rattle.store_serve.specs.declared.tabs.ScriptTab.TheVariants.{Free, Reading, Writing}
use Rattle.test_forwarding_kit.specs.Standing.{IsReady}

module _ {C O : Type 0} (tells : Bool) (state : C → CellState) (offers : O → Offers) (s : Store C O) where
  -- what is said of other tabs than that of a request
  pub record Stays : Type 0 where
    pub writes : (p q : Pass C) (t j : ℕ) (e : Entry) → Leaves tells state offers s t p q → j ≢ t → WritesAs tells state offers s p j e → WritesAs tells state offers s q j e
    pub reads : (p q : Pass C) (t j : ℕ) (e : Standing) → Leaves tells state offers s t p q → j ≢ t → ReadsAs tells state offers s p j e → ReadsAs tells state offers s q j e

  -- where the request was one on tab 7
  pub holds_still : Stays → (p q : Pass C) → Leaves tells state offers s 7 p q → (kept : ScriptTab) → Holds tells state offers s p 0 kept → Holds tells state offers s q 0 kept
  holds_still stays p q leaves Free h = leaves.others 0 (λ e. omega (arith, e)) (λ e. omega (arith, e)) ∙ h
  holds_still stays p q leaves (Writing body taken) h = record { entry = h.entry; writes = stays.writes p q 7 0 h.entry leaves (λ e. omega (arith, e)) h.writes; body_is = h.body_is; taken_is = h.taken_is; inside = h.inside }
  holds_still stays p q leaves Reading h = (h.0, stays.reads p q 7 0 h.0 leaves (λ e. omega (arith, e)) h.1)

  -- a pass whose tab 0 was used alone stands ready still
  pub ready_still : (p q : Pass C) → IsReady tells state offers s p → Leaves tells state offers s 0 p q → IsReady tells state offers s q
  ready_still p q ready leaves = record {
    ready = record { own = leaves.own; inner_free = leaves.inner_free };
    free = leaves.others 7 (λ e. omega (arith, e)) (λ e. omega (arith, e)) ∙ ready.free;
  }

  -- so does one whose tab 7 was used, and is free
  pub ready_again : (p q : Pass C) → tab_at (view q) 7 ≡ tab.Free → Leaves tells state offers s 7 p q → IsReady tells state offers s q
  ready_again p q free leaves = record { ready = record { own = leaves.own; inner_free = leaves.inner_free }; free = free }

  -- the same of an equal pass and an equal mark of whether its tab 0 was used
  pub idle_still : {p q : Pass C} {i j : Bool} → p ≡ q → i ≡ j → IsReady tells state offers s q → (IsTrue j → IsFree q 0) → IsReady tells state offers s p × (IsTrue i → IsFree p 0)
  idle_still {p} {q} {i} {j} same_pass same_mark ready idle =
      subst (λ (x : Pass C). IsReady tells state offers s x × (IsTrue i → IsFree x 0)) (sym same_pass) (ready, subst (λ (b : Bool). IsTrue b → IsFree q 0) (sym same_mark) idle)
