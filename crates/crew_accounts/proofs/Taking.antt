-- A pass takes at each of its lines what it took at the start, since it is the same pass.
use Rattle.std.proofs.Common.{Bool, Contains, List, [], ap, inl, inr, refl, subst, sym, ◌∙◌, ◌∷◌, ◌≡◌, ◌⊎◌, ℕ}
use Rattle.rock_disk.specs.Cell.{CellState}
use Rattle.script_text.specs.Tabs.{UsesTab}
use Rattle.script_text.specs.declared.line.Line.{Line}
use Rattle.script_text.specs.declared.request.Request.{Request}
use Rattle.script_text.specs.declared.request.Request.TheVariants.{Add, Await, Begin, CloseTab, DropTab, End, Mark, More, OpenTab}
use Rattle.core_model.specs.declared.view.View.{View}
use Rattle.core_model.proofs.Lists.{cons_contains, contains_none}
use Rattle.store_rule.specs.declared.store.Pass.{Pass}
use Rattle.store_rule.specs.declared.store.Store.{Store}
use Rattle.store_rule.specs.Ground.{Offers}
use Rattle.store_rule.specs.Passes.{view}
use Rattle.worker_pool.specs.Courses.{IsServed, Linked, Stage}
use Rattle.store_serve.specs.Serving.{Takes}
use Rattle.worker_shelf.specs.Shelves.{OnShelf, Went}
use Rattle.worker_shelf.specs.Playing.{IsStep, StepOn}
use Rattle.crew_accounts.proofs.CrewLists.{behind, first}

-- a request that is served uses a tab
pub uses : (request : Request) → IsServed request → (tab : ℕ) × UsesTab request tab
uses (Begin tab url body) served = (tab, refl)
uses (Add tab count) served = (tab, refl)
uses (End tab) served = (tab, refl)
uses (DropTab tab) served = (tab, refl)
uses (OpenTab tab url) served = (tab, refl)
uses (More tab) served = (tab, refl)
uses (CloseTab tab) served = (tab, refl)
uses (Mark mark) served = absurd served
uses (Await mark) served = absurd served
uses _ served = (7, refl)

module _ {C O St : Type 0} (tells : Bool) (state : C → CellState) (offers : O → Offers) (faults : St → ℕ) where
  abbrev number_of : OnShelf C O St → ℕ
  number_of shelf = (view shelf.pass).pass

  went : (x : Stage (OnShelf C O St)) (request : Request) → x.line.request ≡ request → IsServed request → Went tells state offers faults x.before x.line x.answer x.after → number_of x.after ≡ number_of x.before
  went x request is served h = let t = uses x.line.request (subst IsServed (sym is) served) in (h.serves.leaves t.0 t.1).keeps.pass

  same : (x : Stage (OnShelf C O St)) (request : Request) → x.line.request ≡ request → StepOn tells state offers faults request x.before x.line x.answer x.after → number_of x.after ≡ number_of x.before
  same x (Mark mark) is step = ap View.pass step.1.noted.view_is
  same x (Await mark) is (inl met) = ap View.pass met.1.notes.view_is ∙ ap View.pass met.1.learns.view_is
  same x (Await mark) is (inr unmet) = ap number_of unmet.1
  same x request is step = went x request is tt step

  -- each line begins on the pass of the start
  one_pass : (stages : List (Stage (OnShelf C O St))) (start last : OnShelf C O St) → Linked start stages last → ((x : Stage (OnShelf C O St)) → Contains stages x → IsStep tells state offers faults x)
      → (x : Stage (OnShelf C O St)) → Contains stages x → number_of x.before ≡ number_of start
  one_pass [] start last linked steps x h = absurd (contains_none x h)
  one_pass (y ∷ stages) start last linked steps x h = either (cons_contains y x stages h) (one_pass stages y.after last linked.1 (λ z g. steps z (behind y stages z g)) x)
    where
      either : (y ≡ x) ⊎ Contains stages x → (Contains stages x → number_of x.before ≡ number_of y.after) → number_of x.before ≡ number_of start
      either (inl e) rest = ap (λ (z : Stage (OnShelf C O St)). number_of z.before) (sym e) ∙ ap number_of linked.0
      either (inr g) rest = rest g ∙ same y y.line.request refl (steps y (first y stages)) ∙ ap number_of linked.0

  -- what one pass takes another one with its number takes
  takes_too : (s : Store C O) (p q : Pass C) (line : Line) → (view q).pass ≡ (view p).pass → Takes tells state offers s p line → Takes tells state offers s q line
  takes_too s p q line number h = record { asks = h.asks; goes = λ url named pass alone. h.goes url named pass alone ∙ sym number }

  pub still_takes : (s : Store C O) (stages : List (Stage (OnShelf C O St))) (start last : OnShelf C O St) → Linked start stages last → ((x : Stage (OnShelf C O St)) → Contains stages x → IsStep tells state offers faults x)
      → ((x : Stage (OnShelf C O St)) → Contains stages x → IsServed x.line.request → Takes tells state offers s start.pass x.line)
      → (x : Stage (OnShelf C O St)) → Contains stages x → IsServed x.line.request → Takes tells state offers s x.before.pass x.line
  still_takes s stages start last linked steps takes x h served = takes_too s start.pass x.before.pass x.line (one_pass stages start last linked steps x h) (takes x h served)
