-- A request that names a tab.
use Rattle.std.proofs.Common.{subst, sym, ◌≡◌, ℕ}
use Rattle.script_text.specs.Tabs.{UsesTab}
use Rattle.script_text.specs.declared.request.Request.{Request}

-- what holds of a request by the tab that it names holds of it as it stands
pub at_tab : (P : Request → Type 0) (Q : ℕ → Type 0) (request r : Request) (t named : ℕ) → request ≡ r → (UsesTab r t → t ≡ named) → UsesTab request t → (Q named → P r) → Q t → P request
at_tab P Q request r t named is names on gives h = subst P (sym is) (gives (subst Q (names (subst (λ (z : Request). UsesTab z t) is on)) h))
