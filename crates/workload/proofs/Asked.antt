-- The request of a kind.
use Rattle.std.proofs.Common.{◌≡◌, ℕ, ◌<◌, ◌≤◌, List, Bool, false, nat_lt, ◌==◌, if◌then◌else◌, ap, ◌∙◌, lt-ltb, le-ltb}
use Rattle.script_text.specs.declared.body.Body.{Body}
use Rattle.script_text.specs.declared.request.Request.{Request}
use Rattle.script_text.specs.declared.request.Request.TheVariants.{Get, Put, Save, Purge}
use Rattle.workload.specs.Requests.{asked}

abbrev chosen : (reads stores saves : Bool) → List ℕ → Body → Request
chosen reads stores saves url body = if reads then Get url else if stores then Put url body else if saves then Save url body else Purge url

pub asked_get : (kind : ℕ) (url : List ℕ) (body : Body) → kind < 4 → asked kind url body ≡ Get url
asked_get kind url body h = ap (λ (b : Bool). chosen b (nat_lt kind 6) (kind == 6) url body) (lt-ltb kind 4 h)

pub asked_put : (kind : ℕ) (url : List ℕ) (body : Body) → 4 ≤ kind → kind < 6 → asked kind url body ≡ Put url body
asked_put kind url body h k =
    ap (λ (b : Bool). chosen b (nat_lt kind 6) (kind == 6) url body) (le-ltb kind 4 h)
    ∙ ap (λ (b : Bool). chosen false b (kind == 6) url body) (lt-ltb kind 6 k)

pub asked_save : (kind : ℕ) (url : List ℕ) (body : Body) → kind ≡ 6 → asked kind url body ≡ Save url body
asked_save kind url body h = ap (λ (k : ℕ). asked k url body) h

pub asked_purge : (kind : ℕ) (url : List ℕ) (body : Body) → kind ≡ 7 → asked kind url body ≡ Purge url
asked_purge kind url body h = ap (λ (k : ℕ). asked k url body) h
