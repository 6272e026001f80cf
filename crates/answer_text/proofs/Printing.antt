-- What an outcome of printing tells.
use Rattle.std.proofs.Common.{sym, ◌≡◌}
use Rattle.std.proofs.lemmas.Bool.{false≢true}
use Rattle.std.specs.Prelude.{Err, IsErrOf, Ok, OnErr, OnOk, Result, false, true}
use Rattle.std.specs.Result.{is_err}

pub ok_not_err : {T E : Type 0} (x : T) (e : E) → IsErrOf {T = T} {E = E} (Ok x) e → ⊥
ok_not_err x e z = cc

pub from_err : {T E A : Type 0} (r : Result T E) → is_err r ≡ true → OnErr r A → A
from_err (Ok x) e told = absurd (false≢true e)
from_err (Err x) e told = told

pub from_ok : {T E A : Type 0} (r : Result T E) → is_err r ≡ false → OnOk r A → A
from_ok (Ok x) e told = told
from_ok (Err x) e told = absurd (false≢true (sym e))
