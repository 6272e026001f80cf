-- What an outcome tells.
use Rattle.std.specs.Prelude.{Err, IfErr, IfOk, IsErrOf, Ok, Result}

module _ {T E : Type 0} where
  pub ok_not_err : (x : T) (e : E) → IsErrOf {T = T} {E = E} (Ok x) e → ⊥
  ok_not_err x e z = cc

  pub if_ok : (P Q : T → Type 0) (r : Result T E) → ((x : T) → P x → Q x) → IfOk r P → IfOk r Q
  if_ok P Q (Ok x) follows h = follows x h
  if_ok P Q (Err e) follows h = tt

  pub if_err : (P Q : E → Type 0) (r : Result T E) → ((e : E) → P e → Q e) → IfErr r P → IfErr r Q
  if_err P Q (Ok x) follows h = tt
  if_err P Q (Err e) follows h = follows e h

-- an error is the same whatever would have come of it
pub err_same : {T U E : Type 0} (e f : E) → IsErrOf {T = T} {E = E} (Err e) f → IsErrOf {T = U} {E = E} (Err e) f
err_same e f h = cc
