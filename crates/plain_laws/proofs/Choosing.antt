-- Where a test decides.
use Rattle.std.proofs.Common.{◌≡◌, refl, Bool, true, false, cond}

pub either : {A : Type 0} (P : A → Type 0) (b : Bool) (x y : A) → (b ≡ true → P x) → (b ≡ false → P y) → P (cond b x y)
either P true x y hx hy = hx refl
either P false x y hx hy = hy refl
