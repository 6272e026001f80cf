-- What a seat holds once a page was taken or given back.
use Rattle.std.proofs.Common.{Contains, subst, sym, ◌≡◌, ℕ}
use Rattle.std.specs.Prelude.{◌≢◌}
use Rattle.page_pool.proofs.Framed.{to_others}
use Rattle.page_pool.proofs.Lists.{first_in, later_in}
use Rattle.page_pool.specs.Views.{after_give, after_take}
use Rattle.page_pool.specs.declared.view.View.{View}

-- a page that was taken is held, and what was held is held still
pub has_taken : (n : ℕ) (v w : View) → w ≡ after_take n v → Contains w.held n
has_taken n v w is = subst (λ (z : View). Contains z.held n) (sym is) (first_in n v.held)

pub kept_taking : (n m : ℕ) (v w : View) → w ≡ after_take n v → Contains v.held m → Contains w.held m
kept_taking n m v w is h = subst (λ (z : View). Contains z.held m) (sym is) (later_in n m v.held h)

-- each other one is held still once it was given back
pub kept_giving : (n m : ℕ) (v w : View) → w ≡ after_give n v → m ≢ n → Contains v.held m → Contains w.held m
kept_giving n m v w is other h = subst (λ (z : View). Contains z.held m) (sym is) (to_others n m v.held other h)
