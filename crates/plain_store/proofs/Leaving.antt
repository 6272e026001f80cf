-- Leaving goes on by one tab.
use Rattle.std.proofs.Common.{◌≡◌, ℕ, ◌+◌, ◌-◌, ◌<◌, ap}
use Rattle.std.specs.List.{range_with_len}
use Rattle.plain_model.specs.declared.store.Plain.{Plain}
use Rattle.plain_model.specs.Serving.{leave, leave_all}
use Rattle.plain_store.proofs.Turning.{more_left}

pub leave_on : (i n : ℕ) (p : Plain) → i < n → leave_all (range_with_len i (n - i)) p ≡ leave_all (range_with_len (i + 1) (n - (i + 1))) (leave i p)
leave_on i n p h = ap (λ m. leave_all (range_with_len i m) p) (more_left i n h)
