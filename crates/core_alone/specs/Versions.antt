-- Versions that stand for versions.
use Rattle.std.specs.Prelude.{◌+◌, ◌-◌, cond, nat_le, ℕ}

-- up to the version c as before, and from the next one on as from this version on
abbrev pub renamed_from : (rename : ℕ → ℕ) → (c version : ℕ) → ℕ → ℕ
renamed_from rename c version v = cond (nat_le v c) (rename v) (version + (v - (c + 1)))
