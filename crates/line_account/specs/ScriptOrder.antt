-- How a list of lines that were served is written: in the order of the script, from the left to the right.
-- In the list itself the newest line stands first, since each line finds what the lines before it left.
use Rattle.std.specs.Prelude.{List, ◌++◌, ◌∷◌}

infixl 50 ◌then◌
infixl 50 ◌followed_by◌
-- the lines `earlier`, and s behind them
pattern abbrev pub ◌then◌ : {A : Type 0} → List A → A → List A
earlier then s = s ∷ earlier

-- the lines `earlier`, and the lines `later` behind them
abbrev pub ◌followed_by◌ : {A : Type 0} → List A → List A → List A
earlier followed_by later = later ++ earlier
