-- The key of a URL.
use Rattle.std.specs.Prelude.{ℕ, List, ◌∷◌}
use Rattle.md5.specs.Md5.{md5}

-- the MD5 of a byte 1, for the one method GET, and the URL's bytes
abbrev pub key_of : List ℕ → List ℕ
key_of url = md5 (1 ∷ url)
