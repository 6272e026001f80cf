-- The line of a summary.
use Rattle.std.specs.Prelude.{ℕ, List, ◌++◌, codes, decimal}
use Rattle.workload.specs.declared.summary.Summary.{Summary}

abbrev pub first_part : (requests hits : ℕ) → List ℕ
first_part requests hits = codes "requests=" ++ decimal requests ++ codes " hits=" ++ decimal hits

abbrev pub second_part : (misses stored : ℕ) → List ℕ
second_part misses stored = codes " misses=" ++ decimal misses ++ codes " stored=" ++ decimal stored

abbrev pub third_part : (purged none : ℕ) → List ℕ
third_part purged none = codes " purged=" ++ decimal purged ++ codes " none=" ++ decimal none

abbrev pub last_part : (other bytes : ℕ) → List ℕ
last_part other bytes = codes " other=" ++ decimal other ++ codes " bytes=" ++ decimal bytes ++ codes "\n"

abbrev pub summary_line : Summary → List ℕ
summary_line s = codes "bench " ++ first_part s.requests s.hits ++ second_part s.misses s.stored ++ third_part s.purged s.none ++ last_part s.other s.bytes
