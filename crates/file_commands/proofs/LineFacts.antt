-- The lines of what a scan finds, and of what a tally counts.
use Rattle.std.proofs.Common.{◌≡◌, ℕ, ◌-◌, ◌<◌, List, [], ◌∷◌, ◌++◌, length, map, get_or, refl, ap, sym, subst, arith, ◌∙◌}
use Rattle.std.specs.Prelude.{All, Contains, Bool, Result, Ok, Err, IfOk, IsTrue}
use Rattle.std.proofs.lemmas.List.{length-map, get_or-map, get_or_default}
use Rattle.std.specs.List.{flat_map}
use Rattle.rebuild_model.specs.Entry.{Entry, found_of}
use Rattle.rebuild_model.specs.declared.rebuilt.Rebuilt.{Rebuilt}
use Rattle.rock_rebuild.specs.Scan.{IsScan}
use Rattle.rock_rebuild.specs.Tally.{Counts, IsTally, used_in}
use Rattle.rock_rebuild.specs.declared.outcome.Tally.{Tally}
use Rattle.rock_rebuild.specs.declared.outcome.Scan.{Scan}
use Rattle.file_commands.specs.Listing.{line_of, line_of_found, HasShortUrl, Lists}
use Rattle.file_commands.specs.Summary.{Sums, summary, line_of_tally, line_of_rebuilt}

same_lines : (entries : List Entry) → flat_map line_of_found (map found_of entries) ≡ flat_map line_of entries
same_lines [] = refl
same_lines (e ∷ entries) = ap (λ t. line_of e ++ t) (same_lines entries)

-- the lines of what was found list the slots
pub lists : (slot : ℕ) (images : List (List ℕ)) (scan : Scan) → IsScan slot images scan → Lists slot images (flat_map line_of_found scan.found)
lists slot images scan s = record {
  entries = s.entries;
  complete = s.complete;
  every = s.every;
  ordered = s.ordered;
  joined = ap (flat_map line_of_found) s.told ∙ same_lines s.entries;
}

some_entry : Entry
some_entry = record { first = 0; version = 0; key = []; url = []; chain = []; body = [] }

-- URLs that were found are short
pub short_urls : (slot : ℕ) (images : List (List ℕ)) (scan : Scan) → IsScan slot images scan → All HasShortUrl scan.found
short_urls slot images scan s = subst (All HasShortUrl) (sym s.told) (λ k d within.
    let inside : k < length s.entries = omega (arith, within, length-map s.entries found_of) in
    let e = get_or s.entries k some_entry in
    let there : Contains s.entries e = (k, inside, get_or_default s.entries k e some_entry inside) in
    subst HasShortUrl (sym (get_or-map found_of s.entries k some_entry d inside)) (s.complete e there).url.short)

told_by : (r : Rebuilt) (t : Tally) → Counts r t → line_of_tally t ≡ line_of_rebuilt r
told_by r t c =
    ap (λ n. summary n t.kept t.used (n - t.used) t.greatest) c.slots
    ∙ ap (λ n. summary (length r.owner) n t.used (length r.owner - t.used) t.greatest) c.kept
    ∙ ap (λ n. summary (length r.owner) (length r.winners) n (length r.owner - n) t.greatest) c.used
    ∙ ap (λ n. summary (length r.owner) (length r.winners) (used_in r.owner) (length r.owner - used_in r.owner) n) c.greatest

-- the line of a tally sums up the slots
pub sums : {E : Type 0} (r : Result Tally E) (tells : Bool) (anchors slot : ℕ) (images : List (List ℕ)) → IfOk r (λ t. IsTrue tells → IsTally slot images anchors t) → IfOk r (λ t. IsTrue tells → Sums anchors slot images (line_of_tally t))
sums (Ok t) tells anchors slot images counted = λ is. let k = counted is in record { rebuilt = k.rebuilt; is = k.is; told = told_by k.rebuilt t k.counts }
sums (Err e) tells anchors slot images counted = tt
