-- Files none of which is out.
use Rattle.std.proofs.Common.{◌≡◌, inl, inr, ℕ, List, [], Bool, true, false, cond, refl, ap, sym, ◌∙◌, subst, Some}
use Rattle.std.specs.Prelude.{Result, Ok, Err, OnOk, OnErr}
use Rattle.std.specs.Ordering.{nat_cmp, eq_by_cmp}
use Rattle.std.specs.Cmp.Lexicographic.{slice_cmp}
use Rattle.std.proofs.lemmas.Cmp.{nat_list_cmp_total}
use Rattle.std.specs.FinMap.{get, get-from_entries, insert, get-insert}
use Rattle.rock_disk.specs.Created.{IsMaybeCreated}
use Rattle.rock_disk.specs.Memory.{files_of}
use Rattle.rock_disk.specs.declared.memory.entry.Entry.{Entry}
use Rattle.rock_disk.specs.File.{File, Files, NoneAway, IsNotAway, IsKept, bytes_of, cut, uncut}
use Rattle.rock_disk.proofs.Out.{by_bytes, one_name, equal_by_bytes}

pub none_away_at_first : (entries : List Entry) → entries ≡ [] → NoneAway (files_of entries)
none_away_at_first entries e name = subst IsNotAway (sym (ap (λ es. get (files_of es) name) e ∙ get-from_entries nat_list_cmp_total [] name)) tt

-- a file that is in was put in
pub home_inserted : (before after : Files) (name : List ℕ) (f : File) → IsNotAway (Some f) → after ≡ insert before name f → NoneAway before → NoneAway after
home_inserted before after name f is e home q =
    let at : get after q ≡ cond (eq_by_cmp (slice_cmp nat_cmp) q name) (Some f) (get before q) = ap (λ m. get m q) e ∙ get-insert nat_list_cmp_total before name f q in
    subst IsNotAway (sym at) (elim (eq_by_cmp (slice_cmp nat_cmp) q name) as (λ b. IsNotAway (cond b (Some f) (get before q))) [ true ↦ is | false ↦ home q ])

pub none_away_uncut : (before after : Files) (name bytes : List ℕ) → after ≡ insert before name (uncut bytes) → NoneAway before → NoneAway after
none_away_uncut before after name bytes e home = home_inserted before after name (uncut bytes) tt e home

pub none_away_kept : (slot : ℕ) (name : List ℕ) (before after : Files) → IsKept slot name before after → NoneAway before → NoneAway after
none_away_kept slot name before after (inl same) home = subst NoneAway (sym same) home
none_away_kept slot name before after (inr kept) home = home_inserted before after name (cut slot (bytes_of kept.0)) tt kept.2 home

at_a_name : (before after : Files) (name q : List ℕ) (b : Bool) → by_bytes q name ≡ b → IsMaybeCreated before after name → NoneAway before → IsNotAway (get after q)
at_a_name before after name q true e maybe home = subst (λ n. IsNotAway (get after n)) (sym (one_name q name e)) maybe.home
at_a_name before after name q false e maybe home = subst IsNotAway (sym (maybe.others q (λ same. let other : by_bytes q name ≡ true = equal_by_bytes q name same in absurd (cc)))) (home q)

pub none_away_maybe : (before after : Files) (name : List ℕ) → IsMaybeCreated before after name → NoneAway before → NoneAway after
none_away_maybe before after name maybe home q = at_a_name before after name q (by_bytes q name) refl maybe home

pub none_away_put : {E : Type 0} (r : Result (Unit {0}) E) (before after : Files) (name bytes : List ℕ) (file : File) → file ≡ uncut bytes
    → OnOk r (after ≡ insert before name file) → OnErr r (after ≡ before) → NoneAway before → NoneAway after
none_away_put (Ok x) before after name bytes file is ok err home = none_away_uncut before after name bytes (ok ∙ ap (insert before name) is) home
none_away_put (Err x) before after name bytes file is ok err home = subst NoneAway (sym err) home
