-- A file's place in the list of files, and what is told once it is replaced.
use Rattle.std.proofs.Common.{◌≡◌, ◌+◌, ◌<◌, ◌≤◌, ◌++◌, ◌∷◌, [], ℕ, zero, suc, List, length, map, get_or, Bool, true, false, cond, arith, refl, ap, sym, ◌∙◌, Some, None}
use Rattle.std.proofs.Math.ListN.{set}
use Rattle.std.proofs.lemmas.List.{map-append, get_or_default}
use Rattle.std.specs.Ordering.{nat_cmp, eq_by_cmp}
use Rattle.std.specs.Cmp.Lexicographic.{slice_cmp}
use Rattle.std.specs.Str.{bytes_eq}
use Rattle.std.proofs.lemmas.Slice.Eq.{bytes_eq-Decides}
use Rattle.std.proofs.lemmas.Map.Text.{is_eq-slice_cmp}
use Rattle.std.proofs.lemmas.Cmp.{nat_list_cmp_total}
use Rattle.std.specs.List.{position, prefix_len}
use Rattle.std.specs.Prelude.{nat_lt, not, Option, is_some}
use Rattle.std.proofs.lemmas.List.Quantifiers.{position-Some}
use Rattle.std.proofs.lemmas.Bool.Decides.{nat_tests}
use Rattle.std.specs.FinMap.{get, insert, find, from_entries, from_entries_push, get-insert, get-from_entries, same_map, slice_cmp-IsAntisymmetric, nat_cmp-IsAntisymmetric}
use Rattle.rock_disk.specs.File.{File}
use Rattle.rock_disk.specs.Memory.{entry_of, file_of, files_of}
use Rattle.rock_disk.specs.declared.memory.entry.Entry.{Entry}

abbrev by_bytes : List ℕ → List ℕ → Bool
by_bytes = eq_by_cmp (slice_cmp nat_cmp)

abbrev find_file : List ℕ → List Entry → Option File
find_file name es = find (slice_cmp nat_cmp) name (map entry_of es)

-- the first entry of this name stands here
pub record IsFirst (name : List ℕ) (es : List Entry) (i : ℕ) (d : Entry) : Type 0 where
  pub within : i < length es
  pub here : bytes_eq name (get_or es i d).name ≡ true
  pub before : (k : ℕ) → k < i → bytes_eq name (get_or es k d).name ≡ false

later : {name : List ℕ} {e : Entry} {es : List Entry} {i : ℕ} {d : Entry} → IsFirst name (e ∷ es) (suc i) d → IsFirst name es i d
later f = record { within = omega (arith, f.within); here = f.here; before = λ k h. f.before (suc k) (omega arith) }

pub find_first : (name : List ℕ) (es : List Entry) (i : ℕ) (d : Entry) → IsFirst name es i d → find_file name es ≡ Some (file_of (get_or es i d).file)
find_first name [] i d f = absurd (omega (arith, f.within))
find_first name (e ∷ es) zero d f =
    let yes : by_bytes name e.name ≡ true = is_eq-slice_cmp name e.name ∙ f.here in
    ap (λ b. cond b (Some (file_of e.file)) (find_file name es)) yes
find_first name (e ∷ es) (suc i) d f =
    let no : by_bytes name e.name ≡ false = is_eq-slice_cmp name e.name ∙ f.before 0 (omega arith) in
    ap (λ b. cond b (Some (file_of e.file)) (find_file name es)) no ∙ find_first name es i d (later f)

same_name : (xs ys : List ℕ) → bytes_eq xs ys ≡ true → xs ≡ ys
same_name xs ys e = (bytes_eq-Decides xs ys).0 e

over : (b : Bool) (f g : File) → (o : _) → cond b (Some f) (cond b (Some g) o) ≡ cond b (Some f) o
over true f g o = refl
over false f g o = refl

pub find_set : (name : List ℕ) (es : List Entry) (i : ℕ) (d e' : Entry) → IsFirst name es i d → e'.name ≡ name → (q : List ℕ)
    → find_file q (set es i e') ≡ cond (by_bytes q name) (Some (file_of e'.file)) (find_file q es)
find_set name [] i d e' f n q = absurd (omega (arith, f.within))
find_set name (e ∷ es) zero d e' f n q =
    let was : e.name ≡ name = sym (same_name name e.name f.here) in
    ap (λ k. cond (by_bytes q k) (Some (file_of e'.file)) (find_file q es)) n
    ∙ (sym (over (by_bytes q name) (file_of e'.file) (file_of e.file) (find_file q es))
    ∙ ap (λ k. cond (by_bytes q name) (Some (file_of e'.file)) (cond (by_bytes q k) (Some (file_of e.file)) (find_file q es))) (sym was))
find_set name (e ∷ es) (suc i) d e' f n q =
    ap (cond (by_bytes q e.name) (Some (file_of e.file))) (find_set name es i d e' (later f) n q)
    ∙ elim (by_bytes q name) as (λ b. by_bytes q name ≡ b → cond (by_bytes q e.name) (Some (file_of e.file)) (cond b (Some (file_of e'.file)) (find_file q es))
    ≡ cond b (Some (file_of e'.file)) (cond (by_bytes q e.name) (Some (file_of e.file)) (find_file q es))) [
      | true ↦ λ t.
          let is : q ≡ name = same_name q name (sym (is_eq-slice_cmp q name) ∙ t) in
          let no : by_bytes q e.name ≡ false = ap (λ k. by_bytes k e.name) is ∙ (is_eq-slice_cmp name e.name ∙ f.before 0 (omega arith)) in
          ap (λ b. cond b (Some (file_of e.file)) (Some (file_of e'.file))) no
      | false ↦ λ t. refl
    ] refl

-- the file that is told under this name
pub got_first : (name : List ℕ) (es : List Entry) (i : ℕ) (d : Entry) → IsFirst name es i d → get (files_of es) name ≡ Some (file_of (get_or es i d).file)
got_first name es i d f = get-from_entries nat_list_cmp_total (map entry_of es) name ∙ find_first name es i d f

-- to replace the first entry of a name is to insert
pub put_first : (name : List ℕ) (es : List Entry) (i : ℕ) (d e' : Entry) → IsFirst name es i d → e'.name ≡ name → files_of (set es i e') ≡ insert (files_of es) name (file_of e'.file)
put_first name es i d e' f n =
    same_map nat_list_cmp_total (slice_cmp-IsAntisymmetric nat_cmp-IsAntisymmetric) _ _ (λ q.
    get-from_entries nat_list_cmp_total (map entry_of (set es i e')) q
    ∙ (find_set name es i d e' f n q
    ∙ (ap (cond (by_bytes q name) (Some (file_of e'.file))) (sym (get-from_entries nat_list_cmp_total (map entry_of es) q))
    ∙ sym (get-insert nat_list_cmp_total (files_of es) name (file_of e'.file) q))))

pub is_first : (name : List ℕ) (es : List Entry) (i : ℕ) (d : Entry) → position (λ e. bytes_eq name e.name) es ≡ Some i → IsFirst name es i d
is_first name es i d e =
    let all = position-Some (λ e. bytes_eq name e.name) es i d e in
    record { within = all.0; here = all.1; before = all.2 }

abbrev differs : List ℕ → Entry → Bool
differs name e = not (bytes_eq name e.name)

long_prefix : (name : List ℕ) (es : List Entry) → length es ≤ prefix_len (differs name) es → find_file name es ≡ None
long_prefix name [] h = refl
long_prefix name (e ∷ es) h =
    elim (bytes_eq name e.name) as (λ b. bytes_eq name e.name ≡ b → suc (length es) ≤ cond (not b) (1 + prefix_len (differs name) es) 0 → find_file name (e ∷ es) ≡ None) [
      | true ↦ λ t k. absurd (omega arith)
      | false ↦ λ t k.
          let no : by_bytes name e.name ≡ false = is_eq-slice_cmp name e.name ∙ t in
          ap (λ b. cond b (Some (file_of e.file)) (find_file name es)) no ∙ long_prefix name es (omega arith)
    ] refl h

past_end : (a n : ℕ) → cond (nat_lt a n) (Some a) None ≡ None → n ≤ a
past_end a n e =
    elim (nat_lt a n) as (λ b. nat_lt a n ≡ b → cond b (Some a) None ≡ None → n ≤ a) [
      | true ↦ λ t k. absurd (cc)
      | false ↦ λ t k. grind (arith, nat_tests)
    ] refl e

pub find_none : (name : List ℕ) (es : List Entry) → position (λ e. bytes_eq name e.name) es ≡ None → find_file name es ≡ None
find_none name es e = long_prefix name es (past_end _ _ e)

pub got_none : (name : List ℕ) (es : List Entry) → position (λ e. bytes_eq name e.name) es ≡ None → get (files_of es) name ≡ None
got_none name es e = get-from_entries nat_list_cmp_total (map entry_of es) name ∙ find_none name es e

pub found_at : (name : List ℕ) (es seen : List Entry) (i : ℕ) (d : Entry) → seen ≡ es → Some i ≡ position (λ e. bytes_eq name e.name) seen → d ≡ get_or es i d → get (files_of es) name ≡ Some (file_of d.file)
found_at name es seen i d same at is =
    let here : position (λ e. bytes_eq name e.name) es ≡ Some i = ap (position (λ e. bytes_eq name e.name)) (sym same) ∙ sym at in
    got_first name es i d (is_first name es i d here) ∙ ap (λ e. Some (file_of e.file)) (sym is)

pub not_at : (name : List ℕ) (es seen : List Entry) → seen ≡ es → None ≡ position (λ e. bytes_eq name e.name) seen → get (files_of es) name ≡ None
not_at name es seen same at = got_none name es (ap (position (λ e. bytes_eq name e.name)) (sym same) ∙ sym at)

pub put_at : (name : List ℕ) (es seen : List Entry) (i : ℕ) (d e' : Entry) → seen ≡ es → Some i ≡ position (λ e. bytes_eq name e.name) seen → d ≡ get_or es i d → e'.name ≡ d.name
    → files_of (set es i e') ≡ insert (files_of es) name (file_of e'.file)
put_at name es seen i d e' same at is named =
    let here : position (λ e. bytes_eq name e.name) es ≡ Some i = ap (position (λ e. bytes_eq name e.name)) (sym same) ∙ sym at in
    let first = is_first name es i d here in
    put_first name es i d e' first (named ∙ (ap (λ e. e.name) is ∙ sym (same_name name (get_or es i d).name first.here)))

pub pushed_at_end : (name : List ℕ) (es seen : List Entry) (e : Entry) → seen ≡ es → None ≡ position (λ e. bytes_eq name e.name) seen → e.name ≡ name
    → files_of (es ++ e ∷ []) ≡ insert (files_of es) name (file_of e.file)
pushed_at_end name es seen e same at is =
    let none : find_file name es ≡ None = find_none name es (ap (position (λ e. bytes_eq name e.name)) (sym same) ∙ sym at) in
    ap (from_entries {R = slice_cmp nat_cmp}) (map-append entry_of es (e ∷ []) ∙ ap (λ k. map entry_of es ++ (k, file_of e.file) ∷ []) is)
    ∙ from_entries_push nat_list_cmp_total (slice_cmp-IsAntisymmetric nat_cmp-IsAntisymmetric) (map entry_of es) name (file_of e.file) none

-- two reads at that place give one entry
pub same_at : (name : List ℕ) (es seen : List Entry) (i : ℕ) (d e : Entry) → seen ≡ es → Some i ≡ position (λ e. bytes_eq name e.name) seen → d ≡ get_or es i d → e ≡ get_or es i e → d ≡ e
same_at name es seen i d e same at is other =
    let here : position (λ e. bytes_eq name e.name) es ≡ Some i = ap (position (λ e. bytes_eq name e.name)) (sym same) ∙ sym at in
    is ∙ (get_or_default es i d e (is_first name es i d here).within ∙ sym other)

-- a file of this name is told exactly where one is found
pub told_where_found : (name : List ℕ) (es : List Entry) (place : Option ℕ) → place ≡ position (λ e. bytes_eq name e.name) es → is_some (get (files_of es) name) ≡ is_some place
told_where_found name es None at = ap is_some (got_none name es (sym at))
told_where_found name [] (Some i) at = absurd (cc)
told_where_found name (e ∷ es) (Some i) at = ap is_some (got_first name (e ∷ es) i e (is_first name (e ∷ es) i e (sym at)))
