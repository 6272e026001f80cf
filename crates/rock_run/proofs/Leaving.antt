-- Who may go to an anchor that the lines of a script leave to one pass.
use Rattle.std.proofs.Common.{◌∙◌, ◌-◌, ◌==◌, ◌∷◌, ◌≡◌, Bool, Contains, List, [], ap, arith, cond, eq-eqb, false, refl, sym, true, unwrap_or, ⊎_elim, ℕ}
use Rattle.std.specs.List.{filter, list_all}
use Rattle.std.specs.Option.{option_map_or}
use Rattle.std.specs.Prelude.{None, Option, Some, find}
use Rattle.std.proofs.lemmas.Bool.{eqb-true}
use Rattle.std.proofs.lemmas.List.Elements.{All-contains}
use Rattle.std.proofs.lemmas.List.Sums.{AllPass-from_list_all}
use Rattle.marks.proofs.Lists.{cons_cases, later_in, to_filter}
use Rattle.script_text.specs.Requests.{url_in}
use Rattle.script_text.specs.declared.line.Line.{Line}
use Rattle.store_key.specs.Anchor.{anchor_of}
use Rattle.store_key.specs.Key.{key_of}
use Rattle.rock_run.specs.Leaving.{leaves_to, names_at, pass_of_all}

-- what is found in a list is in it
pub found_among : (p : Line → Bool) (lines : List Line) (line : Line) → find p lines ≡ Some line → Contains lines line
found_among p [] line e = absurd (none_some e)
  where
    none_some : None ≡ Some line → ⊥
    none_some z = cc
found_among p (x ∷ xs) line e = by_case (p x) e (found_among p xs line)
  where
    by_case : (b : Bool) → cond b (Some x) (find p xs) ≡ Some line → (find p xs ≡ Some line → Contains xs line) → Contains (x ∷ xs) line
    by_case true q rest = (0, omega arith, ap (λ (o : Option Line). unwrap_or o x) q)
    by_case false q rest = later_in x line xs (rest q)

-- where lines are all of one worker, it is that of each of them
one_worker : (lines : List Line) (pass : ℕ) → pass_of_all lines ≡ Some pass → (line : Line) → Contains lines line → pass ≡ line.worker - 1
one_worker [] pass e line among = absurd (let lt = among.1 in omega arith)
one_worker (first ∷ rest) pass e line among = by_case (list_all same rest) refl e
  where
    same : Line → Bool
    same other = other.worker == first.worker

    of_first : list_all same rest ≡ true → line.worker ≡ first.worker
    of_first all = ⊎_elim
        (λ (is : first ≡ line). ap Line.worker (sym is))
        (λ (c : Contains rest line). eqb-true line.worker first.worker (All-contains (λ (l : Line). same l ≡ true) rest line (AllPass-from_list_all same rest all) c))
        (cons_cases first line rest among)

    by_case : (b : Bool) → list_all same rest ≡ b → cond b (Some (first.worker - 1)) None ≡ Some pass → pass ≡ line.worker - 1
    by_case true all q = let number : first.worker - 1 ≡ pass = ap (λ (o : Option ℕ). unwrap_or o 0) q in sym number ∙ ap (λ (n : ℕ). n - 1) (sym (of_first all))
    by_case false all q = cc

-- a line that names a URL is of the worker to whose pass the URL's anchor is left, if it is
pub left_to_worker : (anchors : ℕ) (lines : List Line) (line : Line) (url : List ℕ) → Contains lines line → url_in line.request ≡ Some url
    → (pass : ℕ) → leaves_to anchors (anchor_of (key_of url) anchors) lines ≡ Some pass → pass ≡ line.worker - 1
left_to_worker anchors lines line url among named pass e =
    let here : ℕ = anchor_of (key_of url) anchors in
    let names : Line → Bool = λ l. names_at anchors here l.request in
    let it_names : names line ≡ true =
    ap (λ (o : Option (List ℕ)). option_map_or (λ (u : List ℕ). anchor_of (key_of u) anchors == here) o false) named ∙ eq-eqb here here refl in
    one_worker (filter names lines) pass e line (to_filter names lines line it_names among)
