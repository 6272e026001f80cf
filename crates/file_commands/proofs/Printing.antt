-- Lines of entries that are printed through a buffer.
use Rattle.std.proofs.Common.{◌≡◌, ℕ, suc, List, [], ◌∷◌, ◌++◌, length, length-append, ◌∙◌, ap, append_assoc, arith, subst, sym}
use Rattle.std.proofs.lemmas.List.{append-nil}
use Rattle.std.specs.Prelude.{All, Err, IfOk, Ok, OnOk, Result}
use Rattle.std.specs.List.{flat_map}
use Rattle.rock_io.specs.LineBuffer.{Adds, Puts, held_of}
use Rattle.rock_io.specs.declared.line_buffer.LineBuffer.{LineBuffer}
use Rattle.rebuild_model.specs.declared.found.Found.{Found}
use Rattle.file_commands.specs.Listing.{line_of_found, HasShortUrl}

abbrev pub lines : List Found → List ℕ
lines found = flat_map line_of_found found

-- where no entry is left, all lines were put
pub all_put : (found left : List Found) (done taken held taken1 held1 : List ℕ) → lines found ≡ done ++ lines left → length left ≡ 0 → Puts done taken held taken1 held1 → Puts (lines found) taken held taken1 held1
all_put found [] done taken held taken1 held1 whole none p = subst (λ (z : List ℕ). Puts z taken held taken1 held1) (sym (whole ∙ append-nil done)) p
all_put found (entry ∷ left) done taken held taken1 held1 whole none p = absurd (omega (arith, none))

pub short_first : (entry : Found) (rest : List Found) → All HasShortUrl (entry ∷ rest) → HasShortUrl entry
short_first entry rest short = short 0 entry (omega arith)

pub short_rest : (entry : Found) (rest : List Found) → All HasShortUrl (entry ∷ rest) → All HasShortUrl rest
short_rest entry rest short k d within = short (suc k) d (omega (arith, within))

-- what an outcome tells
pub on_ok : {T E A B : Type 0} (r : Result T E) → (A → B) → OnOk r A → OnOk r B
on_ok (Ok x) follows told = follows told
on_ok (Err e) follows told = tt

-- three texts that were added, one after the other, are one text that was
pub adds_three : (first second third last : LineBuffer) (x y z : List ℕ) → Adds first second x → Adds second third y → Adds third last z → Adds first last (x ++ (y ++ z))
adds_three first second third last x y z p q r = record {
  held = r.held ∙ ap (λ (h : List ℕ). h ++ z) (q.held ∙ ap (λ (h : List ℕ). h ++ y) p.held) ∙ append_assoc (held_of first ++ x) y z ∙ append_assoc (held_of first) x (y ++ z);
  count = omega (arith, p.count, q.count, r.count, length-append x (y ++ z), length-append y z);
  size = r.size ∙ q.size ∙ p.size;
}

-- what holds of each value holds of the one that was answered
pub if_ok_on : {T E : Type 0} {P Q : T → Type 0} (r : Result T E) → ((x : T) → P x → Q x) → IfOk r P → IfOk r Q
if_ok_on (Ok x) follows told = follows x told
if_ok_on (Err e) follows told = tt
