-- Bad lines, told by their numbers.
use Rattle.std.proofs.Common.{◌≡◌, ℕ, ◌+◌, ◌-◌, ◌<◌, List, ◌∷◌, ◌++◌, length, get_or, take, drop, ap, sym, ◌∙◌, subst, append_assoc, add-one}
use Rattle.std.proofs.Math.Seq.{drop-cons, take-add}
use Rattle.std.proofs.lemmas.List.{take-append-drop, take_rest}
use Rattle.script_text.specs.Reading.{lines_read, IsFront}
use Rattle.script_text.specs.Refusals.{IfBad, IfBadLine, fault_behind}
use Rattle.script_text.specs.Script.{IsBadScript}
use Rattle.script_text.specs.declared.fault.ScriptFault.{ScriptFault}
use Rattle.script_text.specs.declared.reading.Reading.{Reading}
use Rattle.script_text.specs.declared.refusal.Refusal.{Refusal}
use Rattle.script_text.specs.declared.refusal.Refusal.TheVariants.{Bad, Memory}

-- a refusal is told by the number of its line
pub told : (lines : ℕ) (refusal : Refusal) (fault : ScriptFault) (Has : ℕ → Type 0) (Is : ℕ → ℕ → Type 0) → fault ≡ fault_behind lines refusal
    → IfBad Has refusal → ((cause : ℕ) → Has cause → Is (lines + 1) cause) → IfBadLine Is fault
told lines (Bad cause) fault Has Is same has so = subst (λ (f : ScriptFault). IfBadLine Is f) (sym same) (so cause has)
told lines Memory fault Has Is same has so = subst (λ (f : ScriptFault). IfBadLine Is f) (sym same) tt

-- a text that is cut at one of its line feeds
pub cut_at_feed : (bytes rest : List ℕ) (end : ℕ) → end < length bytes → get_or bytes end 0 ≡ 10 → take end bytes ++ 10 ∷ (drop (end + 1) bytes ++ rest) ≡ bytes ++ rest
cut_at_feed bytes rest end within feed =
    let whole : take end bytes ++ (10 ∷ drop (end + 1) bytes) ≡ bytes =
    ap (λ b. take end bytes ++ (b ∷ drop (end + 1) bytes)) (sym feed) ∙ ap (λ n. take end bytes ++ (get_or bytes end 0 ∷ drop n bytes)) (add-one end)
    ∙ ap (λ l. take end bytes ++ l) (sym (drop-cons bytes end 0 within)) ∙ take-append-drop end bytes in
    sym (append_assoc (take end bytes) (10 ∷ drop (end + 1) bytes) rest) ∙ ap (λ l. l ++ rest) whole

-- a bad line behind the bytes that were taken
pub bad_at : (old now : Reading) (bytes : List ℕ) (taken number : ℕ) (cause : ℕ) → number ≡ length (lines_read now) → now.workers ≡ old.workers
    → ((front : List ℕ) → IsFront old front → IsFront now (front ++ take taken bytes))
    → ((front rest : List ℕ) → IsFront now front → IsBadScript now.workers (front ++ (take (length bytes - taken) (drop taken bytes) ++ rest)) (length (lines_read now) + 1) cause)
    → (front rest : List ℕ) → IsFront old front → IsBadScript old.workers ((front ++ bytes) ++ rest) (number + 1) cause
bad_at old now bytes taken number cause same workers fronts bad front rest was =
    let whole : (front ++ take taken bytes) ++ (take (length bytes - taken) (drop taken bytes) ++ rest) ≡ (front ++ bytes) ++ rest =
    ap (λ l. (front ++ take taken bytes) ++ (l ++ rest)) (take_rest bytes taken)
    ∙ sym (append_assoc (front ++ take taken bytes) (drop taken bytes) rest)
    ∙ ap (λ l. l ++ rest) (append_assoc front (take taken bytes) (drop taken bytes) ∙ ap (λ l. front ++ l) (take-append-drop taken bytes)) in
    subst (λ (n : ℕ). IsBadScript old.workers ((front ++ bytes) ++ rest) (n + 1) cause) (sym same)
    (subst (λ (w : ℕ). IsBadScript w ((front ++ bytes) ++ rest) (length (lines_read now) + 1) cause) workers
    (subst (λ (text : List ℕ). IsBadScript now.workers text (length (lines_read now) + 1) cause) whole
    (bad (front ++ take taken bytes) rest (fronts front was))))

-- the bytes that were taken, and then some of the others
pub front_on : (now : Reading) (front bytes : List ℕ) (taken count : ℕ) → IsFront now ((front ++ take taken bytes) ++ take count (take (length bytes - taken) (drop taken bytes)))
    → IsFront now (front ++ take (taken + count) bytes)
front_on now front bytes taken count = subst (λ (text : List ℕ). IsFront now text)
    (append_assoc front (take taken bytes) _ ∙ ap (λ l. front ++ (take taken bytes ++ take count l)) (take_rest bytes taken) ∙ ap (λ l. front ++ l) (sym (take-add taken count bytes)))
