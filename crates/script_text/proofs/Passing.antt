-- Refusals that are passed on, and the head of a line.
use Rattle.std.proofs.Common.{◌≡◌, ℕ, ◌≤◌, List, ◌∷◌, map, Bor, Err, Ok, sym, ap, ◌∙◌}
use Rattle.std.specs.Prelude.{IfErr, Result, IsErrAnd, decimal}
use Rattle.script_text.specs.Reading.{HasHead}
use Rattle.script_text.specs.Refusals.{IfBad, ReadOr}
use Rattle.script_text.specs.Requests.{name_of}
use Rattle.script_text.specs.Words.{words_of}
use Rattle.script_text.specs.declared.verb.Verb.{Verb}
use Rattle.script_text.specs.declared.refusal.Refusal.{Refusal}
use Rattle.script_text.specs.declared.refusal.Refusal.TheVariants.{Bad, Memory}

-- what holds of a cause holds of the refusal
more_bad : (Has Holds : ℕ → Type 0) (e : Refusal) → ((cause : ℕ) → Has cause → Holds cause) → IfBad Has e → IfBad Holds e
more_bad Has Holds (Bad cause) more has = more cause has
more_bad Has Holds Memory more has = has

pub passed_on : {X : Type 0} (r : Result X Refusal) (e : Refusal) (Is : X → Type 0) (Has Holds : ℕ → Type 0) → IsErrAnd r (λ f. f ≡ e)
    → ((cause : ℕ) → Has cause → Holds cause) → IfBad Has e → ReadOr r Is Holds
passed_on (Ok x) e Is Has Holds is more has = absurd is
passed_on (Err f) e Is Has Holds is more has = rw is (more_bad Has Holds e more has)

pub refused_on : {X : Type 0} (r : Result X Refusal) (e : Refusal) (Has Holds : ℕ → Type 0) → IsErrAnd r (λ f. f ≡ e)
    → ((cause : ℕ) → Has cause → Holds cause) → IfBad Has e → IfErr r (IfBad Holds)
refused_on (Ok x) e Has Holds is more has = absurd is
refused_on (Err f) e Has Holds is more has = rw is (more_bad Has Holds e more has)

-- the head that was read off the words of a line is the line's
pub head_read : (workers : ℕ) (text : List ℕ) (worker : ℕ) (name : Verb) (items words fields : List (Bor (List ℕ))) → map (λ w. w.now) items ≡ words_of text → words ≡ items
    → (1 ≤ worker) × (worker ≤ workers) × (map (λ w. w.now) words ≡ decimal worker ∷ name_of name ∷ map (λ w. w.now) fields)
    → HasHead workers text worker name (map (λ w. w.now) fields)
head_read workers text worker name items words fields cut same (from, to, is) =
    record { from = from; to = to; spelled = sym cut ∙ ap (map (λ w. w.now)) (sym same) ∙ is }
