use Rattle.std.proofs.Common.{List, [], ap, arith, min, refl, sym, ◌-◌, ◌^◌, ◌∙◌, ◌∷◌, ◌≡◌, ◌≤◌, ℕ}
use Rattle.std.proofs.lemmas.List.{append_cancel_left}
use lib.ListN.{get_elem?}
use Rattle.script_text.specs.declared.answer.Answer.TheVariants as answer
use Rattle.run_rules.specs.Runs.{faults_in}
use Rattle.run_rules.proofs.absurd.no_fault_comes_of_no_call.Goals as goal

rest_same : (x y : ℕ) (xs ys : List ℕ) → x ∷ xs ≡ y ∷ ys → xs ≡ ys
rest_same x y xs ys e = cc

pub returns-clause-made : goal.returns-clause-made
returns-clause-made c tells files name slot anchors m n script before after h one = let many = h.many in let made = h.ended.made in
    omega arith

pub returns-clause-counted : goal.returns-clause-counted
returns-clause-counted c tells files name slot anchors m n script before after h none =
    let stations : h.stations ≡ 0 ∷ 0 ∷ [] = rest_same 0 0 h.stations (0 ∷ 0 ∷ [])
    (append_cancel_left before.ended (0 ∷ h.stations) (0 ∷ 0 ∷ 0 ∷ []) (sym h.ended.ended ∙ none)) in
    let least : min (faults_in ((m, answer.Fault) ∷ [])) (2 ^ 64 - 1) ≤ 0 =
    h.faults 0 0 ((m, answer.Fault) ∷ []) refl (ap (λ (l : List ℕ). get_elem? l 0) stations) in
    absurd (omega arith)
