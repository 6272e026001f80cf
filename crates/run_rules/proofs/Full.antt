-- In a run that fits no answer that is printed is FULL.
use Rattle.std.proofs.Common.{Contains, IsTrue, List, [], ap, map, refl, subst, sym, ⊎_elim, ◌++◌, ◌∙◌, ◌∷◌, ◌≡◌, ℕ}
use Rattle.std.proofs.lemmas.List.Elements.{Contains-push_cases}
use mathlib.Core.Option.{some}
use lib.ListN.{get_elem?}
use Rattle.script_text.specs.declared.answer.Answer.{Answer}
use Rattle.script_text.specs.declared.answer.Answer.TheVariants as answer
use Rattle.script_text.specs.declared.line.Line.{Line}
use Rattle.core_model.proofs.Lists.{contains_none}
use Rattle.line_account.specs.Answers.{Run}
use Rattle.line_account.specs.Closing.{Worker}
use Rattle.line_account.specs.Lines.{Served}
use Rattle.line_account.specs.Rules.{KeepsRules}
use Rattle.run_rules.specs.Runs.{printed_by}
use Rattle.run_rules.proofs.Lists.{image}

-- one of these lines printed this
pub record IsPrinted (served : List Served) (told : ℕ × Answer) : Type 0 where
  pub later : List Served
  pub line : Served
  pub earlier : List Served
  pub split : served ≡ later ++ line ∷ earlier
  pub is : (line.asked.number, line.answer) ≡ told

pub printed_line : (served : List Served) (told : ℕ × Answer) → Contains (printed_by served) told → IsPrinted served told
printed_line [] told c = absurd (contains_none told c)
printed_line (s ∷ earlier) told c = ⊎_elim
    (λ (h : Contains (printed_by earlier) told).
    let p = printed_line earlier told h in record {
      later = s ∷ p.later;
      line = p.line;
      earlier = p.earlier;
      split =
          ap (λ (z : List Served). s ∷ z) p.split;
      is = p.is;
    })
    (λ (e : (s.asked.number, s.answer) ≡ told). record { later = []; line = s; earlier = earlier; split = refl; is = e })
    (Contains-push_cases (printed_by earlier) (s.asked.number, s.answer) told c)

pub never_full : {X : Type 0} (r : Run X) (script : List Line) (crew : List Worker) → KeepsRules r script crew → IsTrue r.fits
    → (answers : List (List (ℕ × Answer))) → map (λ w. printed_by w.served) crew ≡ answers
    → (j number : ℕ) (mine : List (ℕ × Answer)) → get_elem? answers j ≡ some mine → Contains mine (number, answer.Full) → ⊥
never_full r script crew rules fit answers printed j number mine at c =
    let i = image (λ (w : Worker). printed_by w.served) crew j mine (ap (λ (z : List (List (ℕ × Answer))). get_elem? z j) printed ∙ at) in
    let p = printed_line i.item.served (number, answer.Full) (subst (λ (z : List (ℕ × Answer)). Contains z (number, answer.Full))
    (sym i.is) c) in
    rules.answers.full fit (record {
      j = j;
      worker = i.item;
      at = i.at;
      later = p.later;
      served = p.line;
      earlier = p.earlier;
      split =
          p.split;
      so = ap (λ (q : ℕ × Answer). q.1) p.is;
    })
