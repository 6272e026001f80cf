-- Where the versions suffice for a script, no answer that is printed is SPENT.
use Rattle.std.proofs.Common.{Bool, Contains, List, ap, arith, map, subst, sym, ◌+◌, ◌<◌, ◌∙◌, ◌≡◌, ◌≤◌, ℕ}
use mathlib.Core.Option.{some}
use lib.ListN.{get_elem?}
use Rattle.core_model.specs.Anchors.{opening_counter}
use Rattle.lock_word.specs.Words.{version_limit}
use Rattle.script_text.specs.declared.answer.Answer.{Answer}
use Rattle.script_text.specs.declared.answer.Answer.TheVariants as answer
use Rattle.script_text.specs.declared.line.Line.{Line}
use Rattle.line_account.specs.Answers.{Run}
use Rattle.line_account.specs.Closing.{Worker}
use Rattle.line_account.specs.Rules.{KeepsRules}
use Rattle.line_account.specs.Scripts.{offering}
use Rattle.run_rules.specs.Runs.{printed_by}
use Rattle.run_rules.proofs.Full.{printed_line}
use Rattle.run_rules.proofs.Lists.{image}

pub never_spent : {X : Type 0} (r : Run X) (script : List Line) (crew : List Worker) → KeepsRules r script crew
    → opening_counter r.setting + offering script ≤ version_limit
    → (answers : List (List (ℕ × Answer))) → map (λ w. printed_by w.served) crew ≡ answers
    → (j number versions : ℕ) (mine : List (ℕ × Answer)) → get_elem? answers j ≡ some mine → Contains mine (number, answer.Spent versions) → ⊥
never_spent r script crew rules suffice answers printed j number versions mine at c =
    let i = image (λ (w : Worker). printed_by w.served) crew j mine (ap (λ (z : List (List (ℕ × Answer))). get_elem? z j) printed ∙ at) in
    let p = printed_line i.item.served (number, answer.Spent versions) (subst (λ (z : List (ℕ × Answer)). Contains z (number, answer.Spent versions))
    (sym i.is) c) in
    let bounds = rules.answers.spent versions (record {
      j = j;
      worker = i.item;
      at = i.at;
      later = p.later;
      served = p.line;
      earlier = p.earlier;
      split = p.split;
      so = ap (λ (q : ℕ × Answer). q.1) p.is;
    }) in
    let least = bounds.0 in
    let most = bounds.1 in
    absurd (omega (arith, least, most, suffice))
