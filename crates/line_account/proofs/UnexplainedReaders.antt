-- Words of BUSY that no run explains.
use Rattle.std.proofs.Common.{List, [], ap, arith, cond, eq-eqb, length, refl, ◌+◌, ◌<◌, ◌∙◌, ◌∷◌, ◌≡◌, ℕ, Bool, true}
use Rattle.std.specs.Prelude.{None, Option, Some}
use mathlib.Core.Option.{some}
use lib.ListN.{get_elem?}
use Rattle.lock_word.specs.declared.word.Word.{Word}
use Rattle.script_text.specs.Requests.{url_in}
use Rattle.script_text.specs.declared.answer.Answer.TheVariants as answer
use Rattle.script_text.specs.declared.body.Body.{Body}
use Rattle.script_text.specs.declared.line.Line.{Line}
use Rattle.script_text.specs.declared.request.Request.{Request}
use Rattle.script_text.specs.declared.request.Request.TheVariants.{OpenTab, Put}
use Rattle.line_account.specs.Alone.{home}
use Rattle.line_account.specs.Answers.{AreCounted, Run, is_anchor_of, reads_at, readers_at}
use Rattle.line_account.specs.Closing.{Worker}
use Rattle.line_account.specs.Lines.{Served, closes, opens, reading, url_at}
use Rattle.line_account.specs.Rules.{KeepsRules}

module _ {X : Type 0} (r : Run X) (script : List Line) (crew : List Worker) (rules : KeepsRules r script crew) (p : Served) (url : List ℕ) (body : Body) (looked other : Word)
    (pq : p.asked.request ≡ Put url body) (pa : p.answer ≡ answer.Busy looked other) where
  -- the word that was found first counts readers so
  pub first_counted : (j : ℕ) (w : Worker) → get_elem? crew j ≡ some w → (earlier : List Served) → w.served ≡ p ∷ earlier → AreCounted (length crew) (readers_at r.setting.anchors earlier (home r url)) looked.readers
  first_counted j w at earlier is =
      (rules.answers.counted (home r url) looked other (record {
        j = j;
        worker = w;
        at = at;
        later = [];
        served = p;
        earlier = earlier;
        split = is;
        so = record { at = record { url = url; named_is = ap (url_at earlier) pq; anchor = refl }; printed = pa };
      })).0

-- a tab that was opened is among the readers there
pub opened_counts : {X : Type 0} → (r : Run X) (o : Served) (url : List ℕ) (x : ℕ) → o.asked.request ≡ OpenTab 0 url → o.answer ≡ answer.Opened x → 0 < readers_at r.setting.anchors (o ∷ []) (home r url)
opened_counts r o url x oq oa =
    let here = first in
    let total : readers_at r.setting.anchors (o ∷ []) (home r url) ≡ 0 + one 0 + one 1 + one 2 + one 3 + one 4 + one 5 + one 6 = refl in
    omega arith
  where
    one : ℕ → ℕ
    one t = cond (reads_at r.setting.anchors (home r url) (reading t (o ∷ []))) 1 0

    opened : opens 0 o.asked.request o.answer ≡ true
    opened = ap (λ (q : Request). opens 0 q o.answer) oq ∙ ap (opens 0 (OpenTab 0 url)) oa

    reading_it : reading 0 (o ∷ []) ≡ Some o
    reading_it = λ i. cond (opened i) (Some o) (cond (closes 0 o.asked.request o.answer) None None)

    there : reads_at r.setting.anchors (home r url) (Some o) ≡ true
    there = ap (is_anchor_of r.setting.anchors (home r url)) (ap url_in oq) ∙ eq-eqb (home r url) (home r url) refl

    first : one 0 ≡ 1
    first = ap (λ (z : Option Served). cond (reads_at r.setting.anchors (home r url) z) 1 0) reading_it ∙ ap (λ (b : Bool). cond b 1 0) there
