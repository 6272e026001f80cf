-- A worker that is served alone, by any answers that it was given.
use Rattle.std.proofs.Common.{◌≡◌, ◌∙◌, ℕ, List, [], ◌∷◌, map, sym, ap, subst, arith}
use Rattle.script_text.specs.declared.line.Line.{Line}
use Rattle.script_text.specs.declared.answer.Answer.{Answer}
use Rattle.plain_model.specs.declared.store.Setting.{Setting}
use Rattle.plain_model.specs.declared.store.Plain.{Plain}
use Rattle.plain_model.specs.Serving.{answers, lines_for}
use Rattle.plain_laws.specs.Begun.{RiseAbove, begun}
use Rattle.plain_laws.specs.Renaming.{IsRenaming, renamed}
use Rattle.plain_laws.specs.Private.{IsServedAlone, answers_to, is_private, private_lines}
use Rattle.plain_laws.proofs.Course.{versions_rise}
use Rattle.plain_laws.proofs.InTurn.{begun_renamed}

-- answers that are the plain store's but for versions tell of versions that stand for one another in turn
pub told_in_turn : (s : Setting) (script : List Line) (worker : ℕ) (p : Plain) (given : List Answer) (rename : ℕ → ℕ)
    → answers_to (is_private s script worker) (lines_for worker script) given ≡ map (renamed rename) (answers s script (private_lines s script worker) p)
    → begun (private_lines s script worker) (answers_to (is_private s script worker) (lines_for worker script) given) ≡ map rename (begun (private_lines s script worker) (answers s script (private_lines s script worker) p))
told_in_turn s script worker p given rename answered =
    ap (begun (private_lines s script worker)) answered ∙ begun_renamed rename (private_lines s script worker) (answers s script (private_lines s script worker) p)

pub served_by : (s : Setting) (script : List Line) (worker : ℕ) (p : Plain) (given : List Answer) (rename : ℕ → ℕ) → IsRenaming p.counter rename
    → answers_to (is_private s script worker) (lines_for worker script) given ≡ map (renamed rename) (answers s script (private_lines s script worker) p) → IsServedAlone s script worker p given
served_by s script worker p given rename is answered = record {
  rename = rename;
  is = is;
  answered = answered;
  in_turn = told_in_turn s script worker p given rename answered;
}

-- versions that rise stand for ones that rise
rise_renamed : (counter least : ℕ) (rename : ℕ → ℕ) (versions : List ℕ) → IsRenaming counter rename → RiseAbove least versions → RiseAbove (rename least) (map rename versions)
rise_renamed counter least rename [] is rise = tt
rise_renamed counter least rename (version ∷ versions) is rise = (is.rises least version rise.0, rise_renamed counter version rename versions is rise.1)

-- they are above all that were given out before
pub served_rise : (s : Setting) (script : List Line) (worker : ℕ) (p : Plain) (given : List Answer) → IsServedAlone s script worker p given
    → RiseAbove p.counter (begun (private_lines s script worker) (answers_to (is_private s script worker) (lines_for worker script) given))
served_rise s script worker p given h = subst (RiseAbove p.counter) (sym h.in_turn)
    (subst (λ (n : ℕ). RiseAbove n (map h.rename (begun (private_lines s script worker) (answers s script (private_lines s script worker) p)))) (h.is.keeps p.counter (omega arith))
    (rise_renamed p.counter p.counter h.rename (begun (private_lines s script worker) (answers s script (private_lines s script worker) p)) h.is
    (versions_rise s script (private_lines s script worker) p)))
