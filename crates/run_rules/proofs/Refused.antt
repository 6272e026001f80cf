-- The lines of two workers that were both refused.
use Rattle.std.proofs.Common.{List, [], ap, map, refl, suc, sym, zero, ◌++◌, ◌∙◌, ◌∷◌, ◌≡◌, ℕ}
use mathlib.Core.Option.{some, some-injective, some-ne-none}
use lib.ListN.{get_elem?}
use Rattle.lock_word.specs.declared.word.Word.{Word}
use Rattle.store_key.specs.Anchor.{anchor_of}
use Rattle.store_key.specs.Key.{key_of}
use Rattle.script_text.specs.declared.answer.Answer.{Answer}
use Rattle.script_text.specs.declared.answer.Answer.TheVariants as answer
use Rattle.script_text.specs.declared.body.Body.{Body}
use Rattle.script_text.specs.declared.line.Line.{Line}
use Rattle.script_text.specs.declared.request.Request.TheVariants.{Put}
use Rattle.line_account.specs.Answers.{Run}
use Rattle.line_account.specs.Closing.{LineIn, Worker}
use Rattle.line_account.specs.Lines.{IsAt, Served, url_at}
use Rattle.line_account.specs.Refusals.{Any}
use Rattle.line_account.specs.Scripts.{ServesScript, in_order}
use Rattle.run_rules.specs.Runs.{printed_by}
use Rattle.run_rules.proofs.Lists.{image}
use Rattle.run_rules.proofs.Zero.{one_line}

-- the one line of a worker
only : (s : Served) (later earlier : List Served) (x : Served) → s ∷ [] ≡ later ++ x ∷ earlier → s ≡ x
only s [] earlier x e = cc
only s (y ∷ []) earlier x e = absurd (let n : [] ≡ x ∷ earlier = cc in cc)
only s (y ∷ z ∷ later) earlier x e = absurd (let n : [] ≡ z ∷ (later ++ x ∷ earlier) = cc in cc)

mapped : {A B : Type 0} (f : A → B) (xs : List A) (k : ℕ) (x : A) → get_elem? xs k ≡ some x → get_elem? (map f xs) k ≡ some (f x)
mapped f [] k x e = absurd (some-ne-none x (sym e))
mapped f (y ∷ xs) zero x e = ap (λ z. some (f z)) (some-injective y x e)
mapped f (y ∷ xs) (suc k) x e = mapped f xs k x e

module _ (crew : List Worker) (held : Word) (printed : map (λ w. printed_by w.served) crew ≡ ((1, answer.Busy held held) ∷ [])
    ∷ ((2, answer.Busy held held) ∷ []) ∷ []) where
  abbrev busy : Answer
  busy = answer.Busy held held

  refused : (n : ℕ) (served later earlier : List Served) (s : Served) → printed_by served ≡ (n, busy) ∷ [] → served ≡ later ++ s ∷ earlier
      → s.answer ≡ busy
  refused n served later earlier s is split = let l = one_line served n busy is in
      ap Served.answer (sym (only l.served later earlier s (sym l.is ∙ split))) ∙ l.answer_is

  by_place : (j : ℕ) (w : Worker) → get_elem? crew j ≡ some w → (later earlier : List Served) (s : Served) → w.served ≡ later ++ s ∷ earlier
      → s.answer ≡ busy
  by_place j w at later earlier s split = at_index j (ap (λ (l : List (List (ℕ × Answer))). get_elem? l j) (sym printed)
      ∙ mapped (λ (w : Worker). printed_by w.served) crew j w at)
    where
      at_index : (k : ℕ) → get_elem? (((1, busy) ∷ []) ∷ ((2, busy) ∷ []) ∷ []) k ≡ some (printed_by w.served) → s.answer ≡ busy
      at_index zero e = refused 1 w.served later earlier s (sym (some-injective ((1, busy) ∷ []) (printed_by w.served) e)) split
      at_index (suc zero) e = refused 2 w.served later earlier s (sym (some-injective ((2, busy) ∷ []) (printed_by w.served) e)) split
      at_index (suc (suc k)) e = absurd (some-ne-none (printed_by w.served) (sym e))

  pub all_refused : (p : LineIn crew Any) → p.served.answer ≡ answer.Busy held held
  all_refused p = by_place p.j p.worker p.at p.later p.earlier p.served p.split

-- the first worker's line is at the anchor of its URL
pub at_home : {X : Type 0} (r : Run X) (crew : List Worker) (url : List ℕ) (body other : Body) (held : Word)
    → ServesScript (record { worker = 1; number = 1; request = Put url body } ∷ record { worker = 2; number = 2; request = Put url other }
    ∷ []) crew
    → map (λ w. printed_by w.served) crew ≡ ((1, answer.Busy held held) ∷ []) ∷ ((2, answer.Busy held held) ∷ []) ∷ []
    → LineIn crew (λ earlier s. IsAt r.setting.anchors earlier s (anchor_of (key_of url) r.setting.anchors))
at_home r crew url body other held serves printed =
    let w = image (λ (w : Worker). printed_by w.served) crew 0 ((1, answer.Busy held held) ∷ [])
    (ap (λ (l : List (List (ℕ × Answer))). get_elem? l 0) printed) in
    let l = one_line w.item.served 1 (answer.Busy held held) w.is in
    let line : Line = record { worker = 1; number = 1; request = Put url body } in
    let lines : l.served.asked ∷ [] ≡ line ∷ [] = sym (ap in_order l.is) ∙ serves 0 w.item w.at in
    let one : l.served.asked ≡ line = cc in
    record {
      j = 0;
      worker = w.item;
      at = w.at;
      later = [];
      served = l.served;
      earlier = [];
      split = l.is;
      so = record { url = url; named_is = ap (λ (z : Line). url_at [] z.request) one; anchor = refl };
    }
