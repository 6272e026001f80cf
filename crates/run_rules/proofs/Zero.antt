-- Epochs of version 0: they are at EMPTY and not doomed, since each entry of a file has a version above 0.
use Rattle.std.proofs.Common.{List, [], ap, arith, length, map, refl, subst, sym, ⊎_elim, ◌++◌, ◌+◌, ◌<◌, ◌==◌, ◌∙◌, ◌∷◌, ◌≡◌, ◌≤◌}
use Rattle.std.proofs.Common.{length-append, ℕ}
use Rattle.std.specs.Prelude.{Contains, false}
use mathlib.Core.Option.{some}
use lib.ListN.{get_elem?}
use Rattle.lock_word.specs.Words.{doom_of, epoch_at, epoch_number, stage_number, stage_of, version_of}
use Rattle.lock_word.specs.declared.epoch.Epoch.{Epoch}
use Rattle.lock_word.specs.declared.stage.Stage.TheVariants as stage
use Rattle.lock_word.specs.declared.word.Word.{Word}
use Rattle.lock_word.proofs.Parts.{stage_of-epoch_number, version_of-epoch_number}
use Rattle.rebuild_model.specs.Rebuilt.{IsWinner}
use Rattle.rebuild_model.proofs.Chains.{first_belongs}
use Rattle.store_key.specs.Anchor.{anchor_of}
use Rattle.store_key.specs.Key.{key_of}
use Rattle.script_text.specs.declared.answer.Answer.{Answer}
use Rattle.script_text.specs.declared.answer.Answer.TheVariants as answer
use Rattle.script_text.specs.declared.body.Body.{Body}
use Rattle.script_text.specs.declared.line.Line.{Line}
use Rattle.script_text.specs.declared.request.Request.TheVariants.{Put}
use Rattle.core_model.specs.Anchors.{opening_epoch}
use Rattle.line_account.specs.Accounts.{epochs_of}
use Rattle.line_account.specs.Answers.{Run}
use Rattle.line_account.specs.Closing.{ShownIn, Worker}
use Rattle.line_account.specs.Lines.{Served, url_at}
use Rattle.line_account.specs.Rules.{KeepsRules}
use Rattle.line_account.specs.Scripts.{ServesScript, in_order}
use Rattle.run_rules.specs.Openings.{BeganWithFile, HadNothing, HadWinner}
use Rattle.run_rules.specs.Runs.{printed_by}
use Rattle.run_rules.proofs.Files.{anchor_below}
use Rattle.run_rules.proofs.Lists.{image}

module _ {X : Type 0} (r : Run X) (slot anchors : ℕ) (images : List (List ℕ)) (script : List Line) (crew : List Worker)
    (rules : KeepsRules r script crew) (began : BeganWithFile r slot anchors images)
    (same : r.setting.anchors ≡ anchors) (some_anchor : 0 < anchors) where
  -- a winner has a version above 0
  above : (a : ℕ) (h : HadWinner r slot anchors images a) → 0 < version_of (opening_epoch r.setting a)
  above a h =
      let c = h.winner.complete in
      let from = (first_belongs slot images h.entry.first h.entry.chain c.chain).sane.sane.version_from in
      let version = c.version in
      let at = ap version_of h.epoch in
      omega arith

  pub zero_empty : (a e : ℕ) → ShownIn r crew a e → version_of e ≡ 0 → (stage_of e ≡ 0) × (doom_of e ≡ 0)
  zero_empty a e p none = rules.epochs.empty a e p (omega arith) nothing
    where
      below : a < anchors
      below = let at = p.so.at in subst (λ n. n < anchors) (sym (at.anchor ∙ ap (λ n. anchor_of (key_of at.url) n) same))
          (anchor_below (key_of at.url) anchors some_anchor)

      nothing : stage_of (opening_epoch r.setting a) ≡ 0
      nothing = ⊎_elim
          (λ (h : HadWinner r slot anchors images a). absurd (let up = above a h in let is = (rules.epochs.old a e p (omega arith)).0 in
          omega arith))
          (λ (h : HadNothing r slot anchors images a). ap stage_of h.epoch)
          (began.each a below)

-- The one line of a worker that printed one answer.
pub record OneLine (lines : List Served) (a : Answer) : Type 0 where
  pub served : Served
  pub is : lines ≡ served ∷ []
  pub answer_is : served.answer ≡ a

pub one_line : (served : List Served) (n : ℕ) (a : Answer) → printed_by served ≡ (n, a) ∷ [] → OneLine served a
one_line [] n a e = absurd (let long = ap length e in omega arith)
one_line (s ∷ []) n a e = let one : (s.asked.number, s.answer) ≡ (n, a) = cc in
    record { served = s; is = refl; answer_is = ap (λ (p : ℕ × Answer). p.1) one }
one_line (s ∷ t ∷ rest) n a e =
    let inner = length-append (printed_by rest) ((t.asked.number, t.answer) ∷ []) in
    let outer = length-append (printed_by rest ++ (t.asked.number, t.answer) ∷ []) ((s.asked.number, s.answer) ∷ []) in
    let long = ap length e in
    absurd (omega arith)

-- No `put` of a lone worker is refused by an epoch of version 0 that is not at EMPTY.
module _ {X : Type 0} (r : Run X) (crew : List Worker) (zero : (a e : ℕ) → ShownIn r crew a e → version_of e ≡ 0
    → (stage_of e ≡ 0) × (doom_of e ≡ 0)) (url : List ℕ) (body : Body) (held : Word)
    (serves : ServesScript (record { worker = 1; number = 1; request = Put url body } ∷ []) crew)
    (printed : map (λ w. printed_by w.served) crew ≡ ((1, answer.Busy held held) ∷ []) ∷ [])
    (of : held.epoch ≡ record { version = 0; stage = stage.Freeing; doom = false }) where
  pub never_zero : ⊥
  never_zero =
      let w = image (λ (w : Worker). printed_by w.served) crew 0 ((1, answer.Busy held held) ∷ [])
      (ap (λ (l : List (List (ℕ × Answer))). get_elem? l 0) printed) in
      let l = one_line w.item.served 1 (answer.Busy held held) w.is in
      let line : Line = record { worker = 1; number = 1; request = Put url body } in
      let lines : l.served.asked ∷ [] ≡ line ∷ [] = sym (ap in_order l.is) ∙ serves 0 w.item w.at in
      let one : l.served.asked ≡ line = cc in
      let e : ℕ = epoch_number held.epoch in
      let empty = zero (anchor_of (key_of url) r.setting.anchors) e
      (record {
        j = 0;
        worker = w.item;
        at = w.at;
        later = [];
        served = l.served;
        earlier = [];
        split = l.is;
        so = record {
          at = record { url = url; named_is = ap (λ (z : Line). url_at [] z.request) one; anchor = refl };
          shown = subst (λ (z : List ℕ). Contains z e) (sym (ap (epochs_of l.served.opened l.served.looked) l.answer_is))
              (0, omega arith, refl);
        };
      })
      (version_of-epoch_number held.epoch ∙ ap (λ (z : Epoch). z.version) of) in
      let at = stage_of-epoch_number held.epoch ∙ ap (λ (z : Epoch). stage_number z.stage) of in
      let none = empty.0 in
      omega arith
