use Rattle.std.proofs.Common.{ap, arith, inl, refl, subst, sym, ◌∙◌, ◌≡◌}
use Rattle.std.specs.Prelude.{Err, Ok, OnErr, Result, false, ℕ}
use Rattle.core_model.specs.Tabs.{inner}
use Rattle.plain_model.specs.Serving.{bytes_of}
use Rattle.store_rule.specs.Passes.{view}
use Rattle.rock_writer.specs.declared.fault.BeginFault.{BeginFault}
use Rattle.rock_writer.specs.declared.fault.BeginFault.TheVariants.{Busy, LongUrl, Spent}
use Rattle.store_serve.specs.Answers.{answer_to_begin, is_fault}
use Rattle.store_serve.specs.Tabs.{Holds, IsFree}
use Rattle.store_serve.specs.declared.tabs.ScriptTab.{ScriptTab}
use Rattle.store_serve.specs.declared.tabs.Told.{Told}
use Rattle.store_serve.proofs.Leaving.{inner_stays, leaves_writing, same_tabs}
use Rattle.store_serve.proofs.Outcomes.{begin_long, either_on, either_way}
use Rattle.store_serve.proofs.writing.begin_on_tab.Goals as goal
use Rattle.store_serve.proofs.writing.begin_on_tab.Goals.{in-Ok, in-Err+in-Text-1, in-Err+in-Made-1}

-- what follows from a refusal comes with it
on_err : {T E : Type 0} {W Z : Type 0} (r : Result T E) → (W → Z) → OnErr r W → OnErr r Z
on_err (Ok x) f w = tt
on_err (Err x) f w = f w

-- no answer to a beginning tells a fault
no_fault : (r : Result ℕ BeginFault) → is_fault (answer_to_begin r) ≡ false
no_fault (Ok version) = refl
no_fault (Err LongUrl) = refl
no_fault (Err (Busy looked found)) = refl
no_fault (Err (Spent versions)) = refl

module _ (g : Rattle.store_serve.proofs.writing.begin_on_tab.Given.Over) (c : goal.Joined-begin g) where
  was_free : IsFree c.args.pass.now c.args.tab
  was_free = subst (λ (k : ScriptTab). Holds g.C.Cell.tells g.C.Cell.state g.O.Origin.offers c.args.store.now c.args.pass.now c.args.tab k) c.in-Free.is c.requires.holds

  answered : c.match-begin.told.answer ≡ answer_to_begin c.begin.result
  answered = elim c.match-begin.branch [
    | in-Ok w ↦ ap Told.answer w.told-is ∙ sym (ap answer_to_begin w.in-Ok.is)
    | in-Err+in-Text-1 w ↦ ap Told.answer w.told-is ∙ w.refused.ensures ∙ sym (ap answer_to_begin w.in-Err.is)
    | in-Err+in-Made-1 w ↦ ap Told.answer w.told-is ∙ w.refused.ensures ∙ sym (ap answer_to_begin w.in-Err.is)
  ]

  is_free_still : OnErr c.begin.result (IsFree c.begin.new.pass c.args.tab)
  is_free_still = on_err c.begin.result (λ same. same_tabs (view c.args.pass.now) (view c.begin.new.pass) same c.args.tab ∙ was_free) c.begin.ensures.tabs

pub returns-clause-leaves : goal.returns-clause-leaves
returns-clause-leaves g c = let p = c.args.pass.now in let q = c.begin.new.pass in
    leaves_writing g.C.Cell.tells g.C.Cell.state g.O.Origin.offers c.args.store.now c.args.tab p q c.begin.ensures.others
    (either_on c.begin.result (λ version h. h.writes.rests.inner_free) (λ same. inner_stays (view p) (view q) (same_tabs (view p) (view q) same inner) c.requires.ready.inner_free) c.begin.ensures.ok c.begin.ensures.tabs)
    (either_way c.begin.result (λ version h. c.writing_grows.ensures.began c.args.store.now c.args.tab c.args.offer version c.args.url.now _ p q h) (λ fault h. c.writing_grows.ensures.not_taken _ _ _ (view p) (view q) fault h)
    c.begin.ensures.ok c.begin.ensures.err)

pub returns-clause-no_fault : goal.returns-clause-no_fault
returns-clause-no_fault g c = ap is_fault (answered g c) ∙ no_fault c.begin.result

pub returns-clause-served : goal.returns-clause-served
returns-clause-served g c = record {
  met = inl (
    was_free g c,
    record {
      outcome = c.begin.result;
      answer_is = answered g c;
      began = c.begin.ensures.ok;
      refused = c.begin.ensures.err;
      long = begin_long c.begin.result _ _ (answered g c) c.begin.ensures.long;
      free = is_free_still g c;
      stays = c.begin.ensures.hand;
    },
  );
}

pub returns-clause-holds : goal.returns-clause-holds
returns-clause-holds g c = elim c.match-begin.branch [
  | in-Ok w ↦ subst (λ (z : Told). Holding z.tab) (sym w.told-is) (record {
    entry = _;
    writes = w.in-Ok.ensures.ok.writes;
    body_is = c.requires.offer.body_is ∙ ap bytes_of (sym c.in_ok-body.ensures);
    taken_is = refl;
    inside = omega arith;
  })
  | in-Err+in-Text-1 w ↦ subst (λ (z : Told). Holding z.tab) (sym w.told-is) (same_tabs (view c.args.pass.now) (view c.begin.new.pass) w.in-Err.ensures.tabs c.args.tab ∙ was_free g c)
  | in-Err+in-Made-1 w ↦ subst (λ (z : Told). Holding z.tab) (sym w.told-is) (same_tabs (view c.args.pass.now) (view c.begin.new.pass) w.in-Err.ensures.tabs c.args.tab ∙ was_free g c)
]
  where
    Holding : ScriptTab → Type 0
    Holding = Holds g.C.Cell.tells g.C.Cell.state g.O.Origin.offers c.args.store.now c.begin.new.pass c.args.tab
