use Rattle.std.proofs.Common.{◌≡◌, ◌<◌, ◌≤◌, ◌%◌, ℕ, List, arith, sym, ap, ◌∙◌}
use Rattle.script_text.specs.declared.body.Body.{Body}
use Rattle.script_text.specs.declared.request.Request.TheVariants.{Get, Put, Save, Purge}
use Rattle.workload.specs.Requests.{request_of}
use Rattle.workload.proofs.Asked.{asked_get, asked_put, asked_save, asked_purge}
use Rattle.workload.proofs.requests.request_of.Goals as goal
use Rattle.workload.proofs.requests.request_of.Goals.{in-6, in-0-to-3, in-4, in_default}

pub returns : goal.returns
unfolding request_of
returns c =
    elim c.match-second-rem8.branch [
      | in-6 w ↦
          let h : c.args.second % 8 ≡ 6 = omega arith in
          w.result-is ∙ ap (λ (u : List ℕ). Save u w.body_of.result) c.in_ok-url.ensures ∙ ap (λ (b : Body). Save _ b) w.body_of.ensures ∙ sym (asked_save _ _ _ h)
      | in-0-to-3 w ↦
          let h : c.args.second % 8 < 4 = omega arith in
          w.result-is ∙ ap (λ (u : List ℕ). Get u) c.in_ok-url.ensures ∙ sym (asked_get _ _ _ h)
      | in-4 w ↦
          let h : 4 ≤ c.args.second % 8 = omega arith in
          let k : c.args.second % 8 < 6 = omega arith in
          w.result-is ∙ ap (λ (u : List ℕ). Put u w.body_of-in-4.result) c.in_ok-url.ensures ∙ ap (λ (b : Body). Put _ b) w.body_of-in-4.ensures ∙ sym (asked_put _ _ _ h k)
      | in_default w ↦
          let h : c.args.second % 8 ≡ 7 = omega arith in
          w.result-is ∙ ap (λ (u : List ℕ). Purge u) c.in_ok-url.ensures ∙ sym (asked_purge _ _ _ h)
    ]
