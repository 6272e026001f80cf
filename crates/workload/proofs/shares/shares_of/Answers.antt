use Rattle.std.proofs.Common.{◌≡◌, ◌+◌, ◌<◌, length, Vec, Global, refl, arith, ap, ◌∙◌}
use Rattle.workload.specs.declared.shares.Share.{Share}
use Rattle.workload.specs.Shares.{shares_of}
use Rattle.workload.proofs.Kept.{shares_below, share_kept, share_left, are_some, are_none}
use Rattle.workload.proofs.shares.shares_of.Goals as goal
use Rattle.workload.proofs.shares.shares_of.Goals.{then-not-is_empty+in_ok-push, else-not-is_empty}

pub workers-preserved : goal.workers-preserved
workers-preserved c =
    let e : length c.as_slice.result.now ≡ length c.in_ok-urls.urls = ap length c.as_slice.ensures in
    elim c.if-not-is_empty.branch [
      | then-not-is_empty+in_ok-push w ↦
          let h : 0 < length c.in_ok-urls.urls = are_some c.is_empty.result _ _ c.is_empty.ensures e w.if-not-is_empty.true in
          ap (λ (v : Vec Share Global). v.items) w.shares-is ∙ w.in_ok-push.ensures.items
          ∙ share_kept c.args.workers c.workers.before (c.workers.before + 1) c.in_ok-urls.urls c.workers.shares.items refl c.workers.invariant c.in_ok-urls.ensures h
      | else-not-is_empty w ↦
          let h : length c.in_ok-urls.urls ≡ 0 = are_none c.is_empty.result _ _ c.is_empty.ensures e w.if-not-is_empty.false in
          ap (λ (v : Vec Share Global). v.items) w.shares-is
          ∙ share_left c.args.workers c.workers.before (c.workers.before + 1) c.in_ok-urls.urls c.workers.shares.items refl c.workers.invariant c.in_ok-urls.ensures h
    ]

pub returns : goal.returns
unfolding shares_of
returns c =
    let all : c.workers.before ≡ c.args.workers = omega arith in
    c.workers.invariant ∙ ap (shares_below c.args.workers) all
