use Rattle.std.proofs.Common.{◌≡◌, ℕ, ◌*◌, length, Vec, Global, arith, ap, ◌∙◌}
use Rattle.workload.specs.Urls.{home_of, urls_of}
use Rattle.workload.proofs.Ranges.{length_listed}
use Rattle.workload.proofs.Kept.{urls_below, url_kept, url_left}
use Rattle.workload.proofs.urls.urls_of.Goals as goal
use Rattle.workload.proofs.urls.urls_of.Goals.{then-homes-number+in_ok-push, else-homes-number}

pub bounds-homes-number : goal.bounds-homes-number
bounds-homes-number c =
    let e : length c.args.homes.now ≡ 64 * c.args.workers = length_listed (home_of c.args.workers) (64 * c.args.workers) c.args.homes.now c.requires.homes in
    omega (arith, e)

pub urls-preserved : goal.urls-preserved
urls-preserved c =
    elim c.if-homes-number.branch [
      | then-homes-number+in_ok-push w ↦
          ap (λ (v : Vec ℕ Global). v.items) w.urls-is ∙ w.in_ok-push.ensures.items
          ∙ url_kept c.args.workers c.args.worker c.urls.number c.args.homes.now c.urls.urls.items c.requires.homes c.urls-test.true c.urls.invariant w.if-homes-number.true
      | else-homes-number w ↦
          ap (λ (v : Vec ℕ Global). v.items) w.urls-is
          ∙ url_left c.args.workers c.args.worker c.urls.number c.args.homes.now c.urls.urls.items c.requires.homes c.urls-test.true c.urls.invariant w.if-homes-number.false
    ]

pub returns : goal.returns
unfolding urls_of
returns c =
    let all : c.urls.number ≡ 64 * c.args.workers = omega arith in
    c.from_vec.ensures ∙ c.urls.invariant ∙ ap (urls_below c.args.workers c.args.worker) all
