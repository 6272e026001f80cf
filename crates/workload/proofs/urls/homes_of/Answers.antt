use Rattle.std.proofs.Common.{ℕ, List, [], ◌∷◌, ◌++◌, map, sym, ap, ◌∙◌}
use Rattle.std.specs.List.{range_with_len}
use Rattle.workload.specs.Urls.{home_of}
use Rattle.workload.proofs.Ranges.{map_range_more}
use Rattle.workload.proofs.urls.homes_of.Goals as goal

pub urls-preserved : goal.urls-preserved
urls-preserved c =
    c.in_ok-push.ensures.items ∙ ap (λ (s : List ℕ). s ++ c.in_ok-home_of.field-0 ∷ []) c.urls.invariant
    ∙ ap (λ (h : ℕ). map (home_of c.args.workers) (range_with_len 0 c.urls.number) ++ h ∷ []) c.in_ok-home_of.ensures
    ∙ sym (map_range_more (home_of c.args.workers) c.urls.number)
