use Rattle.std.proofs.Common.{◌≡◌}
use Rattle.core_model.specs.Opening.{new_views}
use Rattle.core_table.specs.Inside.{setting}
use Rattle.core_change.proofs.opened.new_views.Given as goal

abbrev pub invariant-loop-pass : goal.invariant-loop-pass
invariant-loop-pass l = l.views.items ≡ new_views (setting l.opening) 0 l.pass
