use denote.Text.{Utf8}
use denote.Shadow.{shadow}
use Rattle.test_stories.proofs.stage.failing.Given as goal

abbrev pub invariant-loop-word : goal.invariant-loop-word
invariant-loop-word l = shadow (Utf8 l.calls) × shadow (Utf8 l.stations)
