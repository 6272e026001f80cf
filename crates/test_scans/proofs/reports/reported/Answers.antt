use Rattle.std.proofs.Common.{◌≡◌, List, inl, inr, refl, subst, sym, ℕ}
use Rattle.std.specs.Prelude.{Option}
use Rattle.rock_disk.specs.File.{Files, IsKept, NoneAway}
use Rattle.slot_finding.specs.Finding.{IsKeptFor}
use Rattle.test_scans.proofs.reports.reported.Goals as goal

-- no file is out that was in, where one file was cut anew at most by the slot size that was found
in_still : (name : List ℕ) (given : Option ℕ) (before after : Files) → ((slot : ℕ) (name : List ℕ) (before after : Files) → IsKept slot name before after → NoneAway before → NoneAway after) → IsKeptFor name given before after → NoneAway before → NoneAway after
in_still name given before after home (inl same) none = subst NoneAway (sym same) none
in_still name given before after home (inr found) none = home found.0 name before after found.2 none

pub returns : goal.returns
returns c = in_still _ _ _ _ c.kept_files_have_their_bytes.ensures.home (c.print_report-status.ensures.kept refl) c.requires
