use Rattle.std.proofs.Common.{◌≡◌, All, sym, subst, ◌∙◌}
use Rattle.std.proofs.lemmas.Bool.{true≢false}
use Rattle.rebuild_model.specs.Plain.{HasNoEntry, IsFound}
use Rattle.named_rebuild.specs.declared.contents.FirstContent.TheVariants as content
use Rattle.named_rebuild.specs.Contents.{content_at}
use Rattle.named_rebuild.proofs.Facts.{file_entry_gone, no_file_entry}
use Rattle.named_rebuild.proofs.Walking.{none_of, some_of}
use Rattle.named_rebuild.proofs.entry.file_entry.Goals as goal

pub returns-in_default : goal.returns-in_default
returns-in_default c f q here = no_file_entry c.args.file.now c.args.contents.now c.args.first c.requires.there
    (none_of (HasNoEntry c.args.file.now.slot c.args.file.now.slots c.args.first) (IsFound c.args.file.now.slot c.args.file.now.slots c.args.first) c.in_default.is c.in_ok-found.ensures) f q here

pub returns-then-not-are_files : goal.returns-then-not-are_files
returns-then-not-are_files c f q here = file_entry_gone c.args.file.now c.args.contents.now c.one_entry_at_a_slot.ensures c.args.first c.requires.there c.in-Some.found
    (some_of (HasNoEntry c.args.file.now.slot c.args.file.now.slots c.args.first) (IsFound c.args.file.now.slot c.args.file.now.slots c.args.first) c.in-Some.is c.in_ok-found.ensures)
    (λ all. true≢false (sym (c.are_files.ensures.1 (subst (All (λ s. content_at c.args.contents.now s ≡ content.File)) (sym c.as_slice.ensures) all)) ∙ c.if-not-are_files.true)) f q here
