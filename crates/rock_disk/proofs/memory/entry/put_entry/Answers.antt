use Rattle.std.proofs.Common.{rules, refl, ap, ◌∙◌}
use Rattle.rock_disk.specs.Memory.{files_of}
use Rattle.rock_disk.proofs.Places.{put_at, pushed_at_end}
use Rattle.rock_disk.proofs.memory.entry.put_entry.Goals as goal

pub returns-in-Some-clause-ok : goal.returns-in-Some-clause-ok
returns-in-Some-clause-ok c =
    put_at c.args.name.now c.args.entries.now.items c.deref.result.now c.in-Some.place c.index_mut.result.now
    (record { name = c.index_mut.result.now.name; file = c.args.file }) c.deref.ensures.value c.in-Some.ensures c.index_mut.ensures.value refl

pub returns-clause-ok : goal.returns-clause-ok
returns-clause-ok c =
    ap files_of c.in_ok-push.ensures.items
    ∙ pushed_at_end c.args.name.now c.args.entries.now.items c.deref.result.now
    (record { name = c.from_vec-name.result; file = c.args.file }) c.deref.ensures.value c.in_default.ensures (search rules)
