use Rattle.std.proofs.Common.{◌∙◌}
use Rattle.file_commands.proofs.Making.{half_made, made_home, made_recorded, maybe_made, unrecorded_leaves, unrecorded_maybe, unrecorded_says}
use Rattle.file_commands.proofs.create.create_file.Goals as goal

pub record-requires-clause-home : goal.record-requires-clause-home
record-requires-clause-home g c κs within t = made_home c.args.slot c.args.slots c.args.name.now (g.V.Volume.files c.args.volume.now) (g.V.Volume.files c.create.new.self) (c.in-Ok.ensures.created t)

pub returns-in-Ok-record-clause-leaves : goal.returns-in-Ok-record-clause-leaves
returns-in-Ok-record-clause-leaves g c t = made_recorded c.args.slot c.args.slots c.args.name.now (g.V.Volume.files c.args.volume.now) (g.V.Volume.files c.create.new.self) (c.in-Ok.ensures.created t) (g.V.Volume.files c.record.new.volume) (c.in-Ok-record.ensures.recorded t)

pub returns-in-Ok-record-clause-whole : goal.returns-in-Ok-record-clause-whole
returns-in-Ok-record-clause-whole g c t made =
    half_made c.args.slot c.args.slots c.args.name.now (g.V.Volume.files c.args.volume.now) (g.V.Volume.files c.create.new.self) (c.in-Ok.ensures.created t) (g.V.Volume.files c.record.new.volume) (c.in-Ok-record.ensures.either t (λ same. made (same ∙ c.in-Ok.ensures.made)))

pub returns-in-Ok-record-clause-back : goal.returns-in-Ok-record-clause-back
returns-in-Ok-record-clause-back g c t home =
    c.created_files_are_in.ensures.maybe _ _ c.args.name.now (maybe_made c.args.slot c.args.slots c.args.name.now (g.V.Volume.files c.args.volume.now) (g.V.Volume.files c.create.new.self) (c.in-Ok.ensures.created t) (g.V.Volume.files c.record.new.volume)
    (made_recorded c.args.slot c.args.slots c.args.name.now (g.V.Volume.files c.args.volume.now) (g.V.Volume.files c.create.new.self) (c.in-Ok.ensures.created t) (g.V.Volume.files c.record.new.volume) (c.in-Ok-record.ensures.recorded t))) home

pub returns-in-Err-clause-says : goal.returns-in-Err-clause-says
returns-in-Err-clause-says g c t =
    unrecorded_says c.args.slot c.args.slots _ _ c.args.name.now (g.V.Volume.files c.args.volume.now) (g.V.Volume.files c.create.new.self) c.in-Err.status
    (record { size = c.slot_size_ok.ensures.0 c.if-not-slot_size_ok.false; count = c.is_slot_count.ensures.0 c.if-not-is_slot_count.false }) (c.in-Ok.ensures.created t) c.in-Err.ensures.refused (c.in-Err.ensures.says t)

pub returns-in-Err-clause-leaves : goal.returns-in-Err-clause-leaves
returns-in-Err-clause-leaves g c =
    unrecorded_leaves g.V.Volume.tells c.args.slot c.args.slots _ _ c.args.name.now (g.V.Volume.files c.args.volume.now) (g.V.Volume.files c.create.new.self) (g.V.Volume.files c.record.new.volume) c.in-Err.status
    c.in-Ok.ensures.created c.in-Err.ensures.refused c.in-Err.ensures.left

pub returns-in-Err-clause-whole : goal.returns-in-Err-clause-whole
returns-in-Err-clause-whole g c t made =
    half_made c.args.slot c.args.slots c.args.name.now (g.V.Volume.files c.args.volume.now) (g.V.Volume.files c.create.new.self) (c.in-Ok.ensures.created t) (g.V.Volume.files c.record.new.volume) (c.in-Err.ensures.either t (λ same. made (same ∙ c.in-Ok.ensures.made)))

pub returns-in-Err-clause-back : goal.returns-in-Err-clause-back
returns-in-Err-clause-back g c t home =
    c.created_files_are_in.ensures.maybe _ _ c.args.name.now (unrecorded_maybe c.args.slot c.args.slots c.args.name.now (g.V.Volume.files c.args.volume.now) (g.V.Volume.files c.create.new.self) (c.in-Ok.ensures.created t) _ _ (g.V.Volume.files c.record.new.volume) c.in-Err.status c.in-Err.ensures.refused (c.in-Err.ensures.left t)) home
