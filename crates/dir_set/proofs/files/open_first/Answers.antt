use Rattle.std.proofs.Common.{List, Some, ap, arith, inl, inr, length, refl, subst, sym, ◌≡◌, ◌≢◌, ◌⊎◌, ◌∙◌, ℕ}
use Rattle.std.proofs.lemmas.List.{length-map}
use Rattle.std.proofs.lemmas.Option.{slice_get_read}
use Rattle.std.specs.FinMap.{get}
use Rattle.std.specs.Prelude.{slice_get, string_bytes}
use Rattle.rock_disk.specs.File.{Files}
use Rattle.rock_open.specs.declared.fault.OpenStoreFault.TheVariants.{Memory}
use Rattle.rock_disk.specs.Counts.{counts}
use Rattle.dir_set.specs.Files.{ClosesAgain, KeepsFile}
use Rattle.dir_set.specs.Parts.{AreParts, IsRefused}
use Rattle.dir_set.proofs.Dealing.{one_item}
use Rattle.dir_set.proofs.Leaving.{as_passes, as_size, closed_alone, kept_beside, kept_here}
use Rattle.dir_set.proofs.Names.{name_or_not, others_inserted}
use Rattle.dir_set.proofs.Openings.{may_close_new, none_open, not_beyond, not_missing, not_small, one_more_open}
use Rattle.dir_set.proofs.Refusing.{err_is, ok_is_none}
use Rattle.dir_set.proofs.files.open_first.Goals as goal

pub returns-in-Err-clause-refused : goal.returns-in-Err-clause-refused
returns-in-Err-clause-refused g c name origin en eo =
    let mine = c.name_at-name.result.now in
    let e = c.in-Err.ensures in
    let same : mine ≡ name = one_item (slice_get c.args.names.now 0) mine name c.name_at-name.ensures en in (
      subst (λ (z : List ℕ). IsRefused g.V.Volume.tells (g.V.Volume.files c.args.volume.now) (counts g.V.Volume.faults g.V.Volume.made g.V.Volume.ended c.args.volume.now)
          (counts g.V.Volume.faults g.V.Volume.made g.V.Volume.ended c.open_store.new.volume) c.args.slot c.args.anchors c.args.passes z c.in-Err.fault) same
          (record {
            ends = e.refused;
            ended = e.ended;
            unfailed = λ ne. e.unfailed (λ z. ne (err_is z));
            says = λ t. e.says t;
            bad_slot = λ unfit. err_is (e.bad_slot unfit);
            bad_passes = λ size unfit. err_is (e.bad_passes size unfit);
            missing = λ t size passes none. err_is (e.missing t size passes none);
            small = λ t size passes bytes is. err_is (e.small t size passes bytes is);
            bad_anchors = λ t slots has unfit. (e.bad_anchors t slots has unfit).1.made;
          }),
      inl (λ t. subst (λ (z : List ℕ). KeepsFile c.args.slot z (g.V.Volume.files c.args.volume.now) (g.V.Volume.files c.open_store.new.volume)) same (kept_here c.args.slot mine (g.V.Volume.files c.args.volume.now) (g.V.Volume.files c.open_store.new.volume) (e.kept t))),
    )

pub returns-in-Err-clause-others : goal.returns-in-Err-clause-others
returns-in-Err-clause-others g c t name = pick (name_or_not name c.name_at-name.result.now)
  where
    pick : ((name ≡ c.name_at-name.result.now) ⊎ (name ≢ c.name_at-name.result.now)) → (slice_get c.args.names.now 0 ≡ Some name) ⊎ (get (g.V.Volume.files c.open_store.new.volume) name ≡ get (g.V.Volume.files c.args.volume.now) name)
    pick (inl same) = inl (c.name_at-name.ensures ∙ ap Some (sym same))
    pick (inr ne) = inr (kept_beside c.args.slot c.name_at-name.result.now (g.V.Volume.files c.args.volume.now) (g.V.Volume.files c.open_store.new.volume) (c.in-Err.ensures.kept t) name ne)

pub add-requires-clause-passes : goal.add-requires-clause-passes
add-requires-clause-passes g c w a e =
    let x = c.in-Ok-with_room.ensures.each w a e in
    let many = x.many in let room = x.room in
    let long = length-map c.as_slice.result.now string_bytes in
    omega (arith, many, room, long, ap length c.as_slice.ensures, c.requires.some)

pub close_file-requires-clause-may : goal.close_file-requires-clause-may
close_file-requires-clause-may g c κs within = may_close_new g.V.Volume.tells g.V.C.Cell.tells g.V.C.Cell.state g.O.Origin.offers (g.V.Volume.files c.args.volume.now) (g.V.Volume.files c.open_store.new.volume) c.name_at-name.result.now
    c.args.slot c.args.anchors c.args.passes c.remove-origin.result c.in-Ok.opened.header c.in-Ok.opened.store c.in-Ok.opened.passes c.in-Ok.ensures.opened c.opened_slots_are_wide_and_few.ensures.count
    c.new_passes_rest.ensures.rest (g.V.Volume.files c.open_store.new.volume) (λ t. refl)

pub returns-in-Ok-with_room-clause-open : goal.returns-in-Ok-with_room-clause-open
returns-in-Ok-with_room-clause-open g c =
    let long = length-map c.as_slice.result.now string_bytes in
    let files : length c.as_slice.result.now ≡ length c.args.names.now = omega (arith, long, ap length c.as_slice.ensures) in
    let workers : c.len.result ≡ c.args.passes = c.len.ensures ∙ c.in-Ok.ensures.opened.store.many in
    let parts = subst (λ (n : ℕ). AreParts n c.args.passes 0 c.in-Ok-with_room.parts) files (subst (λ (n : ℕ). AreParts (length c.as_slice.result.now) n 0 c.in-Ok-with_room.parts) workers c.in-Ok-with_room.ensures) in
    one_more_open g.V.Volume.tells g.V.C.Cell.tells g.V.C.Cell.state g.O.Origin.offers c.args.slot c.args.anchors c.args.passes c.args.names.now c.args.origins.now.items c.requires.different
    (g.V.Volume.files c.args.volume.now) (g.V.Volume.files c.args.volume.now) (g.V.Volume.files c.open_store.new.volume) 0 c.in-Ok-with_room.parts c.add.new.self
    (none_open g.V.Volume.tells g.V.C.Cell.tells g.V.C.Cell.state g.O.Origin.offers c.args.slot c.args.anchors c.args.passes c.args.names.now c.args.origins.now.items (g.V.Volume.files c.args.volume.now) c.in-Ok-with_room.parts parts)
    c.name_at-name.result.now c.remove-origin.result c.in-Ok.opened.header c.in-Ok.opened.store c.in-Ok.opened.passes c.name_at-name.ensures
    (slice_get_read c.args.origins.now.items (length c.args.origins.now.items) 0 c.remove-origin.result refl (omega (arith, c.requires.some, c.requires.origins, c.args.origins.now.ok.0)) c.remove-origin.ensures.value)
    c.in-Ok.ensures.opened c.add.ensures

pub returns-in-Ok-with_room-clause-size : goal.returns-in-Ok-with_room-clause-size
returns-in-Ok-with_room-clause-size g c =
    let size = as_size c.args.slot (λ unfit. ok_is_none (c.in-Ok.ensures.bad_slot unfit)) in (size, as_passes c.args.passes (λ unfit. ok_is_none (c.in-Ok.ensures.bad_passes size unfit)))

pub returns-in-Err-with_room-clause-refused : goal.returns-in-Err-with_room-clause-refused
returns-in-Err-with_room-clause-refused g c name origin en eo =
    let mine = c.name_at-name.result.now in
    let its = c.remove-origin.result in
    let e = c.in-Ok.ensures in
    let f = c.close_file.ensures in
    let before = g.V.Volume.files c.args.volume.now in
    let mid = g.V.Volume.files c.open_store.new.volume in
    let after = g.V.Volume.files c.close_file.new.volume in
    let size = as_size c.args.slot (λ unfit. ok_is_none (e.bad_slot unfit)) in
    let passes = as_passes c.args.passes (λ unfit. ok_is_none (e.bad_passes size unfit)) in
    let name_is : mine ≡ name = one_item (slice_get c.args.names.now 0) mine name c.name_at-name.ensures en in
    let origin_is : its ≡ origin = one_item (slice_get c.args.origins.now.items 0) its origin (slice_get_read c.args.origins.now.items (length c.args.origins.now.items) 0 its refl (omega (arith, c.requires.some, c.requires.origins, c.args.origins.now.ok.0)) c.remove-origin.ensures.value) eo in (
      subst (λ (z : List ℕ). IsRefused g.V.Volume.tells before (counts g.V.Volume.faults g.V.Volume.made g.V.Volume.ended c.args.volume.now)
          (counts g.V.Volume.faults g.V.Volume.made g.V.Volume.ended c.close_file.new.volume) c.args.slot c.args.anchors c.args.passes z Memory) name_is
          (record {
            ends = (size, passes, tt);
            ended = inr (0, record { made = f.made ∙ e.one.made; ended = f.ended ∙ e.one.ended });
            unfailed = λ ne. record {
              faults = f.faults ∙ (e.unfailed ok_is_none).faults;
              station = λ count one. (e.unfailed ok_is_none).station count (record { made = sym f.made ∙ one.made; ended = sym f.ended ∙ one.ended });
            };
            says = λ t. tt;
            bad_slot = λ unfit. absurd (unfit size);
            bad_passes = λ s unfit. absurd (unfit passes);
            missing = λ t s p none. absurd (not_missing g.V.Volume.tells g.V.C.Cell.tells g.V.C.Cell.state g.O.Origin.offers before mid mine c.args.slot c.args.anchors c.args.passes its c.in-Ok.opened.header c.in-Ok.opened.store c.in-Ok.opened.passes e.opened t none);
            small = λ t s p bytes is. absurd (not_small g.V.Volume.tells g.V.C.Cell.tells g.V.C.Cell.state g.O.Origin.offers before mid mine c.args.slot c.args.anchors c.args.passes its c.in-Ok.opened.header c.in-Ok.opened.store c.in-Ok.opened.passes e.opened t bytes is);
            bad_anchors = λ t slots has unfit. absurd (not_beyond g.V.Volume.tells g.V.C.Cell.tells g.V.C.Cell.state g.O.Origin.offers before mid mine c.args.slot c.args.anchors c.args.passes its c.in-Ok.opened.header c.in-Ok.opened.store c.in-Ok.opened.passes e.opened
                c.opened_slots_are_wide_and_few.ensures.count t slots has unfit);
          }),
      inr (
        refl,
        subst (λ (z : List ℕ). ClosesAgain g.V.Volume.tells g.V.C.Cell.tells g.V.C.Cell.state g.O.Origin.offers before after c.args.slot c.args.anchors c.args.passes z origin) name_is
            (subst (λ (z : _). ClosesAgain g.V.Volume.tells g.V.C.Cell.tells g.V.C.Cell.state g.O.Origin.offers before after c.args.slot c.args.anchors c.args.passes mine z) origin_is
            (closed_alone g.V.Volume.tells g.V.C.Cell.tells g.V.C.Cell.state g.O.Origin.offers c.args.slot c.args.anchors c.args.passes before mid after mine its c.in-Ok.opened.header c.in-Ok.opened.store c.in-Ok.opened.passes e.opened f.closed)),
      ),
    )

pub returns-in-Err-with_room-clause-others : goal.returns-in-Err-with_room-clause-others
returns-in-Err-with_room-clause-others g c t name = pick (name_or_not name c.name_at-name.result.now)
  where
    pick : ((name ≡ c.name_at-name.result.now) ⊎ (name ≢ c.name_at-name.result.now)) → (slice_get c.args.names.now 0 ≡ Some name) ⊎ (get (g.V.Volume.files c.close_file.new.volume) name ≡ get (g.V.Volume.files c.args.volume.now) name)
    pick (inl same) = inl (c.name_at-name.ensures ∙ ap Some (sym same))
    pick (inr ne) =
        let o = c.in-Ok.ensures.opened.out t in
        inr (ap (λ (m : Files). get m name) (c.close_file.ensures.closed.back t _ _ _ (c.opened_cells_are_the_files.ensures.away _ _ _ _ _ _ _ o)) ∙ others_inserted (g.V.Volume.files c.open_store.new.volume) c.name_at-name.result.now _ name ne
        ∙ c.opened_cells_are_the_files.ensures.others _ _ _ _ _ _ _ o name ne)
