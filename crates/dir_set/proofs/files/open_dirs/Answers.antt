use Rattle.std.proofs.Common.{List, Some, ap, arith, drop, inl, inr, length, refl, subst, sym, ◌+◌, ◌<◌, ◌≡◌, ◌⊎◌, ◌∙◌, ℕ, ⊎_elim}
use Rattle.std.proofs.lemmas.List.{length-map}
use Rattle.std.proofs.lemmas.Option.{slice_get_read, slice_get_within}
use Rattle.std.specs.FinMap.{get}
use Rattle.std.specs.Prelude.{slice_get, string_bytes}
use Rattle.rock_disk.specs.File.{HasSlots, IsNotAway}
use Rattle.rock_disk.specs.Opened.{IsSmall}
use Rattle.rock_disk.specs.Counts.{Counts, EachEnded, NoneFailed, counts}
use Rattle.rock_open.specs.Opening.{FileSays, OpeningEnds}
use Rattle.rock_open.specs.declared.fault.OpenStoreFault.TheVariants.{BadGeometry, Missing, Small}
use Rattle.dir_set.specs.Parts.{AreOpen}
use Rattle.dir_set.proofs.Dealing.{one_item}
use Rattle.dir_set.proofs.Leaving.{has_now, home_here, leaves, leaves_home, leaves_others, may_close_open, no_stations, one_more_station, says_still, small_now}
use Rattle.dir_set.proofs.OneFile.{there_is}
use Rattle.dir_set.proofs.Openings.{drop_first, first_left, one_more_open, opens_dirs, still_first}
use Rattle.dir_set.proofs.Refusing.{err_is, late_beyond, late_missing, late_small, ok_is_none, refused_by, same_counts}
use Rattle.dir_set.proofs.files.open_dirs.Goals as goal

-- the first file was refused
pub returns-in-Err-clause-refused : goal.returns-in-Err-clause-refused
returns-in-Err-clause-refused g c =
    let name = there_is c.args.names.now 0 c.requires.some in
    let origin = there_is c.args.origins.items 0 (omega (arith, c.requires.some, c.requires.origins, c.args.origins.ok.0)) in
    let r = (c.in-Err.ensures.refused name.0 origin.0 name.1 origin.1).0 in record {
      middle = (counts g.V.Volume.faults g.V.Volume.made g.V.Volume.ended c.args.volume.now);
      opened = no_stations (counts g.V.Volume.faults g.V.Volume.made g.V.Volume.ended c.args.volume.now);
      ends = r.ends;
      ended = r.ended;
      unfailed = r.unfailed;
    }

pub returns-in-Err-clause-says : goal.returns-in-Err-clause-says
returns-in-Err-clause-says g c t name en =
    let origin = there_is c.args.origins.items 0 (omega (arith, c.requires.some, c.requires.origins, c.args.origins.ok.0)) in
    (c.in-Err.ensures.refused name origin.0 en origin.1).0.says t

pub returns-in-Err-clause-bad_slot : goal.returns-in-Err-clause-bad_slot
returns-in-Err-clause-bad_slot g c unfit =
    let name = there_is c.args.names.now 0 c.requires.some in
    let origin = there_is c.args.origins.items 0 (omega (arith, c.requires.some, c.requires.origins, c.args.origins.ok.0)) in
    refused_by (λ fault. fault ≡ BadGeometry 1) 0 (record { dir = 0; fault = c.in-Err.fault }) (λ lt. absurd (omega (arith, lt))) (λ e. (c.in-Err.ensures.refused name.0 origin.0 name.1 origin.1).0.bad_slot unfit)

pub returns-in-Err-clause-bad_passes : goal.returns-in-Err-clause-bad_passes
returns-in-Err-clause-bad_passes g c size unfit =
    let name = there_is c.args.names.now 0 c.requires.some in
    let origin = there_is c.args.origins.items 0 (omega (arith, c.requires.some, c.requires.origins, c.args.origins.ok.0)) in
    refused_by (λ fault. fault ≡ BadGeometry 3) 0 (record { dir = 0; fault = c.in-Err.fault }) (λ lt. absurd (omega (arith, lt))) (λ e. (c.in-Err.ensures.refused name.0 origin.0 name.1 origin.1).0.bad_passes size unfit)

pub returns-in-Err-clause-missing : goal.returns-in-Err-clause-missing
returns-in-Err-clause-missing g c t size passes d name en none =
    let origin = there_is c.args.origins.items 0 (omega (arith, c.requires.some, c.requires.origins, c.args.origins.ok.0)) in
    refused_by (λ fault. fault ≡ Missing) d (record { dir = 0; fault = c.in-Err.fault }) (λ lt. absurd (omega (arith, lt)))
    (λ e. (c.in-Err.ensures.refused name origin.0 (ap (λ (j : ℕ). slice_get c.args.names.now j) e ∙ en) origin.1).0.missing t size passes none)

pub returns-in-Err-clause-small : goal.returns-in-Err-clause-small
returns-in-Err-clause-small g c t size passes d name en bytes is =
    let origin = there_is c.args.origins.items 0 (omega (arith, c.requires.some, c.requires.origins, c.args.origins.ok.0)) in
    refused_by (λ fault. fault ≡ Small bytes) d (record { dir = 0; fault = c.in-Err.fault }) (λ lt. absurd (omega (arith, lt)))
    (λ e. (c.in-Err.ensures.refused name origin.0 (ap (λ (j : ℕ). slice_get c.args.names.now j) e ∙ en) origin.1).0.small t size passes bytes is)

pub returns-in-Err-clause-bad_anchors : goal.returns-in-Err-clause-bad_anchors
returns-in-Err-clause-bad_anchors g c t d name en slots has unfit =
    let origin = there_is c.args.origins.items 0 (omega (arith, c.requires.some, c.requires.origins, c.args.origins.ok.0)) in
    refused_by (λ fault. g.V.Volume.made c.open_first.new.volume ≡ g.V.Volume.made c.args.volume.now + d) d (record { dir = 0; fault = c.in-Err.fault }) (λ lt. absurd (omega (arith, lt)))
    (λ e. let made = (c.in-Err.ensures.refused name origin.0 (ap (λ (j : ℕ). slice_get c.args.names.now j) e ∙ en) origin.1).0.bad_anchors t slots has unfit in omega (arith, made, e))

pub returns-in-Err-clause-kept : goal.returns-in-Err-clause-kept
returns-in-Err-clause-kept g c d name origin en eo = record {
  before_it = λ lt. absurd (omega (arith, lt));
  here = λ e. (c.in-Err.ensures.refused name origin (ap (λ (j : ℕ). slice_get c.args.names.now j) (sym e) ∙ en) (ap (λ (j : ℕ). slice_get c.args.origins.items j) (sym e) ∙ eo)).1;
  behind = λ lt t. pick lt (c.in-Err.ensures.others t name);
}
  where
    pick : 0 < d → (slice_get c.args.names.now 0 ≡ Some name) ⊎ (get (g.V.Volume.files c.open_first.new.volume) name ≡ get (g.V.Volume.files c.args.volume.now) name) → get (g.V.Volume.files c.open_first.new.volume) name ≡ get (g.V.Volume.files c.args.volume.now) name
    pick lt (inl e) = absurd (let same = c.requires.different 0 d name e en in omega (arith, same, lt))
    pick lt (inr e) = e

pub returns-in-Err-clause-back : goal.returns-in-Err-clause-back
returns-in-Err-clause-back g c t name home = pick (c.in-Err.ensures.others t name)
  where
    pick : (slice_get c.args.names.now 0 ≡ Some name) ⊎ (get (g.V.Volume.files c.open_first.new.volume) name ≡ get (g.V.Volume.files c.args.volume.now) name) → IsNotAway (get (g.V.Volume.files c.open_first.new.volume) name)
    pick (inr e) = subst IsNotAway (sym e) home
    pick (inl e) =
        let origin = there_is c.args.origins.items 0 (omega (arith, c.requires.some, c.requires.origins, c.args.origins.ok.0)) in
        ⊎_elim (λ keeps. home_here c.args.slot name (g.V.Volume.files c.args.volume.now) (g.V.Volume.files c.open_first.new.volume) (keeps t) home) (λ again. subst IsNotAway (sym (again.1.back t)) tt) (c.in-Err.ensures.refused name origin.0 e origin.1).1

-- the files behind it, one after the other
pub open_store-requires-clause-home : goal.open_store-requires-clause-home
open_store-requires-clause-home g c κs within t = subst IsNotAway (sym (still_first g.V.Volume.tells g.V.C.Cell.tells g.V.C.Cell.state g.O.Origin.offers c.args.slot c.args.anchors c.args.passes c.args.names.now c.args.origins.items c.requires.different (g.V.Volume.files c.args.volume.now) (g.V.Volume.files c.loop-dir.volume) c.loop-dir.dir c.loop-dir.parts c.loop-dir.invariant.opened c.name_at-name.result.now c.name_at-name.ensures t)) (c.requires.home t c.loop-dir.dir c.name_at-name.result.now c.name_at-name.ensures)

pub add-requires-clause-passes : goal.add-requires-clause-passes
add-requires-clause-passes g c w a e =
    let x = c.loop-dir.invariant.opened.parts.each w a e in
    let many = x.many in let room = x.room in
    let lt = slice_get_within c.args.names.now c.loop-dir.dir c.name_at-name.result.now c.name_at-name.ensures in omega (arith, many, room, lt)

pub close_parts-requires-clause-workers : goal.close_parts-requires-clause-workers
close_parts-requires-clause-workers g c κs within w a e = let x = (c.loop-dir.invariant.opened.parts.each w a e).many in let s = c.loop-dir.invariant.opened.parts.stores in omega (arith, x, s)

pub loop-dir-preserved : goal.loop-dir-preserved
loop-dir-preserved g c =
    let i = c.loop-dir.invariant in
    let lt : c.loop-dir.dir < length c.args.origins.items = omega (arith, slice_get_within c.args.names.now c.loop-dir.dir c.name_at-name.result.now c.name_at-name.ensures, c.requires.origins, c.args.origins.ok.0) in
    record {
      opened = one_more_open g.V.Volume.tells g.V.C.Cell.tells g.V.C.Cell.state g.O.Origin.offers c.args.slot c.args.anchors c.args.passes c.args.names.now c.args.origins.items c.requires.different (g.V.Volume.files c.args.volume.now) (g.V.Volume.files c.loop-dir.volume) (g.V.Volume.files c.open_store.new.volume) c.loop-dir.dir c.loop-dir.parts c.add.new.self i.opened
          c.name_at-name.result.now c.remove-origin.result c.in-Ok-open_store.opened.header c.in-Ok-open_store.opened.store c.in-Ok-open_store.opened.passes c.name_at-name.ensures
          (first_left c.args.origins.items c.loop-dir.dir c.remove-origin.result lt (ap (λ (xs : List _). slice_get xs 0) (sym i.left) ∙ slice_get_read c.loop-dir.origins.items (length c.loop-dir.origins.items) 0 c.remove-origin.result refl (omega (arith, c.remove-origin.ensures.len, c.loop-dir.origins.ok.0)) c.remove-origin.ensures.value))
          c.in-Ok-open_store.ensures.opened c.add.ensures;
      stations = one_more_station c.loop-dir.dir (counts g.V.Volume.faults g.V.Volume.made g.V.Volume.ended c.args.volume.now) (counts g.V.Volume.faults g.V.Volume.made g.V.Volume.ended c.loop-dir.volume) (counts g.V.Volume.faults g.V.Volume.made g.V.Volume.ended c.open_store.new.volume) i.stations (c.in-Ok-open_store.ensures.unfailed ok_is_none).faults c.in-Ok-open_store.ensures.one;
      left = c.remove-origin.ensures.by_index.2 ∙ ap (λ (xs : List _). drop 1 xs) i.left ∙ drop_first c.args.origins.items c.loop-dir.dir;
    }

-- one behind the first was refused, and those before it are closed
pub close_parts-requires-clause-may : goal.close_parts-requires-clause-may
close_parts-requires-clause-may g c κs within = may_close_open g.V.Volume.tells g.V.C.Cell.tells g.V.C.Cell.state g.O.Origin.offers c.args.slot c.args.anchors c.args.passes c.args.names.now c.args.origins.items (let m = c.requires.origins in omega (arith, m, c.args.origins.ok.0)) c.requires.different (g.V.Volume.files c.args.volume.now) (g.V.Volume.files c.loop-dir.volume) (g.V.Volume.files c.open_store.new.volume) (g.V.Volume.files c.open_store.new.volume) c.loop-dir.dir c.loop-dir.parts c.loop-dir.invariant.opened c.name_at-name.result.now c.name_at-name.ensures (λ t. c.in-Err-open_store.ensures.kept t) c.opened_slots_are_wide_and_few.ensures.count c.new_passes_rest.ensures.rest

pub returns-in-Err-open_store-clause-refused : goal.returns-in-Err-open_store-clause-refused
returns-in-Err-open_store-clause-refused g c =
    let f = c.close_parts.ensures in
    let same = same_counts _ _ _ _ _ _ (sym f.faults) (sym f.made) (sym f.ended) in record {
      middle = (counts g.V.Volume.faults g.V.Volume.made g.V.Volume.ended c.loop-dir.volume);
      opened = c.loop-dir.invariant.stations;
      ends = subst (λ (z : Counts). OpeningEnds c.args.slot c.args.anchors c.args.passes (counts g.V.Volume.faults g.V.Volume.made g.V.Volume.ended c.loop-dir.volume) z c.in-Err-open_store.fault) same c.in-Err-open_store.ensures.refused;
      ended = subst (λ (z : Counts). EachEnded (counts g.V.Volume.faults g.V.Volume.made g.V.Volume.ended c.loop-dir.volume) z) same c.in-Err-open_store.ensures.ended;
      unfailed = λ ne. subst (λ (z : Counts). NoneFailed (counts g.V.Volume.faults g.V.Volume.made g.V.Volume.ended c.loop-dir.volume) z) same (c.in-Err-open_store.ensures.unfailed (λ z. ne (err_is z)));
    }

pub returns-in-Err-open_store-clause-says : goal.returns-in-Err-open_store-clause-says
returns-in-Err-open_store-clause-says g c t other en =
    let same : c.name_at-name.result.now ≡ other = one_item (slice_get c.args.names.now c.loop-dir.dir) c.name_at-name.result.now other c.name_at-name.ensures en in
    subst (λ (z : List ℕ). FileSays (g.V.Volume.files c.args.volume.now) z c.args.slot c.args.anchors c.in-Err-open_store.fault) same
    (says_still (g.V.Volume.files c.args.volume.now) (g.V.Volume.files c.loop-dir.volume) c.name_at-name.result.now (still_first g.V.Volume.tells g.V.C.Cell.tells g.V.C.Cell.state g.O.Origin.offers c.args.slot c.args.anchors c.args.passes c.args.names.now c.args.origins.items c.requires.different (g.V.Volume.files c.args.volume.now) (g.V.Volume.files c.loop-dir.volume) c.loop-dir.dir c.loop-dir.parts c.loop-dir.invariant.opened c.name_at-name.result.now c.name_at-name.ensures t) c.args.slot c.args.anchors c.in-Err-open_store.fault (c.in-Err-open_store.ensures.says t))

pub returns-in-Err-open_store-clause-missing : goal.returns-in-Err-open_store-clause-missing
returns-in-Err-open_store-clause-missing g c t size passes d other en none = refused_by (λ fault. fault ≡ Missing) d (record { dir = c.loop-dir.dir; fault = c.in-Err-open_store.fault }) (late_missing g.V.Volume.tells g.V.C.Cell.tells g.V.C.Cell.state g.O.Origin.offers c.args.slot c.args.anchors c.args.passes c.args.names.now c.args.origins.items (let m = c.requires.origins in omega (arith, m, c.args.origins.ok.0)) (g.V.Volume.files c.args.volume.now) (g.V.Volume.files c.loop-dir.volume) c.loop-dir.dir c.loop-dir.parts c.loop-dir.invariant.opened t d other en none)
    (λ e.
    let same : other ≡ c.name_at-name.result.now = one_item (slice_get c.args.names.now c.loop-dir.dir) other c.name_at-name.result.now (ap (λ (j : ℕ). slice_get c.args.names.now j) e ∙ en) c.name_at-name.ensures in
    err_is (c.in-Err-open_store.ensures.missing t size passes ((still_first g.V.Volume.tells g.V.C.Cell.tells g.V.C.Cell.state g.O.Origin.offers c.args.slot c.args.anchors c.args.passes c.args.names.now c.args.origins.items c.requires.different (g.V.Volume.files c.args.volume.now) (g.V.Volume.files c.loop-dir.volume) c.loop-dir.dir c.loop-dir.parts c.loop-dir.invariant.opened c.name_at-name.result.now c.name_at-name.ensures t) ∙ ap (λ (z : List ℕ). get (g.V.Volume.files c.args.volume.now) z) (sym same) ∙ none)))

pub returns-in-Err-open_store-clause-small : goal.returns-in-Err-open_store-clause-small
returns-in-Err-open_store-clause-small g c t size passes d other en bytes is = refused_by (λ fault. fault ≡ Small bytes) d (record { dir = c.loop-dir.dir; fault = c.in-Err-open_store.fault }) (late_small g.V.Volume.tells g.V.C.Cell.tells g.V.C.Cell.state g.O.Origin.offers c.args.slot c.args.anchors c.args.passes c.args.names.now c.args.origins.items (let m = c.requires.origins in omega (arith, m, c.args.origins.ok.0)) (g.V.Volume.files c.args.volume.now) (g.V.Volume.files c.loop-dir.volume) c.loop-dir.dir c.loop-dir.parts c.loop-dir.invariant.opened t d other en bytes is)
    (λ e.
    let same : other ≡ c.name_at-name.result.now = one_item (slice_get c.args.names.now c.loop-dir.dir) other c.name_at-name.result.now (ap (λ (j : ℕ). slice_get c.args.names.now j) e ∙ en) c.name_at-name.ensures in
    err_is (c.in-Err-open_store.ensures.small t size passes bytes (small_now (g.V.Volume.files c.args.volume.now) (g.V.Volume.files c.loop-dir.volume) c.name_at-name.result.now (still_first g.V.Volume.tells g.V.C.Cell.tells g.V.C.Cell.state g.O.Origin.offers c.args.slot c.args.anchors c.args.passes c.args.names.now c.args.origins.items c.requires.different (g.V.Volume.files c.args.volume.now) (g.V.Volume.files c.loop-dir.volume) c.loop-dir.dir c.loop-dir.parts c.loop-dir.invariant.opened c.name_at-name.result.now c.name_at-name.ensures t) c.args.slot bytes (subst (λ (z : List ℕ). IsSmall (g.V.Volume.files c.args.volume.now) z c.args.slot bytes) same is))))

pub returns-in-Err-open_store-clause-bad_anchors : goal.returns-in-Err-open_store-clause-bad_anchors
returns-in-Err-open_store-clause-bad_anchors g c t d other en slots has unfit = refused_by (λ fault. g.V.Volume.made c.close_parts.new.volume ≡ g.V.Volume.made c.args.volume.now + d) d (record { dir = c.loop-dir.dir; fault = c.in-Err-open_store.fault }) (late_beyond g.V.Volume.tells g.V.C.Cell.tells g.V.C.Cell.state g.O.Origin.offers c.args.slot c.args.anchors c.args.passes c.args.names.now c.args.origins.items (let m = c.requires.origins in omega (arith, m, c.args.origins.ok.0)) (g.V.Volume.files c.args.volume.now) (g.V.Volume.files c.loop-dir.volume) c.loop-dir.dir c.loop-dir.parts c.loop-dir.invariant.opened c.opened_slots_are_wide_and_few.ensures.count t d other en slots has unfit)
    (λ e.
    let same : other ≡ c.name_at-name.result.now = one_item (slice_get c.args.names.now c.loop-dir.dir) other c.name_at-name.result.now (ap (λ (j : ℕ). slice_get c.args.names.now j) e ∙ en) c.name_at-name.ensures in
    let none = (c.in-Err-open_store.ensures.bad_anchors t slots (has_now (g.V.Volume.files c.args.volume.now) (g.V.Volume.files c.loop-dir.volume) c.name_at-name.result.now (still_first g.V.Volume.tells g.V.C.Cell.tells g.V.C.Cell.state g.O.Origin.offers c.args.slot c.args.anchors c.args.passes c.args.names.now c.args.origins.items c.requires.different (g.V.Volume.files c.args.volume.now) (g.V.Volume.files c.loop-dir.volume) c.loop-dir.dir c.loop-dir.parts c.loop-dir.invariant.opened c.name_at-name.result.now c.name_at-name.ensures t) c.args.slot slots (subst (λ (z : List ℕ). HasSlots (g.V.Volume.files c.args.volume.now) z c.args.slot slots) same has)) unfit).1.made in
    let made = c.loop-dir.invariant.stations.made in omega (arith, none, made, c.close_parts.ensures.made, e))

pub returns-in-Err-open_store-clause-kept : goal.returns-in-Err-open_store-clause-kept
returns-in-Err-open_store-clause-kept g c d other origin en eo = leaves g.V.Volume.tells g.V.C.Cell.tells g.V.C.Cell.state g.O.Origin.offers c.args.slot c.args.anchors c.args.passes c.args.names.now c.args.origins.items (let m = c.requires.origins in omega (arith, m, c.args.origins.ok.0)) c.requires.different (g.V.Volume.files c.args.volume.now) (g.V.Volume.files c.loop-dir.volume) (g.V.Volume.files c.open_store.new.volume) (g.V.Volume.files c.close_parts.new.volume) c.loop-dir.dir c.loop-dir.parts c.loop-dir.invariant.opened c.name_at-name.result.now c.name_at-name.ensures (λ t. c.in-Err-open_store.ensures.kept t) c.close_parts.ensures.closed c.close_parts.ensures.others (record { dir = c.loop-dir.dir; fault = c.in-Err-open_store.fault }) refl d other origin en eo

pub returns-in-Err-open_store-clause-others : goal.returns-in-Err-open_store-clause-others
returns-in-Err-open_store-clause-others g c = leaves_others g.V.Volume.tells g.V.C.Cell.tells g.V.C.Cell.state g.O.Origin.offers c.args.slot c.args.anchors c.args.passes c.args.names.now c.args.origins.items (let m = c.requires.origins in omega (arith, m, c.args.origins.ok.0)) c.requires.different (g.V.Volume.files c.args.volume.now) (g.V.Volume.files c.loop-dir.volume) (g.V.Volume.files c.open_store.new.volume) (g.V.Volume.files c.close_parts.new.volume) c.loop-dir.dir c.loop-dir.parts c.loop-dir.invariant.opened c.name_at-name.result.now c.name_at-name.ensures (λ t. c.in-Err-open_store.ensures.kept t) c.close_parts.ensures.closed c.close_parts.ensures.others

pub returns-in-Err-open_store-clause-back : goal.returns-in-Err-open_store-clause-back
returns-in-Err-open_store-clause-back g c = leaves_home g.V.Volume.tells g.V.C.Cell.tells g.V.C.Cell.state g.O.Origin.offers c.args.slot c.args.anchors c.args.passes c.args.names.now c.args.origins.items (let m = c.requires.origins in omega (arith, m, c.args.origins.ok.0)) c.requires.different (g.V.Volume.files c.args.volume.now) (g.V.Volume.files c.loop-dir.volume) (g.V.Volume.files c.open_store.new.volume) (g.V.Volume.files c.close_parts.new.volume) c.loop-dir.dir c.loop-dir.parts c.loop-dir.invariant.opened c.name_at-name.result.now c.name_at-name.ensures (λ t. c.in-Err-open_store.ensures.kept t) c.close_parts.ensures.closed c.close_parts.ensures.others

-- all are open
pub returns-clause-opened : goal.returns-clause-opened
returns-clause-opened g c =
    let all : c.loop-dir.dir ≡ length c.args.names.now = (let long = length-map c.as_slice-dir-end.result.now string_bytes in let e = c.loop-dir.auto.dir-end (omega (arith, long, ap length c.as_slice-dir-end.ensures, c.requires.some)) in omega (arith, c.loop-dir-test.false, e, long, ap length c.as_slice-dir-end.ensures)) in
    opens_dirs g.V.Volume.tells g.V.C.Cell.tells g.V.C.Cell.state g.O.Origin.offers c.args.slot c.args.anchors c.args.passes c.args.names.now c.args.origins.items (g.V.Volume.files c.args.volume.now) (g.V.Volume.files c.loop-dir.volume) c.loop-dir.parts (subst (λ (n : ℕ). AreOpen g.V.Volume.tells g.V.C.Cell.tells g.V.C.Cell.state g.O.Origin.offers (g.V.Volume.files c.args.volume.now) (g.V.Volume.files c.loop-dir.volume) c.args.slot c.args.anchors c.args.passes c.args.names.now c.args.origins.items n c.loop-dir.parts) all c.loop-dir.invariant.opened) c.requires.some (let m = c.requires.origins in omega (arith, m, c.args.origins.ok.0)) c.from_stores-dirs.result c.from_stores-dirs.ensures

pub returns-clause-missing : goal.returns-clause-missing
returns-clause-missing g c t size passes d other en none = let all : c.loop-dir.dir ≡ length c.args.names.now = (let long = length-map c.as_slice-dir-end.result.now string_bytes in let e = c.loop-dir.auto.dir-end (omega (arith, long, ap length c.as_slice-dir-end.ensures, c.requires.some)) in omega (arith, c.loop-dir-test.false, e, long, ap length c.as_slice-dir-end.ensures)) in
    absurd (late_missing g.V.Volume.tells g.V.C.Cell.tells g.V.C.Cell.state g.O.Origin.offers c.args.slot c.args.anchors c.args.passes c.args.names.now c.args.origins.items (let m = c.requires.origins in omega (arith, m, c.args.origins.ok.0)) (g.V.Volume.files c.args.volume.now) (g.V.Volume.files c.loop-dir.volume) c.loop-dir.dir c.loop-dir.parts c.loop-dir.invariant.opened t d other en none (omega (arith, slice_get_within c.args.names.now d other en, all)))

pub returns-clause-small : goal.returns-clause-small
returns-clause-small g c t size passes d other en bytes is = let all : c.loop-dir.dir ≡ length c.args.names.now = (let long = length-map c.as_slice-dir-end.result.now string_bytes in let e = c.loop-dir.auto.dir-end (omega (arith, long, ap length c.as_slice-dir-end.ensures, c.requires.some)) in omega (arith, c.loop-dir-test.false, e, long, ap length c.as_slice-dir-end.ensures)) in
    absurd (late_small g.V.Volume.tells g.V.C.Cell.tells g.V.C.Cell.state g.O.Origin.offers c.args.slot c.args.anchors c.args.passes c.args.names.now c.args.origins.items (let m = c.requires.origins in omega (arith, m, c.args.origins.ok.0)) (g.V.Volume.files c.args.volume.now) (g.V.Volume.files c.loop-dir.volume) c.loop-dir.dir c.loop-dir.parts c.loop-dir.invariant.opened t d other en bytes is (omega (arith, slice_get_within c.args.names.now d other en, all)))

pub returns-clause-bad_anchors : goal.returns-clause-bad_anchors
returns-clause-bad_anchors g c t d other en slots has unfit = let all : c.loop-dir.dir ≡ length c.args.names.now = (let long = length-map c.as_slice-dir-end.result.now string_bytes in let e = c.loop-dir.auto.dir-end (omega (arith, long, ap length c.as_slice-dir-end.ensures, c.requires.some)) in omega (arith, c.loop-dir-test.false, e, long, ap length c.as_slice-dir-end.ensures)) in
    absurd (late_beyond g.V.Volume.tells g.V.C.Cell.tells g.V.C.Cell.state g.O.Origin.offers c.args.slot c.args.anchors c.args.passes c.args.names.now c.args.origins.items (let m = c.requires.origins in omega (arith, m, c.args.origins.ok.0)) (g.V.Volume.files c.args.volume.now) (g.V.Volume.files c.loop-dir.volume) c.loop-dir.dir c.loop-dir.parts c.loop-dir.invariant.opened c.opened_slots_are_wide_and_few.ensures.count t d other en slots has unfit (omega (arith, slice_get_within c.args.names.now d other en, all)))
