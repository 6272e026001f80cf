use Rattle.std.proofs.Common.{List, ap, arith, drop, inl, inr, length, refl, subst, sym, ◌+◌, ◌<◌, ◌≡◌, ◌≤◌, ◌∙◌, ◌⊎◌, ℕ}
use Rattle.std.proofs.lemmas.Option.{slice_get_within}
use Rattle.std.specs.FinMap.{get}
use Rattle.std.specs.Prelude.{Some, slice_get}
use Rattle.dir_set.specs.declared.dirs.DirPass.{DirPass}
use Rattle.std.specs.Vec.{with_items}
use Rattle.dir_set.specs.declared.parts.Parts.{Parts}
use Rattle.dir_set.specs.Files.{ArePassesAt, MayCloseDir}
use Rattle.dir_set.specs.Parts.{Gathered}
use Rattle.dir_set.proofs.Closings.{Closing, closing_none, closing_one, last_home, last_store, may_close_next}
use Rattle.dir_set.proofs.Dealing.{filled, put_length}
use Rattle.dir_set.proofs.OneFile.{there_is}
use Rattle.dir_set.proofs.files.close_parts.Goals as goal

pub loop-store-init : goal.loop-store-init
loop-store-init g c = record {
  closing = closing_none g.V.Volume.tells g.V.C.Cell.tells g.V.C.Cell.state g.O.Origin.offers c.args.names.now (g.V.Volume.files c.args.volume.now) c.args.parts
      (let m = c.requires.files.1 in omega (arith, m, c.args.parts.homes.ok.0, c.args.parts.stores.ok.0))
      (λ w a e. let m = c.requires.workers w a e in omega (arith, m, a.passes.ok.0, c.args.parts.stores.ok.0));
  faults = refl;
  made = refl;
  ended = refl;
}

pub close_next-requires-clause-there : goal.close_next-requires-clause-there
close_next-requires-clause-there g c κs within w a e =
    let h = c.loop-store.invariant.closing in
    let at : slice_get c.loop-store.parts.passes.items w ≡ Some a = ap (λ (xs : List (DirPass g.row.V-C.Denot)). slice_get xs w) (sym c.deref_mut.ensures.value) ∙ e in
    let lt = slice_get_within c.loop-store.parts.passes.items w a at in
    let first = there_is c.args.parts.passes.items w (let m = h.workers_many in omega (arith, lt, m)) in
    let long = (h.workers w first.0 a first.1 at).0 in
    omega (arith, long, a.passes.ok.0, c.len-dir.ensures, c.pop.new.self.ok.0, ap length c.in-Some.ensures.items, put_length c.pop.new.self.items c.in-Some.store)

pub close_next-requires-clause-may : goal.close_next-requires-clause-may
close_next-requires-clause-may g c κs within =
    let h = c.loop-store.invariant.closing in
    let k = c.len-dir.result in
    let one : length c.loop-store.parts.stores.items ≡ k + 1 = omega (arith, c.len-dir.ensures, c.pop.new.self.ok.0, ap length c.in-Some.ensures.items, put_length c.pop.new.self.items c.in-Some.store) in
    subst (λ (xs : List (DirPass g.row.V-C.Denot)). MayCloseDir g.V.Volume.tells g.V.C.Cell.tells g.V.C.Cell.state g.O.Origin.offers (g.V.Volume.files c.loop-store.volume) xs k c.name_at.result.now c.in-Some.store c.in-Some-pop.home) (sym c.deref_mut.ensures.value)
    (may_close_next g.V.Volume.tells g.V.C.Cell.tells g.V.C.Cell.state g.O.Origin.offers c.args.names.now (g.V.Volume.files c.args.volume.now) (g.V.Volume.files c.loop-store.volume) c.args.parts c.loop-store.parts
    (length c.loop-store.parts.stores.items) k h one c.requires.different c.name_at.result.now c.name_at.ensures c.in-Some.store c.in-Some-pop.home
    (c.requires.may k c.name_at.result.now c.in-Some.store c.in-Some-pop.home c.name_at.ensures
    (last_store g.V.Volume.tells g.V.C.Cell.tells g.V.C.Cell.state g.O.Origin.offers c.args.names.now (g.V.Volume.files c.args.volume.now) (g.V.Volume.files c.loop-store.volume) c.args.parts c.loop-store.parts (length c.loop-store.parts.stores.items) k h one c.pop.new.self.items c.in-Some.store c.in-Some.ensures.items)
    (last_home g.V.Volume.tells g.V.C.Cell.tells g.V.C.Cell.state g.O.Origin.offers c.args.names.now (g.V.Volume.files c.args.volume.now) (g.V.Volume.files c.loop-store.volume) c.args.parts c.loop-store.parts (length c.loop-store.parts.stores.items) k h one c.pop-in-Some.new.self.items c.in-Some-pop.home c.in-Some-pop.ensures.items)))

pub loop-store-preserved : goal.loop-store-preserved
loop-store-preserved g c =
    let i = c.loop-store.invariant in
    let h = i.closing in
    let k = c.len-dir.result in
    let p = c.loop-store.parts in
    let one : length p.stores.items ≡ k + 1 = omega (arith, c.len-dir.ensures, c.pop.new.self.ok.0, ap length c.in-Some.ensures.items, put_length c.pop.new.self.items c.in-Some.store) in
    let same : k ≡ length c.pop.new.self.items = omega (arith, c.len-dir.ensures, c.pop.new.self.ok.0) in
    let row = subst (λ (xs : List (DirPass g.row.V-C.Denot)). ArePassesAt xs k c.close_next.ensures.closed.0) c.deref_mut.ensures.value c.close_next.ensures.closed.1 in
    let left = subst (λ (xs : List (DirPass g.row.V-C.Denot)). Gathered k xs c.close_next.new.workers) c.deref_mut.ensures.value c.close_next.ensures.left in
    let whole = filled c.close_next.new.workers (drop (length c.close_next.new.workers) p.passes.items) p.passes.len (let m = left.many in omega (arith, m, p.passes.ok.0)) in
    let store_is = last_store g.V.Volume.tells g.V.C.Cell.tells g.V.C.Cell.state g.O.Origin.offers c.args.names.now (g.V.Volume.files c.args.volume.now) (g.V.Volume.files c.loop-store.volume) c.args.parts p (length p.stores.items) k h one c.pop.new.self.items c.in-Some.store c.in-Some.ensures.items in
    let home_is = last_home g.V.Volume.tells g.V.C.Cell.tells g.V.C.Cell.state g.O.Origin.offers c.args.names.now (g.V.Volume.files c.args.volume.now) (g.V.Volume.files c.loop-store.volume) c.args.parts p (length p.stores.items) k h one c.pop-in-Some.new.self.items c.in-Some-pop.home c.in-Some-pop.ensures.items in
    let may = c.requires.may k c.name_at.result.now c.in-Some.store c.in-Some-pop.home c.name_at.ensures store_is home_is in
    let q : Parts g.row.V-C.Denot g.row.O.Denot = record { stores = c.pop.new.self; homes = c.pop-in-Some.new.self; passes = with_items p.passes c.close_next.new.workers } in
    record {
      closing = subst (λ (n : ℕ). Closing g.V.Volume.tells g.V.C.Cell.tells g.V.C.Cell.state g.O.Origin.offers c.args.names.now (g.V.Volume.files c.args.volume.now) (g.V.Volume.files c.close_next.new.volume) c.args.parts q n) same
          (closing_one g.V.Volume.tells g.V.C.Cell.tells g.V.C.Cell.state g.O.Origin.offers c.args.names.now (g.V.Volume.files c.args.volume.now) (g.V.Volume.files c.loop-store.volume) c.args.parts p (length p.stores.items) k h one
          c.requires.different c.name_at.result.now c.name_at.ensures (g.V.Volume.files c.close_next.new.volume) q c.in-Some.store c.in-Some-pop.home c.close_next.ensures.closed.0 row c.close_next.ensures.closed.2 c.in-Some.ensures.items c.in-Some-pop.ensures.items
          (subst (λ (xs : List (DirPass g.row.V-C.Denot)). Gathered k p.passes.items xs) (sym whole) left)
          (λ t. let a = may.may.away t in (_, (_, (a.0, a.1)))));
      faults = c.close_next.ensures.faults ∙ i.faults;
      made = c.close_next.ensures.made ∙ i.made;
      ended = c.close_next.ensures.ended ∙ i.ended;
    }

pub returns-clause-closed : goal.returns-clause-closed
returns-clause-closed g c d name s h en es eh =
    c.loop-store.invariant.closing.closed d name s h (let none = c.in_default.ensures.cases.0 in omega (arith, none, c.loop-store.parts.stores.ok.0)) en es eh

pub returns-clause-others : goal.returns-clause-others
returns-clause-others g c t name = pick (c.loop-store.invariant.closing.others t name)
  where
    pick : ((d : ℕ) × (length c.loop-store.parts.stores.items ≤ d) × (d < length c.args.parts.stores.items) × (slice_get c.args.names.now d ≡ Some name)) ⊎ (get (g.V.Volume.files c.loop-store.volume) name ≡ get (g.V.Volume.files c.args.volume.now) name)
        → ((d : ℕ) × (d < c.args.parts.stores.len) × (slice_get c.args.names.now d ≡ Some name)) ⊎ (get (g.V.Volume.files c.loop-store.volume) name ≡ get (g.V.Volume.files c.args.volume.now) name)
    pick (inl x) = inl (x.0, let lt = x.2 in omega (arith, lt, c.args.parts.stores.ok.0), x.3)
    pick (inr e) = inr e
