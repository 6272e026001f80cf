-- When a cache is refused, by what opening each of its files says.
use Rattle.std.proofs.Common.{Bool, List, None, Some, ap, arith, inl, inr, length, ◌<◌, ◌≡◌, ◌≤◌, ◌⊎◌, ◌∙◌, ℕ}
use Rattle.std.specs.FinMap.{get}
use Rattle.std.specs.Prelude.{Err, IsErrOf, IsTrue, Ok, slice_get}
use Rattle.std.proofs.lemmas.Bool.{cases_lt}
use Rattle.std.proofs.lemmas.Option.{slice_get_within}
use Rattle.db_layout.specs.Layout.{slots_of}
use Rattle.rock_disk.specs.Cell.{CellState}
use Rattle.rock_disk.specs.File.{Files, HasSlots}
use Rattle.rock_disk.specs.Opened.{HasShape, IsSmall}
use Rattle.rock_open.specs.declared.fault.OpenStoreFault.{OpenStoreFault}
use Rattle.rock_disk.specs.Counts.{counted}
use Rattle.rock_open.specs.Opening.{IsAnchors}
use Rattle.store_rule.specs.declared.store.Store.{Store}
use Rattle.store_rule.specs.Ground.{Offers}
use Rattle.dir_set.specs.declared.fault.DirFault.{DirFault}
use Rattle.dir_set.specs.declared.parts.DirHome.{DirHome}
use Rattle.dir_set.specs.declared.parts.Parts.{Parts}
use Rattle.dir_set.specs.Files.{IsRefusedBy, OpensDir}
use Rattle.dir_set.specs.Parts.{AreOpen}
use Rattle.dir_set.proofs.OneFile.{there_is}
use Rattle.dir_set.proofs.Openings.{not_beyond, not_missing, not_small}

pub err_is : {T E : Type 0} {e f : E} → IsErrOf {T = T} {E = E} (Err e) f → e ≡ f
err_is h = cc

pub ok_is_none : {T E : Type 0} {x : T} {f : E} → IsErrOf {T = T} {E = E} (Ok x) f → ⊥
ok_is_none h = cc

-- an error is the same whatever would have come of it
pub err_of : {T U E : Type 0} {e f : E} → IsErrOf {T = T} {E = E} (Err e) f → IsErrOf {T = U} {E = E} (Err e) f
err_of h = cc

pub same_counts : (f g m n : ℕ) (e d : List ℕ) → f ≡ g → m ≡ n → e ≡ d → counted f m e ≡ counted g n d
same_counts f g m n e d x y z = ap (λ (k : ℕ). counted k m e) x ∙ ap (λ (k : ℕ). counted g k e) y ∙ ap (λ (k : List ℕ). counted g n k) z

-- a call that was refused at this file was refused no later than at any that has a cause
pub refused_by : {T : Type 0} (R : OpenStoreFault → Type 0) (d : ℕ) (r : DirFault) → (d < r.dir → ⊥) → (r.dir ≡ d → R r.fault) → IsRefusedBy {T = T} d R (Err r)
refused_by R d r late here = record { refused = tt; first = pick (cases_lt d r.dir); here = here }
  where
    pick : (d < r.dir) ⊎ (r.dir ≤ d) → r.dir ≤ d
    pick (inl lt) = absurd (late lt)
    pick (inr le) = le

module _ {C O : Type 0} (told tells : Bool) (state : C → CellState) (offers : O → Offers) (slot anchors passes : ℕ) (names : List (List ℕ)) (origins : List O) (same : length origins ≡ length names) (before mid : Files) (n : ℕ) (p : Parts C O)
    (h : AreOpen told tells state offers before mid slot anchors passes names origins n p) where
  pub opened_there : (d : ℕ) (name : List ℕ) → d < n → slice_get names d ≡ Some name → (o : O) × ((s : Store C O) × ((x : DirHome C) × OpensDir told tells state offers before mid slot anchors passes p.passes.items d name o s x))
  opened_there d name lt en =
      let o = there_is origins d (let within = slice_get_within names d name en in omega (arith, within, same)) in
      let s = there_is p.stores.items d (let m = h.parts.stores in omega (arith, lt, m, p.stores.ok.0)) in
      let x = there_is p.homes.items d (let m = h.parts.homes in omega (arith, lt, m, p.homes.ok.0)) in
      (o.0, (s.0, (x.0, h.each d name o.0 s.0 x.0 en o.1 s.1 x.1)))

  -- a file that is open has no cause to be refused
  pub late_missing : IsTrue told → (d : ℕ) (name : List ℕ) → slice_get names d ≡ Some name → get before name ≡ None → d < n → ⊥
  late_missing t d name en none lt = let x = opened_there d name lt en in let o = x.1.1.1 in not_missing told tells state offers before o.files name slot anchors passes x.0 x.1.1.0.header x.1.0 o.all o.opened t none

  pub late_small : IsTrue told → (d : ℕ) (name : List ℕ) → slice_get names d ≡ Some name → (bytes : ℕ) → IsSmall before name slot bytes → d < n → ⊥
  late_small t d name en bytes small lt = let x = opened_there d name lt en in let o = x.1.1.1 in not_small told tells state offers before o.files name slot anchors passes x.0 x.1.1.0.header x.1.0 o.all o.opened t bytes small

  pub late_beyond : ((slot bytes : ℕ) (header : CellState) (cells : List CellState) → HasShape slot bytes header cells → length cells ≡ slots_of bytes slot)
      → IsTrue told → (d : ℕ) (name : List ℕ) → slice_get names d ≡ Some name → (slots : ℕ) → HasSlots before name slot slots → (IsAnchors anchors slots → ⊥) → d < n → ⊥
  late_beyond count t d name en slots has unfit lt = let x = opened_there d name lt en in let o = x.1.1.1 in not_beyond told tells state offers before o.files name slot anchors passes x.0 x.1.1.0.header x.1.0 o.all o.opened count t slots has unfit
