-- The entry that a tab writes, in these tests: its whole body is taken at once, and it is ended.
use Rattle.std.proofs.Common.{Bool, List, [], ap, arith, drop, length, refl, sym, take, ◌+◌, ◌≡◌, ◌∙◌, ◌∷◌, ℕ}
use Rattle.std.specs.Prelude.{Err, IfErr, IfOk, Ok, Result}
use Rattle.rock_disk.specs.Cell.{CellState}
use Rattle.rock_writer.specs.Appending.{Appended, MayAppend, NotAppended}
use Rattle.rock_writer.specs.Entries.{Entry, body_in, with_taken}
use Rattle.rock_writer.specs.Finishing.{Finished, MayFinish, NotFinished}
use Rattle.rock_writer.specs.Halting.{Halts}
use Rattle.rock_writer.specs.declared.fault.Ended.{Ended}
use Rattle.rock_writer.specs.declared.fault.WriteFault.{WriteFault}
use Rattle.store_rule.specs.declared.store.Pass.{Pass}
use Rattle.store_rule.specs.declared.store.Store.{Store}
use Rattle.store_rule.specs.Ground.{Offers}
use Rattle.store_rule.specs.Passes.{basis, view}
use Rattle.dir_set.specs.declared.dirs.DirPass.{DirPass}
use Rattle.dir_set.specs.declared.dirs.Dirs.{Dirs}
use Rattle.dir_set.specs.Dirs.{AtDir, IsDirPass, OnlyDir, dir_of}
use Rattle.test_dirs.specs.Offered.{IsReady, IsWriting, Takes}
use Rattle.test_dirs.proofs.Ready.{at_on, at_ready}

take_whole : (xs : List ℕ) → take (length xs) xs ≡ xs
take_whole [] = refl
take_whole (x ∷ xs) = ap (λ (ys : List ℕ). x ∷ ys) (take_whole xs)

module _ {C O : Type 0} (tells : Bool) (state : C → CellState) (offers : O → Offers) (t : ℕ) (offered : Offers) (body : List ℕ) where
  pub may_append : (s : Store C O) (p : Pass C) → (h : Takes tells state offers t offered body 0 s p) → MayAppend tells state offers s t h.entry body p
  may_append s p h = record {
    writes = h.writes;
    continues = sym (ap (λ (xs : List ℕ). take (length body) xs) (ap (λ (n : ℕ). drop n (body_in (basis tells state offers s) h.entry)) h.count_is ∙ h.body_is) ∙ take_whole body);
  }

  pub may_finish : (count : ℕ) (s : Store C O) (p : Pass C) → count ≡ length body → (h : Takes tells state offers t offered body count s p) → MayFinish tells state offers s t h.entry p
  may_finish count s p all h = record { writes = h.writes; all = h.count_is ∙ all ∙ sym (ap (λ (xs : List ℕ). length xs) h.body_is) }

  module _ (dirs : Dirs C O) (a b : DirPass C) (own : IsDirPass tells state offers dirs b) (only : OnlyDir (dir_of a t) a b) where
    pub appended_writing : (taken : ℕ) → IsWriting tells state offers t offered body 0 dirs a
        → AtDir dirs a b (dir_of a t) (λ s p q. (e : Entry) → MayAppend tells state offers s t e body p → Appended tells state offers s t e body p q taken) → IsWriting tells state offers t offered body taken dirs b
    appended_writing taken had at = at_on tells state offers t offered (Takes tells state offers t offered body 0) dirs a b had own only (Takes tells state offers t offered body taken)
        (λ s p q es ep eq h. let x = at s p q es ep eq h.entry (may_append s p h) in record {
          entry = with_taken h.entry (h.entry.taken + taken);
          writes = x.writes;
          count_is = let e = h.count_is in omega arith;
          body_is = h.body_is;
          offers_are = h.offers_are;
        })

    pub append_ready : (f : WriteFault) → IsWriting tells state offers t offered body 0 dirs a
        → AtDir dirs a b (dir_of a t) (λ s p q. (e : Entry) → MayAppend tells state offers s t e body p → NotAppended tells state offers s t e body p q f) → IsReady tells state offers t offered dirs b
    append_ready f had at = at_ready tells state offers t offered (Takes tells state offers t offered body 0) dirs a b had own only
        (λ s p q es ep eq h. let x = at s p q es ep eq h.entry (may_append s p h) in record { free = x.halts.parted.free; inner_free = x.halts.parted.inner_free; offers_are = h.offers_are })

    pub abort_ready : (count : ℕ) → IsWriting tells state offers t offered body count dirs a → AtDir dirs a b (dir_of a t) (λ s p q. Halts (basis tells state offers s) t (view p) (view q)) → IsReady tells state offers t offered dirs b
    abort_ready count had at = at_ready tells state offers t offered (Takes tells state offers t offered body count) dirs a b had own only
        (λ s p q es ep eq h. let x = at s p q es ep eq in record { free = x.parted.free; inner_free = x.parted.inner_free; offers_are = h.offers_are })

    pub finish_ready : (count : ℕ) → count ≡ length body → IsWriting tells state offers t offered body count dirs a → (r : Result Ended WriteFault)
        → AtDir dirs a b (dir_of a t) (λ s p q. (e : Entry) → MayFinish tells state offers s t e p → IfOk r (λ ended. Finished tells state offers s t e p q ended))
        → AtDir dirs a b (dir_of a t) (λ s p q. (e : Entry) → MayFinish tells state offers s t e p → IfErr r (λ fault. NotFinished tells state offers s t e p q fault)) → IsReady tells state offers t offered dirs b
    finish_ready count all had (Ok ended) ok err = at_ready tells state offers t offered (Takes tells state offers t offered body count) dirs a b had own only
        (λ s p q es ep eq h. let x = ok s p q es ep eq h.entry (may_finish count s p all h) in record { free = x.parted.free; inner_free = x.parted.inner_free; offers_are = h.offers_are })
    finish_ready count all had (Err f) ok err = at_ready tells state offers t offered (Takes tells state offers t offered body count) dirs a b had own only
        (λ s p q es ep eq h. let x = err s p q es ep eq h.entry (may_finish count s p all h) in record { free = x.halts.parted.free; inner_free = x.halts.parted.inner_free; offers_are = h.offers_are })
