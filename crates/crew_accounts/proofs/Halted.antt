-- What was halted was never whole: in slots, and so in bytes.
use Rattle.std.proofs.Common.{Bool, List, arith, cond, length, subst, sym, ◌*◌, ◌+◌, ◌-◌, ◌<◌, ◌≡◌, ℕ}
use Rattle.std.proofs.lemmas.Bool.{le-ltb}
use Rattle.store_key.specs.Key.{key_of}
use Rattle.swap_meta.specs.Meta.{meta_bytes}
use Rattle.entry_cut.specs.Content.{content_of, room_of, slots_needed}
use Rattle.core_model.specs.State.{State}
use Rattle.line_account.specs.Closing.{HaltedShort}
use Rattle.store_rule.specs.Ground.{Ground, HaltedShort as HaltedBefore, offering_of, url_of}
use Rattle.crew_accounts.specs.Runs.{Past, run_of}
use Rattle.crew_accounts.proofs.Pieces.{content_size, hold_less}

module _ (sizes : (url : List ℕ) → length (meta_bytes (key_of url) url) ≡ 32 + length url) where
  -- so many slots of this content hold less than it
  below : (slot many : ℕ) (url body : List ℕ) → many < slots_needed (length (content_of url body)) slot → many * room_of slot < 32 + length url + length body
  below slot many url body few = subst (λ size. many * room_of slot < size) (content_size sizes url body) (hold_less (room_of slot) (length (content_of url body)) many few)

  pub halted_short : (g : Ground (List ℕ)) (told : Bool) (past : Past) (state : State (List ℕ)) → HaltedBefore (offering_of g) state → HaltedShort (run_of g told past) state
  halted_short g told past state h = record {
    short = λ i j l u v w iu jv lw a e many number stage stood published named.
        let offer = g.setting.slots + number in
        let few = h.short i j l u v w iu jv lw a e many offer stage stood published named in
        subst (λ (b : Bool). many * room_of g.slot < 32 + length (cond b (past.url offer) (url_of g offer)) + length (cond b (past.body offer) (g.offers.body (offer - g.setting.slots))))
        (sym (le-ltb offer g.setting.slots (omega arith))) (below g.slot many (url_of g offer) (g.offers.body (offer - g.setting.slots)) few);
  }
