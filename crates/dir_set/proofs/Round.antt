-- The files from the hand on, and then those from the first one up to it.
use Rattle.std.proofs.Common.{Bool, List, None, Option, Some, arith, inl, inr, length, subst, sym, ◌<◌, ◌≡◌, ◌≤◌, ◌⊎◌, ◌∙◌, ℕ}
use Rattle.std.proofs.lemmas.Bool.{cases_lt}
use Rattle.std.proofs.lemmas.Option.{slice_get_within}
use Rattle.std.specs.Prelude.{IfSome}
use Rattle.rock_disk.specs.Cell.{CellState}
use Rattle.rock_writer.specs.declared.fault.BeginFault.{BeginFault}
use Rattle.store_rule.specs.declared.store.Pass.{Pass}
use Rattle.store_rule.specs.declared.store.Store.{Store}
use Rattle.store_rule.specs.Ground.{Offers}
use Rattle.dir_set.specs.declared.dirs.DirPass.{DirPass}
use Rattle.dir_set.specs.declared.dirs.Dirs.{Dirs}
use Rattle.dir_set.specs.Beginning.{BeginsAmong, BeginsAt, BegunBy, ComesBefore, MayBeginIn, RefusedBegin, RefusesAmong, RefusesBegin}
use Rattle.dir_set.specs.Dirs.{AtDir, AtPass, answer_at, dir_count}
use Rattle.dir_set.proofs.OneFile.{there_is}

module _ {C O : Type 0} (tells : Bool) (state : C → CellState) (offers : O → Offers) (t line : ℕ) (url : List ℕ) (is_durable : Bool) (hand d : ℕ) (s : Store C O) where
  abbrev Refusal : (p q : Pass C) → Type 0
  Refusal p q = (fault : BeginFault) × RefusedBegin tells state offers t line url is_durable s p q fault

  -- it was begun among the first ones
  pub first_round : (dir version : ℕ) (p q : Pass C) → hand ≤ dir → BeginsAmong tells state offers t line url is_durable hand dir version d s p q → BeginsAt tells state offers t line url is_durable hand dir version d s p q
  first_round dir version p q from h = record { before = before; here = h.here; behind = behind }
    where
      before : ComesBefore hand d dir → Refusal p q
      before (inl (above, inl lt)) = h.before above lt
      before (inl (above, inr lt)) = absurd (omega arith)
      before (inr (a, b, c)) = absurd (omega arith)

      behind : ComesBefore hand dir d → q ≡ p
      behind (inl (above, inl lt)) = h.else (inr lt)
      behind (inl (above, inr lt)) = h.else (inl lt)
      behind (inr (a, b, c)) = absurd (omega arith)

  -- or the first ones refused, and it was begun among the others
  pub second_round : (dir version : ℕ) (many : ℕ) (faults : List (Option BeginFault)) (p m q : Pass C) → d < many → dir < hand → RefusesAmong tells state offers t line url is_durable hand many faults d s p m
      → BeginsAmong tells state offers t line url is_durable 0 dir version d s m q → BeginsAt tells state offers t line url is_durable hand dir version d s p q
  second_round dir version many faults p m q inside low r h = record { before = before; here = here; behind = behind }
    where
      before : ComesBefore hand d dir → Refusal p q
      before (inl (above, x)) = let f = r.here above inside in (f.0, subst (λ (z : Pass C). RefusedBegin tells state offers t line url is_durable s p z f.0) (sym (h.else (inr (omega arith)))) f.2)
      before (inr (a, b, c)) = let f = h.before (omega arith) b in (f.0, subst (λ (z : Pass C). RefusedBegin tells state offers t line url is_durable s z q f.0) (r.else (inl a)) f.1)

      here : d ≡ dir → BegunBy tells state offers t line url is_durable s p q version
      here e = subst (λ (z : Pass C). BegunBy tells state offers t line url is_durable s z q version) (r.else (inl (omega arith))) (h.here e)

      behind : ComesBefore hand dir d → q ≡ p
      behind (inl (above, x)) = absurd (omega arith)
      behind (inr (a, b, c)) = h.else (inr b) ∙ r.else (inl c)

  -- or all refused
  pub no_round : (many : ℕ) (faults later : List (Option BeginFault)) (p m q : Pass C) → d < many → (hand ≤ d → answer_at later d ≡ answer_at faults d) → RefusesAmong tells state offers t line url is_durable hand many faults d s p m
      → RefusesAmong tells state offers t line url is_durable 0 hand later d s m q → RefusesBegin tells state offers t line url is_durable later d s p q
  no_round many faults later p m q inside same r h = pick (cases_lt d hand)
    where
      pick : (d < hand) ⊎ (hand ≤ d) → RefusesBegin tells state offers t line url is_durable later d s p q
      pick (inl lt) = let f = h.here (omega arith) lt in (f.0, f.1, subst (λ (z : Pass C). RefusedBegin tells state offers t line url is_durable s z q f.0) (r.else (inl lt)) f.2)
      pick (inr le) = let f = r.here le inside in (f.0, same le ∙ f.1, subst (λ (z : Pass C). RefusedBegin tells state offers t line url is_durable s p z f.0) (sym (h.else (inr le))) f.2)

-- The passes before the two rounds, between them, and after.
module _ {C O : Type 0} (tells : Bool) (state : C → CellState) (offers : O → Offers) (t line : ℕ) (url : List ℕ) (is_durable : Bool) (dirs : Dirs C O) (a b : DirPass C) (hand many : ℕ) (inside : hand < many) (all : many ≡ dir_count dirs) (faults : List (Option BeginFault))
    (had : length a.passes.items ≡ dir_count dirs) (has : length b.passes.items ≡ dir_count dirs)
    (refused : (d : ℕ) → AtDir dirs a b d (RefusesAmong tells state offers t line url is_durable hand many faults d)) where
  pub may_second : ((d : ℕ) → AtPass dirs a d (MayBeginIn tells state offers t line url d)) → (d : ℕ) → d < hand → AtPass dirs b d (MayBeginIn tells state offers t line url d)
  may_second may d lt s m es em =
      let x = there_is a.passes.items d (omega arith) in
      subst (λ (z : Pass C). MayBeginIn tells state offers t line url d s z) (sym ((refused d s x.0 m es x.1 em).else (inl lt))) (may d s x.0 es x.1)

  module _ (c : DirPass C) where
    abbrev Among : ℕ × ℕ → Type 0
    Among x = (0 ≤ x.0) × (x.0 < hand) × ((d : ℕ) → AtDir dirs b c d (BeginsAmong tells state offers t line url is_durable 0 x.0 x.1 d))

    abbrev Rounds : ℕ × ℕ → Type 0
    Rounds x = (x.0 < dir_count dirs) × ((d : ℕ) → AtDir dirs a c d (BeginsAt tells state offers t line url is_durable hand x.0 x.1 d))

    pub then_second : (r : Option (ℕ × ℕ)) → IfSome r Among → IfSome r Rounds
    then_second None h = tt
    then_second (Some x) (above, low, h) = (
      omega arith,
      λ d s p q es ep eq.
          let below = slice_get_within dirs.stores.items d s es in
          let m = there_is b.passes.items d (omega arith) in
          second_round tells state offers t line url is_durable hand d s x.0 x.1 many faults p m.0 q (omega arith) low (refused d s p m.0 es ep m.1) (h d s m.0 q es m.1 eq),
    )

    pub then_none : (later : List (Option BeginFault)) → ((d : ℕ) → hand ≤ d → answer_at later d ≡ answer_at faults d) → ((d : ℕ) → AtDir dirs b c d (RefusesAmong tells state offers t line url is_durable 0 hand later d))
        → (d : ℕ) → AtDir dirs a c d (RefusesBegin tells state offers t line url is_durable later d)
    then_none later same h d s p q es ep eq =
        let below = slice_get_within dirs.stores.items d s es in
        let m = there_is b.passes.items d (omega arith) in
        no_round tells state offers t line url is_durable hand d s many faults later p m.0 q (omega arith) (same d) (refused d s p m.0 es ep m.1) (h d s m.0 q es m.1 eq)
