use Rattle.std.proofs.Common.{arith, subst, Some, ◌≡◌, ◌≤◌, ℕ}
use Rattle.std.specs.Prelude.{IfSome, Option}
use Rattle.store_rule.specs.declared.store.Note.{Note}
use Rattle.store_rule.specs.declared.store.Pass.{Pass}
use Rattle.store_rule.specs.declared.store.Store.{Store}
use Rattle.dir_set.proofs.Range.{all_dirs, eight_dirs}
use Rattle.dir_set.specs.Dirs.{answer_at, dir_count}
use Rattle.dir_set.specs.Notes.{LearnedIn, notes_of}
use Rattle.dir_set.proofs.notes.dir_learn.Goals as goal

pub returns-clause-learns : goal.returns-clause-learns
returns-clause-learns g c =
    let few : dir_count c.args.dirs.now ≤ 8 = omega (arith, c.args.dirs.now.few, c.args.dirs.now.stores.ok.0) in
    let Learns = λ (o : Option (Note g.row.C.Denot)) (s : Store g.row.C.Denot g.row.O.Denot) (p q : Pass g.row.C.Denot).
    (copy : Note g.row.C.Denot) → o ≡ Some copy → LearnedIn g.C.Cell.tells g.C.Cell.state g.O.Origin.offers s p q copy in
    let R = λ (d : ℕ) (s : Store g.row.C.Denot g.row.O.Denot) (p q : Pass g.row.C.Denot). Learns (answer_at (notes_of c.args.note) d) s p q in
    let so = λ (o : Option (Note g.row.C.Denot)) (s : Store g.row.C.Denot g.row.O.Denot) (p q : Pass g.row.C.Denot)
    (h : IfSome o (LearnedIn g.C.Cell.tells g.C.Cell.state g.O.Origin.offers s p q)) (copy : Note g.row.C.Denot) (is : o ≡ Some copy).
    subst (λ (x : Option (Note g.row.C.Denot)). IfSome x (LearnedIn g.C.Cell.tells g.C.Cell.state g.O.Origin.offers s p q)) is h in
    all_dirs c.args.dirs.now c.args.pass.now c.learn_of-8.new.pass 0 8 R
    (eight_dirs c.args.dirs.now R c.args.pass.now c.learn_of.new.pass c.learn_of-2.new.pass c.learn_of-3.new.pass c.learn_of-4.new.pass
    c.learn_of-5.new.pass c.learn_of-6.new.pass c.learn_of-7.new.pass c.learn_of-8.new.pass
    (c.learn_of.ensures.only, λ s p q es ep eq. so _ s p q (c.learn_of.ensures.learns s p q es ep eq))
    (c.learn_of-2.ensures.only, λ s p q es ep eq. so _ s p q (c.learn_of-2.ensures.learns s p q es ep eq))
    (c.learn_of-3.ensures.only, λ s p q es ep eq. so _ s p q (c.learn_of-3.ensures.learns s p q es ep eq))
    (c.learn_of-4.ensures.only, λ s p q es ep eq. so _ s p q (c.learn_of-4.ensures.learns s p q es ep eq))
    (c.learn_of-5.ensures.only, λ s p q es ep eq. so _ s p q (c.learn_of-5.ensures.learns s p q es ep eq))
    (c.learn_of-6.ensures.only, λ s p q es ep eq. so _ s p q (c.learn_of-6.ensures.learns s p q es ep eq))
    (c.learn_of-7.ensures.only, λ s p q es ep eq. so _ s p q (c.learn_of-7.ensures.learns s p q es ep eq))
    (c.learn_of-8.ensures.only, λ s p q es ep eq. so _ s p q (c.learn_of-8.ensures.learns s p q es ep eq))) few
