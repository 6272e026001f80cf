-- What a worker prints is not below what lines count as of which it knew.
use Rattle.std.proofs.Common.{arith, Contains, List, ◌<◌, ℕ}
use Rattle.lock_word.specs.Words.{version_of}
use Rattle.core_model.specs.declared.view.Sight.TheVariants.{Stood}
use Rattle.core_model.specs.declared.view.View.{View}
use Rattle.core_model.specs.Anchors.{opening_epoch}
use Rattle.line_account.specs.Answers.{Run}
use Rattle.line_account.specs.Closing.{BegunIn, LineIn, Worker}
use Rattle.line_account.specs.Courses.{Stage, lines_in}
use Rattle.line_account.specs.Crews.{HaveCourses, KnewOf}
use Rattle.line_account.specs.Deeds.{Begins}
use Rattle.line_account.specs.Lines.{IsAt, Served}
use Rattle.line_account.specs.Order.{CountsAt, NotBelow, counts_as}
use Rattle.line_account.specs.Ordering.{AreInOrder}
use Rattle.line_account.proofs.Begun.{begun_after}
use Rattle.line_account.proofs.Crews.{IsKnown, adds, course, has_stage, known_before}
use Rattle.line_account.proofs.Ordering.{Seen, above_seen, itself, not_below_seen, seen_after, seen_on, start_known}
use Rattle.line_account.proofs.Stages.{of_line, of_stage}

module _ {X : Type 0} (r : Run X) (crew : List Worker) {view_at : ℕ → View X} (have : HaveCourses r crew view_at) where
  -- what such a line counts as was seen
  seen_known : (v : View X) (a d : ℕ) (s : Served) (earlier : List Served) → IsKnown r crew have v s earlier → CountsAt r.setting.anchors earlier s a d → Seen r a d v
  seen_known v a d s earlier k counts =
      seen_on r a d k.has.stage.after v k.known (seen_after r k.has.stage k.has.before a d k.adds (of_stage (λ past x. IsAt r.setting.anchors past x a) k.stages s earlier k.has counts.at)
      (of_stage (λ past x. Contains (counts_as x.answer) d) k.stages s earlier k.has counts.counts))

  module _ (a : ℕ) (p : LineIn crew (λ before t. IsAt r.setting.anchors before t a)) where
    abbrev At : List Served → Served → Type 0
    At before t = IsAt r.setting.anchors before t a

    abbrev stages : List (Stage X)
    stages = (have.course p.j p.worker p.at).stages

    -- what was seen before the line is not above what it prints
    of_seen : (d : ℕ) → Seen r a d (has_stage r crew have At p).stage.before → NotBelow d p.served.answer
    of_seen d seen =
        let h = has_stage r crew have At p in
        of_line (λ before t. NotBelow d t.answer) stages p.served p.earlier h
        (not_below_seen r h.stage h.before a d (adds r crew have At p) (of_stage At stages p.served p.earlier h p.so) seen)

    not_below_opening : a < r.setting.anchors → NotBelow (opening_epoch r.setting a) p.served.answer
    not_below_opening small =
        let c = have.course p.j p.worker p.at in
        let h = has_stage r crew have At p in
        of_seen (opening_epoch r.setting a) (itself r a (opening_epoch r.setting a) h.stage.before
        (start_known r c.start h.before h.stage.before (Stood a (opening_epoch r.setting a)) (course r crew have At p) (c.is.begins.opening a small)))

    not_below_known : (e : ℕ) (s : Served) (earlier : List Served) → KnewOf crew p.earlier s earlier → CountsAt r.setting.anchors earlier s a e → NotBelow e p.served.answer
    not_below_known e s earlier knows counts = of_seen e (seen_known (has_stage r crew have At p).stage.before a e s earlier (known_before r crew have At p s earlier knows) counts)

  module _ (a x : ℕ) (p : BegunIn r crew a x) where
    abbrev BeginsSo : List Served → Served → Type 0
    BeginsSo before t = Begins r.setting.anchors t a x

    -- what was seen before the line is of an earlier version
    above_sight : (b d : ℕ) → Seen r b d (has_stage r crew have BeginsSo p).stage.before → version_of d < x
    above_sight b d seen =
        let h = has_stage r crew have BeginsSo p in
        above_seen r h.stage h.before a b x d (adds r crew have BeginsSo p) (of_stage BeginsSo (have.course p.j p.worker p.at).stages p.served p.earlier h p.so) seen

    above_known : (b e : ℕ) (s : Served) (earlier : List Served) → KnewOf crew p.earlier s earlier → CountsAt r.setting.anchors earlier s b e → version_of e < x
    above_known b e s earlier knows counts =
        above_sight b e (seen_known (has_stage r crew have BeginsSo p).stage.before b e s earlier (known_before r crew have BeginsSo p s earlier knows) counts)

    -- and so is the version that a line began of which the worker knew
    above_drawn : (b y : ℕ) (s : Served) (earlier : List Served) → KnewOf crew p.earlier s earlier → Begins r.setting.anchors s b y → y < x
    above_drawn b y s earlier knows began =
        let k = known_before r crew have BeginsSo p s earlier knows in
        let d = begun_after r (lines_in k.has.before) k.has.stage.served b y k.has.stage.after k.adds.tells (of_stage (λ past z. Begins r.setting.anchors z b y) k.stages s earlier k.has began) in
        let low = above_sight b d.epoch (itself r b d.epoch (has_stage r crew have BeginsSo p).stage.before (k.known (Stood b d.epoch) d.seen)) in
        let is = d.version_is in
        omega arith

  pub in_order : AreInOrder r crew
  in_order = record {
    opening = λ a small p. not_below_opening a p small;
    known = λ a e s earlier p knows counts. not_below_known a p e s earlier knows counts;
    begun = λ a b x e s earlier p knows counts. above_known a x p b e s earlier knows counts;
    draws = λ a b x y s earlier p knows began. above_drawn a x p b y s earlier knows began;
  }
