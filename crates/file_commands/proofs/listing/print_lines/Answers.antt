use Rattle.std.proofs.Common.{List, [], ap, append_assoc, arith, refl, rules, subst, sym, ◌++◌, ◌∷◌, ◌≡◌, ◌∙◌, ℕ}
use Rattle.std.specs.Prelude.{All}
use Rattle.rock_io.specs.LineBuffer.{Puts, Stops, held_of}
use Rattle.rock_io.proofs.Gathering.{at_err, put_next, puts_held, puts_none, stops_behind, stops_held, written_all, written_first}
use Rattle.file_commands.specs.Listing.{HasShortUrl, line_of_found}
use Rattle.file_commands.proofs.Printing.{all_put, lines, on_ok, short_first, short_rest}
use Rattle.file_commands.proofs.listing.print_lines.Goals as goal

pub entries-init : goal.entries-init
entries-init g c = let taken = g.K.Sink.taken c.args.out.now in (
  ([], refl, λ t. subst (λ (z : List ℕ). Puts [] taken [] taken z) (sym c.requires.empty) (puts_none taken [])),
  c.requires.room,
  c.requires.short,
  refl,
)

pub put_line-requires-clause-short : goal.put_line-requires-clause-short
put_line-requires-clause-short g c =
    let split : c.entries.left.now ≡ c.in-Some.entry.now ∷ c.in-Some.rest.now = search rules in
    short_first c.in-Some.entry.now c.in-Some.rest.now (subst (All HasShortUrl) split c.entries.invariant.2)

pub returns-in_err-make_room-clause-prefix : goal.returns-in_err-make_room-clause-prefix
returns-in_err-make_room-clause-prefix g c = let i = c.entries.invariant.0 in
    let first = g.K.Sink.taken c.args.out.now in
    let taken = g.K.Sink.taken c.entries.out in
    let now = g.K.Sink.taken c.make_room.new.out in
    let held = held_of c.entries.buffer in
    let rest = lines c.entries.left.now in at_err c.from_residual.result (λ t.
    subst (λ (z : List ℕ). Stops z first [] now) (sym i.1) (stops_behind i.0 rest first [] taken held now (i.2 t) (stops_held rest taken held now (c.in_err-make_room.ensures.prefix t))))

pub entries-preserved : goal.entries-preserved
entries-preserved g c = let i = c.entries.invariant.0 in
    let first = g.K.Sink.taken c.args.out.now in
    let taken = g.K.Sink.taken c.entries.out in
    let now = g.K.Sink.taken c.make_room.new.out in
    let held = held_of c.entries.buffer in
    let line = line_of_found c.in-Some.entry.now in
    let split : c.entries.left.now ≡ c.in-Some.entry.now ∷ c.in-Some.rest.now = search rules in
    let whole = i.1 ∙ ap (λ l. i.0 ++ lines l) split in (
      (
        i.0 ++ line,
        whole ∙ sym (append_assoc i.0 line (lines c.in-Some.rest.now)),
        λ t. put_next _ i.0 line (lines c.in-Some.rest.now) first [] taken held whole (i.2 t) now _ (puts_held line taken held now _ _ (c.in_ok-make_room.ensures.all t) c.put_line.ensures.held),
      ),
      omega (arith, c.entries.invariant.1, c.in_ok-make_room.ensures.size, c.put_line.ensures.size),
      short_rest c.in-Some.entry.now c.in-Some.rest.now (subst (All HasShortUrl) split c.entries.invariant.2),
      c.in_ok-make_room.ensures.unfailed ∙ c.entries.invariant.3,
    )

pub returns-clause-all : goal.returns-clause-all
returns-clause-all g c = let i = c.entries.invariant.0 in
    let first = g.K.Sink.taken c.args.out.now in
    let taken = g.K.Sink.taken c.entries.out in
    let held = held_of c.entries.buffer in on_ok c.write_to.result (λ all t.
    written_all _ first [] taken held _ refl (all_put c.args.found.now c.entries.left.now i.0 first [] taken held i.1 c.in_default.ensures.cases (i.2 t)) (all t)) c.write_to.ensures.all

pub returns-clause-prefix : goal.returns-clause-prefix
returns-clause-prefix g c = let i = c.entries.invariant.0 in
    let first = g.K.Sink.taken c.args.out.now in
    let taken = g.K.Sink.taken c.entries.out in
    let held = held_of c.entries.buffer in at_err c.write_to.result (λ t.
    written_first _ first [] taken held _ refl (all_put c.args.found.now c.entries.left.now i.0 first [] taken held i.1 c.in_default.ensures.cases (i.2 t)) (c.write_to.ensures.prefix t))
