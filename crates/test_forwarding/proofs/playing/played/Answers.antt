use Rattle.std.proofs.Common.{All, List, ap, arith, length, subst, sym, ◌∷◌, ◌∙◌, []}
use Rattle.std.proofs.lemmas.List.{length-append}
use Rattle.std.specs.FinMap.{get}
use Rattle.rock_disk.specs.File.{Files}
use Rattle.test_forwarding_kit.specs.Shared.{shared_of}
use Rattle.script_text.specs.declared.line.Line.{Line}
use Rattle.test_forwarding_kit.specs.Standing.{IsRead}
use Rattle.test_forwarding.proofs.playing.played.Goals as goal

pub station-requires : goal.station-requires
station-requires g c = λ t. c.opened_cells_are_the_files.ensures.there _ _ _ _ _ _ _ (c.in-Ok.ensures.opened.out t)

pub station-requires-2 : goal.station-requires-2
station-requires-2 g c = λ t. let there = c.opened_cells_are_the_files.ensures.there _ _ _ _ _ _ _ (c.in-Ok.ensures.opened.out t) in (there.0, ap (λ (files : Files). get files (100 ∷ 98 ∷ [])) c.station.ensures.files ∙ there.1)

pub end_station-requires : goal.end_station-requires
end_station-requires g c =
    let kept = g.met.V.Volume.ended_were_made c.open_store.new.volume in
    let made = c.in-Ok-station.ensures.made in
    let made_again = c.in_default-station-2.ensures.refused in
    let ended = ap length (c.station-2.ensures.ended ∙ c.station.ensures.ended) in
    omega (arith, kept, made, made_again, ended)

pub serve_script-other-requires-clause-script : goal.serve_script-other-requires-clause-script
serve_script-other-requires-clause-script g c = record {
  offers_are = c.in-Ok.ensures.opened.store.offers_are ∙ ap shared_of (c.new-origin.ensures ∙ sym c.as_slice.ensures);
  read = subst (λ (lines : List Line). All (IsRead lines) lines) (sym c.as_slice.ensures) c.requires.read;
}

pub end_station-requires-2 : goal.end_station-requires-2
end_station-requires-2 g c =
    let kept = g.met.V.Volume.ended_were_made c.open_store.new.volume in
    let made = c.in-Ok-station.ensures.made in
    let made_again = c.in-Ok-station-2.ensures.made in
    let ended = ap length (c.station-2.ensures.ended ∙ c.station.ensures.ended) in
    omega (arith, kept, made, made_again, ended)

pub end_station-requires-3 : goal.end_station-requires-3
end_station-requires-3 g c =
    let kept = g.met.V.Volume.ended_were_made c.open_store.new.volume in
    let made = c.in-Ok-station.ensures.made in
    let made_again = c.end_station-2.ensures.made ∙ c.in-Ok-station-2.ensures.made in
    let before = ap length (c.station-2.ensures.ended ∙ c.station.ensures.ended) in
    let ended = ap length c.end_station-2.ensures.ended ∙ length-append (g.V.Volume.ended c.station-2.new.self) (_ ∷ []) in
    omega (arith, kept, made, made_again, before, ended)
