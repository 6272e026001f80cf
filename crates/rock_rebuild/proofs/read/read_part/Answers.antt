use Rattle.std.proofs.Common.{◌*◌, length, map, ap, sym, ◌∙◌, arith}
use Rattle.std.proofs.lemmas.List.{length-map}
use Rattle.rock_rebuild.specs.Read.{images_in}
use Rattle.rock_rebuild.proofs.Cells.{images_are_wide, images_of_joined, length_of_images}
use Rattle.rock_rebuild.proofs.read.read_part.Goals as goal

pub read_cells-requires : goal.read_cells-requires
read_cells-requires g c =
    let state = g.St.C.Cell.state in
    c.requires.room ∙ sym (c.cells_of_one_width_add_up.ensures c.args.slot (map state c.args.cells.now) c.requires.wide ∙ ap (λ n. n * c.args.slot) (length-map c.args.cells.now state))

pub returns-clause-read : goal.returns-clause-read
returns-clause-read g c =
    let state = g.St.C.Cell.state in
    let cells = c.args.cells.now in
    let slot = c.args.slot in
    let bytes = c.read_cells.new.buf in
    let many = length cells in (
      images_in many slot bytes,
      record {
        count = length_of_images many slot bytes ∙ sym (length-map cells state);
        wide = images_are_wide many slot bytes (omega (arith, c.requires.room, c.read_cells.auto.buf));
        told = λ t. ap (images_in many slot) (c.in_ok-read_cells.ensures.read t) ∙ images_of_joined state cells slot (λ cell. g.met.St.C.Cell.as_wide cell t) c.requires.wide;
      },
      c.in_ok-add_all.ensures.read,
    )
