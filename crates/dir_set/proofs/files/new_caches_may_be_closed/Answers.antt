use Rattle.dir_set.proofs.Openings.{may_close_new_dir, some_worker}
use Rattle.dir_set.proofs.files.new_caches_may_be_closed.Goals as goal

pub returns-clause-some : goal.returns-clause-some
returns-clause-some g c told before after slot anchors passes names origins dirs workers homes h same some = some_worker told g.C.Cell.tells g.C.Cell.state g.O.Origin.offers slot anchors passes names origins c.opened_slots_are_wide_and_few.ensures.count c.new_passes_rest.ensures.rest before after dirs workers homes h same some

pub returns-clause-may : goal.returns-clause-may
returns-clause-may g c told before after slot anchors passes names origins dirs workers homes h same = may_close_new_dir told g.C.Cell.tells g.C.Cell.state g.O.Origin.offers slot anchors passes names origins c.opened_slots_are_wide_and_few.ensures.count c.new_passes_rest.ensures.rest before after dirs workers homes h same
