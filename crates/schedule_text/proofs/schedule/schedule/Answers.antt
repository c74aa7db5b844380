use Rattle.std.proofs.Common.{◌≡◌, None, vec_items, sym, subst}
use Rattle.std.specs.List.{AllByRecursion}
use Rattle.materials.specs.Lists.{record_fault}
use Rattle.schedule_text.proofs.Lines.{good_records}
use Rattle.schedule_text.proofs.schedule.schedule.Goals as goal

pub put_lines-requires : goal.put_lines-requires
put_lines-requires c = subst (AllByRecursion (λ r. record_fault r ≡ None)) (sym c.as_slice.ensures.value) (good_records (vec_items c.in-Ok.records) c.in-Ok.ensures.exactly.0)
