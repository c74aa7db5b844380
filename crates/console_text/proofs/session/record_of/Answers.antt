use Rattle.std.proofs.Common.{◌-◌, ◌<◌, vec_items, sym, subst}
use Rattle.console_text.proofs.Finding.{from_one, in_parts, in_records, the_material}
use Rattle.console_text.proofs.session.record_of.Goals as goal

pub overflow_sub-found : goal.overflow_sub-found
overflow_sub-found c =
    let says = c.in_ok-records.ensures.answer in
    from_one c.args.file.now c.args.name.now (vec_items c.in_ok-records.records) c.in_ok-found.found.number c.in_ok-found.ensures.found.stands says.1

pub remove-requires : goal.remove-requires
remove-requires c =
    let rs = c.in_ok-records.records in
    let says = c.in_ok-records.ensures.answer in
    subst (λ n. c.in_ok-found.found.number - 1 < n) (sym rs.ok.0) (in_records c.args.file.now c.args.name.now (vec_items rs) c.in_ok-found.found.number c.in_ok-found.ensures.found.stands says.1)

pub returns : goal.returns
returns c =
    let rs = vec_items c.in_ok-records.records in
    let found = c.in_ok-found.ensures.found in
    let n = c.in_ok-found.found.number in
    let says = c.in_ok-records.ensures.answer in
    record {
      accepted = found.accepted;
      number = n;
      stands = found.stands;
      within = in_parts c.args.file.now c.args.name.now rs n found.stands says.1;
      is = the_material c.args.file.now c.args.name.now rs n found.stands says.1 c.remove.result c.remove.ensures.value;
    }
