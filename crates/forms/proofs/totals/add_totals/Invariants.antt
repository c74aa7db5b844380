use Rattle.std.proofs.Common.{◌≡◌, ◌-◌, ◌++◌, length, vec_items, vec_len}
use Rattle.std.specs.List.{range_with_len, flat_map}
use Rattle.forms.specs.Parts.{listed, totals_of, end_of, total_place}
use Rattle.forms.proofs.totals.add_totals.Given as goal

abbrev pub invariant-loop-i : goal.invariant-loop-i
invariant-loop-i l =
    let place = vec_len l.initial.nodes in
    let N = length l.lists.b.now - 1 in
    let M = length l.lists.a.now in
    record {
      nodes : vec_items l.nodes ≡ vec_items l.initial.nodes ++ flat_map (totals_of place l.first l.back N M) (range_with_len 0 l.i);
      sources : vec_items l.sources ≡ vec_items l.initial.sources ++ listed (end_of place l.first l.back N M) l.i;
      next : vec_len l.nodes ≡ total_place place l.first l.back N M l.i;
    }
