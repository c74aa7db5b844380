use Rattle.std.proofs.Common.{append_assoc, arith}
use Rattle.std.proofs.lemmas.List.{flat_map_more}
use Rattle.std.proofs.lemmas.Bool.Decides.{nat_tests}
use Rattle.std.proofs.lemmas.Grind.{common_steps}
use Rattle.forms.proofs.Growing.{listed_more}
use Rattle.forms.proofs.Ladders.{counting_more}
use Rattle.forms.proofs.totals.add_totals.Goals as goal

pub loop-i-preserved : goal.loop-i-preserved
loop-i-preserved c = record {
  nodes = grind (arith, flat_map_more, counting_more, append_assoc);
  sources = grind (arith, listed_more, append_assoc);
  next = grind (arith, nat_tests, common_steps);
}
