use Rattle.exact.proofs.EnclosureLaws.{encloses_self, sum_encloses, difference_encloses, scale_encloses}
use Rattle.exact.proofs.enclosures_pass.Goals as goal

pub returns : goal.returns
returns c = record { of_itself = encloses_self; of_sum = sum_encloses; of_difference = difference_encloses; of_scale = scale_encloses }
