use Rattle.exact.proofs.NumberLaws.{sum_comm, sum_assoc, sum_none, sum_neg_none, scale_sum, scale_difference, scale_scale, le_refl, le_trans, le_antisym, le_sum}
use Rattle.exact.proofs.numbers_keep_their_laws.Goals as goal

pub returns : goal.returns
returns c = record {
  sum_comm = sum_comm;
  sum_assoc = sum_assoc;
  sum_zero = sum_none;
  sum_neg = sum_neg_none;
  scale_sum = scale_sum;
  scale_difference = scale_difference;
  scale_scale = scale_scale;
  at_most_itself = le_refl;
  at_most_trans = le_trans;
  at_most_antisym = le_antisym;
  at_most_sum = le_sum;
}
