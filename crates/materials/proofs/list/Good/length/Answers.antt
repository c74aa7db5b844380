use Rattle.std.proofs.Common.{rules}
use Rattle.materials.specs.Layout.{meaning}
use Rattle.materials.proofs.Chains.{bounded, length_encoded}
use Rattle.materials.proofs.list.Good.length.Goals as goal

pub overflow_mul-result : goal.overflow_mul-result
overflow_mul-result c =
    let b = bounded (meaning c.args.self.now.item.now) c.args.self.now.good in
    search rules

pub overflow_add-result-3 : goal.overflow_add-result-3
overflow_add-result-3 c =
    let b = bounded (meaning c.args.self.now.item.now) c.args.self.now.good in
    search rules

pub returns : goal.returns
returns c =
    let b = bounded (meaning c.args.self.now.item.now) c.args.self.now.good in
    let l = length_encoded (meaning c.args.self.now.item.now) in
    (search rules, search rules)
