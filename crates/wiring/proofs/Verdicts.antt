-- An answer that is a fault, or what there is without one.
use Rattle.std.proofs.Common.{◌≡◌, ℕ, Some, None, Ok, Err, Option, refl, arith}
use Rattle.wiring.specs.Runs.{or_fault}

pub fault_none : {A E : Type 0} (x : Option E) (a b : A) → Ok a ≡ or_fault x (Ok b) → x ≡ None
fault_none None a b e = refl
fault_none (Some f) a b e = absurd (let z : ◌≡◌ {A = ℕ} 0 1 = cc in omega arith)

pub fault_some : {A E : Type 0} (x : Option E) (b : A) (f : E) → Err f ≡ or_fault x (Ok b) → x ≡ Some f
fault_some (Some g) b f e = cc
fault_some None b f e = absurd (let z : ◌≡◌ {A = ℕ} 0 1 = cc in omega arith)

pub none_fault : {A E : Type 0} (x : Option E) (a : A) → x ≡ None → Ok a ≡ or_fault x (Ok a)
none_fault x a e = rw e

pub some_fault : {A E : Type 0} (x : Option E) (a : A) (f : E) → x ≡ Some f → Err f ≡ or_fault x (Ok a)
some_fault x a f e = rw e
