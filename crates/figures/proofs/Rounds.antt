-- A sheet from the box that so many rounds from zero come to.
use Rattle.std.proofs.Common.{◌≡◌, ℕ, zero, suc, ◌-◌, ◌≤◌, List, map, ℤ, Ok, Err, Result, refl, subst, arith}
use Rattle.arithmetic.specs.Words.{half}
use Rattle.arithmetic.specs.Settings.{FixedArithmetic, Lawful, bits}
use Rattle.kinds.specs.declared.refusal.Refusal.{Refusal}
use Rattle.kinds.specs.declared.values.Bound.{Bound}
use Rattle.wiring.specs.declared.faults.RunFault.TheVariants.{Node as AtNode}
use Rattle.wiring.specs.Graphs.{Graph}
use Rattle.wiring.specs.Lists.{Each₂}
use Rattle.wiring.specs.Runs.{Worked}
use Rattle.wiring.proofs.Simulation.{only, onward_out}
use Rattle.sheet.specs.Rounds.{round, nth_box, new_registers}
use Rattle.sheet.specs.Sheets.{Below, Falls, Sheet, Granted, Nowhere}
use Rattle.sheet.proofs.Boxes.{Met, met_zero, met_more, met_closed, met_refused}

registers_out : {V E : Type 0} (x : Result (Worked V) E) (rs : List V) → new_registers x ≡ Ok rs → (r : Worked V) × (x ≡ Ok r) × (r.registers ≡ rs)
registers_out (Ok r) rs e = (r, refl, only _ _ e)
registers_out (Err f) rs e = absurd (let z : ◌≡◌ {A = ℕ} 0 1 = cc in omega arith)

module _ (s : FixedArithmetic) (law : Lawful s) (g : Graph) (cs : List ℤ) (X : ℕ) where
  met_at : (n : ℕ) (box : List Bound) → nth_box s g cs X n ≡ Ok box → Met s g cs X box
  unfolding nth_box
  met_at zero box e = subst (Met s g cs X) (only _ _ e) (met_zero s law g cs X)
  met_at (suc n) box e =
      let t = onward_out (nth_box s g cs X n) (λ b. new_registers (round s g cs X b)) box e in
      let r = registers_out (round s g cs X t.0) box t.2 in
      subst (Met s g cs X) r.2 (met_more s law g cs X t.0 r.0 (met_at n t.0 t.1) r.1)

  pub granted_at : (n : ℕ) (t : Sheet) (r : Worked Bound) → X ≤ half (bits s) - 1 → nth_box s g cs X n ≡ Ok t.box → round s g cs X t.box ≡ Ok r → Each₂ Below r.registers t.box
      → t.output ≡ r.output → Falls s g cs (map (λ b. b.peak) t.box) t.count t.band t.output_band → Granted s g cs X t
  granted_at n t r range e made within output falls =
      let l = met_closed s law g cs X t.box r t.output (met_at n t.box e) made within output in
      record { range = range; closed = l.closed; least = l.least; met = l.met; output_is = l.output_is; falls = falls }

  pub nowhere_at : (n : ℕ) (box : List Bound) (k : ℕ) (x : Refusal) → nth_box s g cs X n ≡ Ok box → round s g cs X box ≡ Err (AtNode k x) → Nowhere s g cs X k x
  nowhere_at n box k x e refused = met_refused s law g cs X box k x (met_at n box e) refused
