-- `after`: the choices after the first of those left are those left without it; at the end none are left.
use Prim.Native.Nat.{ℕ, ◌+◌, ◌≤◌, min}
use native.Mathlib.Omega.{arith}
use native.Mathlib.Decide.{dec_le}
use mathlib.Core.Path.{◌≡◌, subst}
use mathlib.Core.List.{List}
use lib.ListN.{length, drop}
use Rattle.plan_choices.proofs.OutcomeSummed.{after_choice, after_end}
use Rattle.plan_choices.proofs.weighing.after.Goals as goal

next : (s : List ℕ) (at : ℕ) → at ≤ length s → drop (min (at + 1) (length s)) s ≡ drop 1 (drop at s)
next s at h =
    let P : ℕ → Type 0 = λ k. drop k s ≡ drop 1 (drop at s) in
    elim (dec_le (at + 1) (length s)) [
      | yes l ↦ subst P (let e : at + 1 ≡ min (at + 1) (length s) = omega arith in e) (after_choice s at)
      | no l ↦ subst P (let e : at ≡ min (at + 1) (length s) = omega arith in e) (after_end s at (omega arith))
    ]

pub returns : goal.returns
returns c = let e = c.min.ensures in (omega arith, rw e (next c.args.choices.now c.args.at c.requires))
