-- How many choices the plan has with which choices begin: the reader stands behind them.
use Prim.Native.Nat.{ℕ}
use native.Mathlib.Omega.{arith}
use mathlib.Core.Path.{◌≡◌, refl, ap, ◌∙◌}
use mathlib.Core.List.{List}
use lib.ListN.{length, length-append}
use Rattle.logic.specs.Checked.{Checked, ok, refused}
use Rattle.logic.specs.Model.{Model}
use Rattle.logic.specs.Plan.{Plan, choices}
use Rattle.logic.specs.Choices.{read_plan}
use Rattle.logic.proofs.Reading.{read_sound}
use Rattle.std.specs.Prelude.{Result}
use Rattle.std.specs.Result.{result_unwrap_or}
use Rattle.refusals.specs.declared.Refusal.{Refusal}
use Rattle.sheets.specs.promises.Ends.{end_of}
use Rattle.plan_judge.specs.promises.State.{plan_size}

module _ (m : Model) (n s : ℕ) (cs : List ℕ) where
  pub size_by_end : (e : Result ℕ Refusal) → e ≡ end_of (length cs) (read_plan m n s cs) → result_unwrap_or e 0 ≡ plan_size n (read_plan m n s cs)
  unfolding end_of plan_size
  size_by_end e i = ap (λ r. result_unwrap_or r 0) i ∙ by (read_plan m n s cs) refl
    where
      by : (c : Checked (Plan n × List ℕ)) → read_plan m n s cs ≡ c → result_unwrap_or (end_of (length cs) c) 0 ≡ plan_size n c
      by (ok x) z = omega (arith, ap length (read_sound m n s cs x z).1 ∙ length-append (choices n x.0) x.1)
      by (refused k) z = refl
