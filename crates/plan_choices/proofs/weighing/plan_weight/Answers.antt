-- `plan_weight`: what is known at the start is what `learn` makes known there, and the sum over all the choices is the plan's total.
use Prim.Native.Nat.{ℕ, zero-le}
use native.Mathlib.Omega.{arith}
use mathlib.Core.Path.{refl}
use lib.IntN.{ℤ, pos}
use lib.ListN.{length, replicate, length-replicate}
use Rattle.evaluation.proofs.LearnKnows.{cone_node}
use Rattle.plan_choices.proofs.OutcomeSummed.{here_begun, all_weighed, all_small}
use Rattle.plan_choices.proofs.weighing.plan_weight.Goals as goal

pub learn-requires : goal.learn-requires
learn-requires c = let R = c.requires.ready in (cone_node R, omega (arith, R.state, R.prepared.states), omega arith)

pub weigh_from-r-requires : goal.weigh_from-r-requires
weigh_from-r-requires c = let S = c in record { ready = S.requires.ready; d_value = (S.requires.d_value.0, S.requires.d_value.1); here = (here_begun S.requires.ready (replicate 6 0) (replicate 7 (pos 0)) (replicate 280 0) (length-replicate {A = ℤ} 7 (pos 0)) (length-replicate {A = ℕ} 280 0) refl c.learn.ensures S.requires.d_value.2 S.requires.d_value.3, zero-le {n = length S.args.choices.now}) }

pub returns : goal.returns
returns c = let S = c in
    let R = c.weigh_from-r.ensures in record { value = all_weighed S.args.a S.args.d S.requires.ready S.args.n (replicate 6 0) R; range = all_small S.args.a S.args.d S.requires.ready S.args.n (replicate 6 0) R S.requires.d_value.2 S.requires.d_value.3 }
