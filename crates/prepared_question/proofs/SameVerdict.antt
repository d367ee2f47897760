-- A question that is another one node by node has its verdict, the reason of a no, and its limits: they depend only on the bound that each node sets
-- on plans.
use Prim.Native.Nat.{ℕ, ◌-◌, ◌≤◌}
use native.Mathlib.Omega.{arith}
use mathlib.Core.Path.{◌≡◌, refl, sym, ap, ap₂, ◌∙◌}
use mathlib.Core.Bool.{Bool, true, not, ◌||◌}
use mathlib.Core.List.{[], ◌∷◌}
use lib.Dec.{leb}
use lib.ListN.{length}
use Rattle.logic.specs.Lists.{every}
use Rattle.logic.specs.Checked.{Checked, ok, refused, ◌>>=◌}
use Rattle.logic.specs.Grounds.{◌unless◌, decided}
use Rattle.logic.specs.Model.{Model}
use Rattle.logic.specs.Quantity.{Relation}
use Rattle.logic.specs.Bound.{Bound}
use Rattle.logic.specs.Formula.{Formula, never, on_bound}
use Rattle.logic.specs.Verdict.{bound_of, bound_goal, goal, is_equal, verdict, verdict_by}
use Rattle.logic.specs.Reason.{reason_by, reason}
use Rattle.logic.specs.Limits.{every_plan, path_total, plan_total, limits}
use Rattle.blocks.specs.Bytes.{Bytes}
use Rattle.questions.specs.Layout.{start_of, node_count, formulas_of, question_of}
use Rattle.questions.proofs.TableNodeByNode.{all_every, every_same, all_before, before_length}
use Rattle.prepared_question.specs.promises.Nodes.{formula}
use Rattle.prepared_question.specs.promises.Shared.{Alike, Shared}
use Rattle.logic.proofs.OnPlan.{on_plans}

-- ---- by the bound that is set on plans

module _ (m : Model) (s : ℕ) where
  goal_alike : {φ ψ : Formula} → Alike φ ψ → goal m s φ ≡ goal m s ψ
  unfolding goal
  goal_alike e = ap (λ c. c >>= λ b. ok (bound_goal m s b)) (e.bounds m s)

  verdict_alike : {φ ψ : Formula} → Alike φ ψ → verdict m s φ ≡ verdict m s ψ
  unfolding verdict
  verdict_alike e = ap₂ (verdict_by m s) (e.same.truths m s []) (goal_alike e)

module _ (f : ℕ → Relation → ℕ → Bool) (m : Model) where
  -- What `every_plan` asks of one formula.
  abbrev pub plan_test : Formula → Bool
  plan_test = on_bound true (λ n r. every (length m.states) (f n r))

  pub every_node : (b : Bytes) → every_plan f m (formulas_of b) ≡ every (node_count b) (λ i. plan_test (formula b i))
  unfolding every_plan
  every_node b =
      all_every plan_test never (formulas_of b)
      ∙ ap (λ k. every k (λ i. plan_test (formula b i))) (ap length (sym (all_before b)) ∙ before_length b (node_count b))

  abbrev test_by : Checked Bound → Bool
  test_by (refused k) = true
  test_by (ok b) = every (length m.states) (f b.steps b.relation)

  test_bound : (φ : Formula) → test_by (bound_of m 0 φ) ≡ plan_test φ
  unfolding bound_of
  test_bound = on_plans (λ _ c t. test_by c ≡ t) (λ _. refl) (λ n ψ r p q. refl) (λ n l u r p q. refl)

  test_alike : {φ ψ : Formula} → Alike φ ψ → plan_test φ ≡ plan_test ψ
  test_alike {φ} {ψ} e = sym (test_bound φ) ∙ ap test_by (e.bounds m 0) ∙ test_bound ψ

-- ---- the laws for whoever judges

module _ {S A N : ℕ} {q q' : Bytes} (h : Shared S A N q q') (m : Model) where
  pub same_verdict : verdict m (start_of q) (question_of q).root ≡ verdict m (start_of q') (question_of q').root
  unfolding question_of
  same_verdict =
      let n : 1 ≤ node_count q' = h.nodes.formed.some_node in
      verdict_alike m (start_of q) (h.alike (node_count q - 1) (omega (arith, n, h.count)))
      ∙ ap₂ (λ s k. verdict m s (formula q' (k - 1))) (sym h.start) (sym h.count)

  pub same_reason : reason m (start_of q) (question_of q).root ≡ reason m (start_of q') (question_of q').root
  unfolding question_of reason
  same_reason =
      let n : 1 ≤ node_count q' = h.nodes.formed.some_node in
      ap (reason_by m (start_of q)) ((h.alike (node_count q - 1) (omega (arith, n, h.count))).bounds m (start_of q))
      ∙ ap₂ (λ s k. reason m s (formula q' (k - 1))) (sym h.start) (sym h.count)

  test_same : (f : ℕ → Relation → ℕ → Bool) → every_plan f m (formulas_of q) ≡ every_plan f m (formulas_of q')
  test_same f =
      every_node f m q ∙ every_same (node_count q) (λ i l. test_alike f m (h.alike i l))
      ∙ ap (λ k. every k (λ i. plan_test f m (formula q' i))) (sym h.count) ∙ sym (every_node f m q')

  pub same_goal : goal m (start_of q) (question_of q).root ≡ goal m (start_of q') (question_of q').root
  unfolding question_of
  same_goal =
      let n : 1 ≤ node_count q' = h.nodes.formed.some_node in
      goal_alike m (start_of q) (h.alike (node_count q - 1) (omega (arith, n, h.count)))
      ∙ ap₂ (λ s k. goal m s (formula q' (k - 1))) (sym h.start) (sym h.count)

  pub same_limits : limits m (formulas_of q) ≡ limits m (formulas_of q')
  unfolding limits
  same_limits =
      ap₂ (λ a b. decided {A = Unit {0}} (24 unless a ∷ 25 unless b ∷ []) tt)
      (test_same (λ n r s. leb (path_total m n s) 1000000))
      (test_same (λ n r s. not (is_equal r) || leb (plan_total m n s) 65536))
