-- What the table of best gains decides of a node of operator 9: its total of all steps is the node's best, and its choices spell the first plan that
-- has it.
use Prim.Native.Nat.{ℕ, suc, ◌+◌, ◌*◌, ◌-◌, ◌≤◌, ◌<◌}
use native.Mathlib.Omega.{arith}
use mathlib.Core.Path.{◌≡◌, refl, sym, ap, ap₂, subst, ◌∙◌}
use mathlib.Core.Bool.{Bool}
use mathlib.Core.List.{List, []}
use lib.Dec.{eqb}
use lib.ListN.{get_or}
use Rattle.logic.specs.Model.{Model}
use Rattle.logic.specs.Formula.{sat}
use Rattle.logic.specs.Plan.{choices}
use Rattle.logic.specs.promises.Orders.{weights, order}
use Rattle.logic.specs.promises.Raised.{raised, gain_choice}
use Rattle.logic.specs.promises.Recursion.{greatest, best_plan}
use Rattle.logic.specs.promises.Extension.{chosen_plan}
use Rattle.logic.proofs.GainsByTable.{gains_plan}
use Rattle.blocks.specs.Bytes.{Bytes}
use Rattle.models.specs.Layout.{state_count}
use Rattle.prepared_model.specs.promises.Rows.{model_in}
use Rattle.prepared_model.proofs.ReadByPlace.{states_are}
use Rattle.questions.specs.Layout.{node_of}
use Rattle.prepared_question.specs.promises.Nodes.{formula}
use Rattle.bounds.specs.promises.Bounded.{Bounded, span_before, span_last, lowered, most_of, meets_at}
use Rattle.best_gain.specs.declared.Window.{Window}
use Rattle.best_gain.specs.promises.Tabled.{Filled}
use Rattle.plan_choices.specs.promises.Extended.{by_place, Placed}
use Rattle.plan_choices.proofs.ExtendedChoices.{extend_table}
use Rattle.judging.specs.promises.Decided.{best_raised, best_node, Led}
use Rattle.judging.proofs.NodeBounds.{earned, raised_9, inside, best_most}
use Rattle.judging.proofs.SearchDecides.{led_truth}

-- The window of node j.
abbrev pub window_of : Bytes → ℕ → Window
window_of q j = record { steps = (node_of q j).n; before = span_before q j; last = span_last q j }

module _ {m q : Bytes} {j : ℕ} (b : Bounded m q j) (o : (node_of q j).operator ≡ 9) (least : Bool) {best places : List ℕ}
    (t : Filled least m (window_of q j) best places (32 * suc (node_of q j).n)) where
  abbrev M : Model
  M = model_in m

  abbrev n : ℕ
  n = (node_of q j).n

  none_behind : (x : ℕ) → x - (n - n) ≡ x
  none_behind x = omega arith

  module _ (s : ℕ) (h : s < state_count m) where
    pub table_total : get_or best (32 * n + s) 0 ≡ best_raised m q j s least
    table_total =
        t.totals n s h (omega (arith, b.prepared.states))
        ∙ ap₂ (λ x y. greatest (weights (order least)) M n s (raised x y)) (none_behind (span_before q j)) (none_behind (span_last q j))
        ∙ ap (greatest (weights (order least)) M n s) (sym (raised_9 b s o))

    pub table_small : get_or best (32 * n + s) 0 ≤ most_of m q j
    table_small = subst (λ x. x ≤ most_of m q j) (sym table_total) (best_most b s h least)

    table_plan : chosen_plan M (by_place m places) n s ≡ best_node m q j s least
    table_plan =
        gains_plan M b.prepared.accepted least (by_place m places) (span_before q j) (span_last q j) n s (inside b s h) 0 (λ k t l g. kept k t l (subst (λ i. t < i) (states_are m) g))
        ∙ ap₂ (λ x y. best_plan (weights (order least)) M n s (raised x y)) (none_off (span_before q j)) (none_off (span_last q j))
        ∙ ap (best_plan (weights (order least)) M n s) (sym (raised_9 b s o))
      where
        none_off : (x : ℕ) → x - 0 ≡ x
        none_off x = omega arith

        kept : (k t : ℕ) → k < n → t < state_count m
            → by_place m places (suc k) t ≡ gain_choice least M k (span_before q j - (0 + (n - suc k))) (span_last q j - (0 + (n - suc k))) t
        kept k u l g =
            let z : n - suc k ≡ 0 + (n - suc k) = omega arith in
            (t.choices k u g (omega (arith, b.prepared.states))).1 ∙ ap (λ z. gain_choice least M k (span_before q j - z) (span_last q j - z) u) z

  pub table_placed : Placed m places n
  table_placed = record { few = (earned b o).range.compares.few_steps; inside = λ k s l h. (t.choices k s h (omega (arith, b.prepared.states))).0 }

  pub table_led : (s : ℕ) → s < state_count m → least ≡ eqb (node_of q j).right 1 → {x : ℕ} {met : Bool} → x ≡ get_or best (32 * n + s) 0
      → met ≡ meets_at m q j (lowered m q j x) → (scratch : List ℕ) → Led m q j s scratch places (record { met = met; raised = x; place = 0; given = 0 })
  table_led s h same e f scratch =
      record {
        weighs = e ∙ table_total s h ∙ ap (best_raised m q j s) same;
        bounds = f;
        unplaced = refl;
        table = table_placed;
        chosen = ap (λ z. z.0) (extend_table M (by_place m places) n s scratch) ∙ ap (choices n) (table_plan s h ∙ ap (best_node m q j s) same);
      }

  -- It decides the node in every state.
  pub table_truth : ((node_of q j).right ≡ 2 → ⊥) → (s : ℕ) → s < state_count m → least ≡ eqb (node_of q j).right 1 → {x : ℕ} {met : Bool}
      → x ≡ get_or best (32 * n + s) 0 → met ≡ meets_at m q j (lowered m q j x) → met ≡ sat M (formula q j) s []
  table_truth r s h same e f =
      f ∙ ap (λ x. meets_at m q j (lowered m q j x)) (e ∙ table_total s h ∙ ap (best_raised m q j s) same) ∙ led_truth b s h r
